use Rattle.stream_summary.proofs.ReadIndexLemmas.{IsAtIndex}
use Rattle.stream_summary.proofs.arena.Arena.entry_in_order.Given as goal

-- the next entry is the one at that index
abbrev pub invariant-loop-passed : goal.invariant-loop-passed
invariant-loop-passed l = IsAtIndex l.self.order.order l._passed l.next
