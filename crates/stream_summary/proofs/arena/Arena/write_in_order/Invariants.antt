use Rattle.std.proofs.Common.{◌≡◌, take}
use Rattle.stream_summary.specs.Buckets.{entries_at}
use Rattle.stream_summary.proofs.ReadIndexLemmas.{IsAtIndex}
use Rattle.stream_summary.proofs.arena.Arena.write_in_order.Given as goal

-- the entries so far
abbrev pub invariant-loop-place : goal.invariant-loop-place
invariant-loop-place l = record {
  next : IsAtIndex l.self.order.order l.place l.next;
  written : take l.place l.into ≡ entries_at l.self.slots.items l.self.buckets.items (take l.place l.self.order.order);
}
