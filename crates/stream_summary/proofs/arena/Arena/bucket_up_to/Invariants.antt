use Rattle.std.proofs.Common.{◌<◌, ◌≤◌, length}
use Rattle.std.specs.Prelude.{IfSome}
use Rattle.stream_summary.specs.Buckets.{count_of, counts_left}
use Rattle.stream_summary.proofs.arena.Arena.bucket_up_to.Given as goal

-- what was found has at most that count
abbrev pub invariant-loop-next : goal.invariant-loop-next
invariant-loop-next l = record {
  within : IfSome l.found (λ b. b.0 < length l.self.buckets.items);
  below : IfSome l.found (λ b. count_of l.self.buckets.items b.0 ≤ l.count);
}

abbrev pub decreases-loop-next : goal.decreases-loop-next
decreases-loop-next l = counts_left l.self.buckets.items l.count l.found
