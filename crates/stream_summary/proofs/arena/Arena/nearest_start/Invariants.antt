use Rattle.std.proofs.Common.{◌<◌, ◌≤◌, IfSome, length}
use Rattle.stream_summary.specs.Buckets.{count_of}
use Rattle.stream_summary.proofs.arena.Arena.nearest_start.Given as goal

-- the search may begin there
abbrev pub invariant-loop-recent : goal.invariant-loop-recent
invariant-loop-recent l = record {
  within : IfSome l.start (λ b. b.0 < length l.self.buckets.items);
  below : IfSome l.start (λ b. count_of l.self.buckets.items b.0 ≤ l.count);
}
