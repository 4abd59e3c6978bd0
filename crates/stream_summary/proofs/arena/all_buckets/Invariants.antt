use Rattle.std.proofs.Common.{◌≡◌}
use Rattle.stream_summary.specs.Lists.{numbers_below}
use Rattle.stream_summary.proofs.arena.all_buckets.Given as goal

-- the buckets so far
abbrev pub invariant-loop-index : goal.invariant-loop-index
invariant-loop-index l = record { room : l.steps.room ≡ l.fn.room; order : l.steps.order ≡ numbers_below l.index }
