use Rattle.std.proofs.Common.{◌≡◌, replicate}
use Rattle.report_session.proofs.base.zero_positions.Given as goal

-- one 0 for each shard so far
abbrev pub invariant-loop-shard : goal.invariant-loop-shard
invariant-loop-shard l = l.positions ≡ replicate l._shard 0
