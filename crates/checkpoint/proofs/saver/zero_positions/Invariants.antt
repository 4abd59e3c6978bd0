use Rattle.std.proofs.Common.{◌≡◌, replicate}
use Rattle.checkpoint.proofs.saver.zero_positions.Given as goal

abbrev pub invariant-loop-shard : goal.invariant-loop-shard
invariant-loop-shard l = l.positions ≡ replicate l._shard 0
