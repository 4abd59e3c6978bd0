use Rattle.std.proofs.Common.{◌≡◌}
use Rattle.shard_tests.proofs.tests.of_hhh_output.cut_at.Given as goal

-- the cut keeps its shape
abbrev pub invariant-loop-shard : goal.invariant-loop-shard
invariant-loop-shard l = l.cut.shape ≡ record { grain = l.grain; capacity = l.capacity }
