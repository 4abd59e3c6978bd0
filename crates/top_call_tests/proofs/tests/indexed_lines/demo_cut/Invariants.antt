use Rattle.std.proofs.Common.{◌≡◌}
use Rattle.prefix_lattice.specs.declared.grain.Grain.TheVariants.{Byte}
use Rattle.top_call_tests.proofs.tests.indexed_lines.demo_cut.Given as goal

-- the cut keeps its shape
abbrev pub invariant-loop-shard : goal.invariant-loop-shard
invariant-loop-shard g l = l.cut.shape ≡ record { grain = Byte; capacity = 512 }
