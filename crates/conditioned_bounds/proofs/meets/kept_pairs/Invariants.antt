use Rattle.std.proofs.Common.{◌≡◌, ◌++◌, drop}
use Rattle.prefix_lattice.specs.{pair_meets, kept_pairs}
use Rattle.conditioned_bounds.proofs.meets.kept_pairs.Given as goal

-- those of the first members so far, before those that are still to come
abbrev pub invariant-loop-place : goal.invariant-loop-place
invariant-loop-place l = l.meets ++ pair_meets l.members (drop l.place l.members) ≡ kept_pairs l.members
