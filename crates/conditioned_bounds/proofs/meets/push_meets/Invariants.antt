use Rattle.std.proofs.Common.{◌≡◌, ◌++◌, take}
use Rattle.std.specs.List.{filter_map}
use Rattle.prefix_lattice.specs.{pair_meet}
use Rattle.conditioned_bounds.proofs.meets.push_meets.Given as goal

-- the meets with the others so far
abbrev pub invariant-loop-second : goal.invariant-loop-second
invariant-loop-second l =
    l.meets ≡ l.initial.meets ++ filter_map (pair_meet l.members l.first) (take l.second-index l.seconds)
