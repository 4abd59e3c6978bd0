use Rattle.std.proofs.Common.{◌≡◌, ◌≤◌, length, take}
use Rattle.std.specs.List.{filter_map}
use Rattle.prefix_lattice.specs.{pair_meet}
use Rattle.exact_audit.proofs.kept_pairs.count_kept_with.Given as goal

-- the kept pairs with the others so far
abbrev pub invariant-loop-second : goal.invariant-loop-second
invariant-loop-second l =
    (l.pairs ≡ length (filter_map (pair_meet l.members l.first) (take l.second-index l.seconds)))
    × (l.pairs ≤ l.second-index)
