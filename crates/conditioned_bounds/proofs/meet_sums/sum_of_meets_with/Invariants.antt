use Rattle.std.proofs.Common.{◌≡◌, ◌*◌, ◌≤◌, length, sum_by, take}
use Rattle.std.specs.List.{filter_map}
use Rattle.prefix_lattice.specs.{pair_meet, total_limit}
use Rattle.conditioned_bounds.proofs.meet_sums.sum_of_meets_with.Given as goal

-- the sum over the meets with the others so far, each below 2^60
abbrev pub invariant-loop-second : goal.invariant-loop-second
invariant-loop-second g l = record {
  highs : l.sum.highs
      ≡ sum_by (g.I.Intervals.high l.intervals)
      (filter_map (pair_meet l.members l.first) (take l.second-index l.seconds));
  pairs : l.sum.pairs ≡ length (filter_map (pair_meet l.members l.first) (take l.second-index l.seconds));
  bounded : l.sum.highs ≤ l.sum.pairs * total_limit;
  few : l.sum.pairs ≤ l.second-index;
}
