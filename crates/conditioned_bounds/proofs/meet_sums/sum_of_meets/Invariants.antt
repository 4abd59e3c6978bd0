use Rattle.std.proofs.Common.{◌≡◌, ◌+◌, ◌*◌, ◌≤◌, length, sum_by, drop}
use Rattle.prefix_lattice.specs.{pair_meets, kept_pairs, total_limit}
use Rattle.conditioned_bounds.specs.Members.{member_limit}
use Rattle.conditioned_bounds.proofs.meet_sums.sum_of_meets.Given as goal

-- the sum over the meets of the first members so far, and over those that are still to come
abbrev pub invariant-loop-place : goal.invariant-loop-place
invariant-loop-place g l = record {
  highs : l.sum.highs + sum_by (g.I.Intervals.high l.intervals) (pair_meets l.members (drop l.place l.prefixes))
      ≡ sum_by (g.I.Intervals.high l.intervals) (kept_pairs l.members);
  pairs : l.sum.pairs + length (pair_meets l.members (drop l.place l.prefixes)) ≡ length (kept_pairs l.members);
  bounded : l.sum.highs ≤ l.sum.pairs * total_limit;
  few : l.sum.pairs ≤ l.place * member_limit;
}
