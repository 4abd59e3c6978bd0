use Rattle.std.proofs.Common.{◌≡◌, ◌^◌, ◌*◌, ◌≤◌, sum_by, take}
use Rattle.conditioned_bounds.proofs.sums.sum_of_highs.Given as goal

-- the sum so far, each term below 2^60
abbrev pub invariant-loop-prefix : goal.invariant-loop-prefix
invariant-loop-prefix g l =
    (l.sum ≡ sum_by (g.I.Intervals.high l.intervals) (take l.prefix-index l.prefixes))
    × (l.sum ≤ l.prefix-index * 2 ^ 60)
