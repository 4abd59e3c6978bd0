use Rattle.std.proofs.Common.{◌-◌, ◌*◌, ◌^◌, length, sum}
use Rattle.rank_table.specs.Ranks.{HasRankLeaves}
use Rattle.rank_table.proofs.ranked_slots.winner.Given as goal

-- the leaves are still lower bounds
abbrev pub invariant-mending : goal.invariant-mending
invariant-mending l = HasRankLeaves (length l.slots) l.base l.tree l.slots

-- the sum by which all leaves can still rise: the nodes have the same sum
abbrev pub decreases-mending : goal.decreases-mending
decreases-mending l = length l.tree * 2 ^ 64 - sum l.tree
