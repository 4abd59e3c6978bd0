use Rattle.std.proofs.Common.{◌≡◌, length}
use Rattle.table_tests.proofs.tests.loser_trees.follow_a_list.Given as goal

-- the tree keeps its leaves
abbrev pub invariant-loop-turn : goal.invariant-loop-turn
invariant-loop-turn l = length l.tree ≡ l.leaves
