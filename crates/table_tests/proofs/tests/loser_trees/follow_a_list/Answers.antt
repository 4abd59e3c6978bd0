use Rattle.std.proofs.Common.{◌∙◌}
use Rattle.std.proofs.lemmas.List.FromFn.{length-range_with_len}
use Rattle.table_tests.proofs.tests.loser_trees.follow_a_list.Goals as goal

pub loop-turn-init : goal.loop-turn-init
loop-turn-init c = c.in_ok-tree.ensures.shape ∙ length-range_with_len 0 c.args.leaves
