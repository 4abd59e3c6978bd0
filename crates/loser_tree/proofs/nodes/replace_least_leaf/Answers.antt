use Rattle.std.proofs.Common.{length-set, arith}
use Rattle.loser_tree.proofs.ClimbNodeLemmas.{climb_ends_at_root_node}
use Rattle.loser_tree.proofs.LoserNodeLemmas.{least_leaf_is_first_loser_node}
use Rattle.loser_tree.proofs.nodes.replace_least_leaf.Goals as goal

pub returns-clause-leaves : goal.returns-clause-leaves
returns-clause-leaves c = λ leaves tree least.
    let long = length-set leaves c.args.place c.args.word in
    climb_ends_at_root_node _ _ _ _ (omega (arith, tree.some, long)) (omega (arith, tree.few, long))
    (c.climb-least.ensures.climbed leaves tree (least_leaf_is_first_loser_node c.args.nodes.now leaves c.args.place (omega (arith, tree.shape)) tree least))
