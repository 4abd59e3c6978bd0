use Rattle.std.proofs.Common.{refl, ◌/◌, get_or, set, max, ◌∙◌, arith, subst}
use Rattle.loser_tree.specs.Nodes.{HasClimbed}
use Rattle.loser_tree.proofs.ClimbNodeLemmas.{climb_from_leaf_node, climb_goes_to_parent_node, set_node_keeps_length}
use Rattle.loser_tree.proofs.nodes.climb.Goals as goal

pub loop-node-init : goal.loop-node-init
loop-node-init c = record {
  inner = omega arith;
  within = omega arith;
  shape = refl;
  climbed = λ leaves tree is. climb_from_leaf_node c.args.nodes.now leaves c.args.place c.args.word (omega (arith, tree.shape)) tree is;
}

pub loop-node-preserved : goal.loop-node-preserved
loop-node-preserved c = record {
  inner = omega arith;
  within = omega (arith, c.climb_three_levels-least.ensures.shape, c.loop-node.invariant.within);
  shape = c.climb_three_levels-least.ensures.shape ∙ c.loop-node.invariant.shape;
  climbed = λ leaves tree is. c.climb_three_levels-least.ensures.climbed (set leaves c.args.place c.args.word) (get_or c.args.nodes.now 0 0)
      (c.loop-node.invariant.climbed leaves tree is);
}

pub loop-node-2-init : goal.loop-node-2-init
loop-node-2-init c = c.loop-node.invariant

pub loop-node-2-preserved : goal.loop-node-2-preserved
loop-node-2-preserved c =
    let shape = set_node_keeps_length c.loop-node-2.nodes c.meet-least.new.nodes (c.loop-node-2.node / 2)
    (max c.loop-node-2.least (get_or c.loop-node-2.nodes (c.loop-node-2.node / 2) 0)) c.meet-least.ensures.greater in
    record {
      inner = omega arith;
      within = omega (arith, shape, c.loop-node-2.invariant.within);
      shape = shape ∙ c.loop-node-2.invariant.shape;
      climbed = λ leaves tree is. climb_goes_to_parent_node (set leaves c.args.place c.args.word) c.loop-node-2.nodes c.meet-least.new.nodes
          (get_or c.args.nodes.now 0 0) c.loop-node-2.node c.loop-node-2.least c.meet-least.result (omega arith) c.loop-node-2.invariant.within
          (c.loop-node-2.invariant.climbed leaves tree is) c.meet-least.ensures.greater c.meet-least.ensures.lesser;
    }

pub returns-clause-shape : goal.returns-clause-shape
returns-clause-shape c = c.loop-node-2.invariant.shape

pub returns-clause-climbed : goal.returns-clause-climbed
returns-clause-climbed c leaves tree is =
    subst (λ n. HasClimbed (set leaves c.args.place c.args.word) c.loop-node-2.nodes (get_or c.args.nodes.now 0 0) n c.loop-node-2.least)
    (omega (arith, c.loop-node-2.invariant.inner)) (c.loop-node-2.invariant.climbed leaves tree is)
