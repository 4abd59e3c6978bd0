use Rattle.std.proofs.Common.{◌*◌, max, ap, ◌∙◌, arith}
use Rattle.loser_tree.specs.Nodes.{number_below}
use Rattle.loser_tree.proofs.NumberedNodeLemmas.{NodesHaveLosersBefore-all_nodes, NodesHaveLosersBefore-next_node}
use Rattle.loser_tree.proofs.nodes.write_losers.Goals as goal

pub loop-node-preserved : goal.loop-node-preserved
loop-node-preserved c = NodesHaveLosersBefore-next_node c.args.nodes.now c.loop-node.nodes c.loop-node.node c.max.result (omega arith) (omega arith)
    c.loop-node.invariant
    (c.max.ensures ∙ ap (λ n. max n c.least_below-in-loop-node-2.result) c.least_below-in-loop-node.ensures
    ∙ ap (λ n. max (number_below c.loop-node.nodes (2 * c.loop-node.node)) n) c.least_below-in-loop-node-2.ensures)

pub returns : goal.returns
returns c = NodesHaveLosersBefore-all_nodes c.args.nodes.now c.loop-node.nodes c.loop-node.node c.requires.some c.requires.few (omega arith) c.requires.least
    c.loop-node.invariant
