use Rattle.loser_tree.proofs.NumberedNodeLemmas.{NodesHaveLosersBefore}
use Rattle.loser_tree.proofs.nodes.write_losers.Given as goal

abbrev pub invariant-loop-node : goal.invariant-loop-node
invariant-loop-node l = NodesHaveLosersBefore l.node l.fn.nodes l.nodes
