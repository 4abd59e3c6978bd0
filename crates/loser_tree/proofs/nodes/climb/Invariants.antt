use Rattle.loser_tree.proofs.ClimbNodeLemmas.{ClimbIsAt}
use Rattle.loser_tree.proofs.nodes.climb.Given as goal

-- the way is done up to this node, by three levels at a time
abbrev pub invariant-loop-node : goal.invariant-loop-node
invariant-loop-node l = ClimbIsAt l.fn.nodes l.place l.word l.nodes l.node l.least

abbrev pub decreases-loop-node : goal.decreases-loop-node
decreases-loop-node l = l.node

-- and then level by level
abbrev pub invariant-loop-node-2 : goal.invariant-loop-node-2
invariant-loop-node-2 l = ClimbIsAt l.fn.nodes l.place l.word l.nodes l.node l.least

abbrev pub decreases-loop-node-2 : goal.decreases-loop-node-2
decreases-loop-node-2 l = l.node
