use Rattle.std.proofs.Common.{◌≡◌, ◌≤◌, length}
use Rattle.loser_tree.specs.Nodes.{HaveLeastNumbers}
use Rattle.loser_tree.proofs.nodes.write_least_numbers.Given as goal

-- the nodes from this one on have their numbers
abbrev pub invariant-loop-node : goal.invariant-loop-node
invariant-loop-node l = record {
  inner : 1 ≤ l.node;
  within : l.node ≤ length l.nodes;
  shape : length l.nodes ≡ length l.fn.nodes;
  least : HaveLeastNumbers l.node l.nodes;
}

abbrev pub decreases-loop-node : goal.decreases-loop-node
decreases-loop-node l = l.node
