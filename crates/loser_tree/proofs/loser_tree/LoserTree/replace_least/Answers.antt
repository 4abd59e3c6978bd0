use Rattle.loser_tree.proofs.LoserNodeLemmas.{sum_of_loser_tree_nodes}
use Rattle.loser_tree.proofs.loser_tree.LoserTree.replace_least.Goals as goal

pub returns-clause-sum : goal.returns-clause-sum
returns-clause-sum c = λ leaves tree. sum_of_loser_tree_nodes _ leaves tree
