use Rattle.loser_tree.proofs.LoserNodeLemmas.{first_loser_node_is_leaf, first_loser_node_is_least, sum_of_loser_tree_nodes}
use Rattle.loser_tree.proofs.loser_tree.LoserTree.least.Goals as goal

pub returns-clause-present : goal.returns-clause-present
returns-clause-present c = rw (← c.self.view_is)
    (λ leaves. first_loser_node_is_leaf c.self.inside.nodes.items leaves c.index.result.now c.index.ensures)

pub returns-clause-least : goal.returns-clause-least
returns-clause-least c = rw (← c.self.view_is)
    (λ leaves. first_loser_node_is_least c.self.inside.nodes.items leaves c.index.result.now c.index.ensures)

pub returns-clause-sum : goal.returns-clause-sum
returns-clause-sum c = sum_of_loser_tree_nodes c.args.self.now
