use Rattle.conditioned_bounds.proofs.SearchLemmas.{SearchFoundNone, is_search_third}
use Rattle.conditioned_bounds.proofs.meet_sums.is_under_third.Given as goal

-- no member of the nodes so far is a third
abbrev pub invariant-loop-node : goal.invariant-loop-node
invariant-loop-node l = SearchFoundNone l.members (is_search_third l.fn.first l.fn.second l.meet) l.node-items l.node-index
