use Rattle.conditioned_bounds.proofs.SearchLemmas.{SearchFoundNone, search_explains}
use Rattle.conditioned_bounds.proofs.line_index.is_under_another.Given as goal

-- no line of the nodes so far explains this one
abbrev pub invariant-loop-node : goal.invariant-loop-node
invariant-loop-node l = SearchFoundNone l.lines (search_explains l.line l.prefix) l.node-items l.node-index
