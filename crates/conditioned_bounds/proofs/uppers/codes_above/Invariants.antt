use Rattle.conditioned_bounds.proofs.CodeLemmas.{CodesBefore}
use Rattle.conditioned_bounds.proofs.uppers.codes_above.Given as goal

-- the codes of those above at the nodes so far
abbrev pub invariant-loop-place : goal.invariant-loop-place
invariant-loop-place l = CodesBefore l.grain l.prefix l.place l.codes.items
