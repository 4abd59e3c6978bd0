use Rattle.std.proofs.Common.{◌↔◌, drop}
use Rattle.space_saving.specs.Summary.{RisesFrom}
use Rattle.space_saving.proofs.facts.rises.Given as goal

-- the counts rise exactly where the later ones do
abbrev pub invariant-loop-entry : goal.invariant-loop-entry
invariant-loop-entry l = RisesFrom l.least (drop l.entry-index l.entries) ↔ RisesFrom 0 l.entries
