use Rattle.prefix_lattice.proofs.UpperLemmas.{upper-is, upper-only}
use Rattle.prefix_lattice.proofs.laws.uppers_are_above.Goals as goal

pub returns-clause-above : goal.returns-clause-above
returns-clause-above c = upper-is

pub returns-clause-only : goal.returns-clause-only
returns-clause-only c = upper-only
