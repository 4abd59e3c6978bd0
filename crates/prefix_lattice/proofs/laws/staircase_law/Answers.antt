use Rattle.prefix_lattice.proofs.StaircaseLemmas.{staircase}
use Rattle.prefix_lattice.proofs.laws.staircase_law.Goals as goal

pub returns : goal.returns
returns c = staircase
