use Rattle.prefix_lattice.proofs.ClosestLemmas.{closest-covers, closest-incomparable, closest-strictly}
use Rattle.prefix_lattice.proofs.laws.closest_lines_explain.Goals as goal

pub returns-clause-explain : goal.returns-clause-explain
returns-clause-explain c = closest-covers

pub returns-clause-incomparable : goal.returns-clause-incomparable
returns-clause-incomparable c = closest-incomparable

pub returns-clause-under : goal.returns-clause-under
returns-clause-under c = closest-strictly
