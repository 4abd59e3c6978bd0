use Rattle.prefix_lattice.proofs.ClosestLemmas.{closest_kept_meets_stay_under, closest_kept_meets_are_prefixes}
use Rattle.prefix_lattice.proofs.laws.kept_meets_stay_under.Goals as goal

pub returns-clause-under : goal.returns-clause-under
returns-clause-under c = closest_kept_meets_stay_under

pub returns-clause-prefixes : goal.returns-clause-prefixes
returns-clause-prefixes c = closest_kept_meets_are_prefixes
