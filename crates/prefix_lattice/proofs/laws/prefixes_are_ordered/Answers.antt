use Rattle.prefix_lattice.proofs.UnderMeetLemmas.{under-refl, under-trans, under-antisym, strictly_under-trans}
use Rattle.prefix_lattice.proofs.UnderMeetLemmas.{strictly_under-is_deeper}
use Rattle.prefix_lattice.proofs.laws.prefixes_are_ordered.Goals as goal

pub returns-clause-reflexive : goal.returns-clause-reflexive
returns-clause-reflexive c = under-refl

pub returns-clause-transitive : goal.returns-clause-transitive
returns-clause-transitive c = under-trans

pub returns-clause-antisymmetric : goal.returns-clause-antisymmetric
returns-clause-antisymmetric c = under-antisym

pub returns-clause-strictly : goal.returns-clause-strictly
returns-clause-strictly c = strictly_under-trans

pub returns-clause-level : goal.returns-clause-level
returns-clause-level c = strictly_under-is_deeper
