use Rattle.prefix_lattice.proofs.UnderMeetLemmas.{meet-under, meet-greatest, meet-IsPrefix}
use Rattle.prefix_lattice.proofs.laws.meets_are_greatest.Goals as goal

pub returns-clause-under_both : goal.returns-clause-under_both
returns-clause-under_both c = meet-under

pub returns-clause-greatest : goal.returns-clause-greatest
returns-clause-greatest c = meet-greatest

pub returns-clause-of_grain : goal.returns-clause-of_grain
returns-clause-of_grain c = λ grain. meet-IsPrefix
