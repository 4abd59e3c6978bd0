use Rattle.prefix_lattice.proofs.UnderMeetLemmas.{covers-up_from_under}
use Rattle.prefix_lattice.proofs.laws.covering_goes_up.Goals as goal

pub returns : goal.returns
returns c = covers-up_from_under
