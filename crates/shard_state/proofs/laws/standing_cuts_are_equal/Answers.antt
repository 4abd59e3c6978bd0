use Rattle.shard_state.proofs.RepresentationLemmas.{representation_is_one_cut}
use Rattle.shard_state.proofs.laws.standing_cuts_are_equal.Goals as goal

pub returns : goal.returns
returns c = representation_is_one_cut
