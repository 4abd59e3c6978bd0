use Rattle.shard_state.proofs.RepresentationLemmas.{representation_when_empty, representation_of_shard}
use Rattle.shard_state.proofs.laws.shards_stand.Goals as goal

pub returns-clause-begins : goal.returns-clause-begins
returns-clause-begins c = representation_when_empty

pub returns-clause-goes_on : goal.returns-clause-goes_on
returns-clause-goes_on c = representation_of_shard
