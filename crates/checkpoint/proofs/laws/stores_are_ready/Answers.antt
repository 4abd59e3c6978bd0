use Rattle.checkpoint.proofs.StoreLemmas.{stores_are_ready}
use Rattle.checkpoint.proofs.laws.stores_are_ready.Goals as goal

pub returns : goal.returns
returns c = stores_are_ready
