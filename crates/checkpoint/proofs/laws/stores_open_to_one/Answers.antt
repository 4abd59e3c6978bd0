use Rattle.checkpoint.proofs.StoreLemmas.{stores_open_to_one}
use Rattle.checkpoint.proofs.laws.stores_open_to_one.Goals as goal

pub returns : goal.returns
returns c = stores_open_to_one
