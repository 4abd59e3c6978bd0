use Rattle.checkpoint.proofs.StoreLemmas.{stores_hold_one}
use Rattle.checkpoint.proofs.laws.stores_hold_one.Goals as goal

pub returns : goal.returns
returns c = stores_hold_one
