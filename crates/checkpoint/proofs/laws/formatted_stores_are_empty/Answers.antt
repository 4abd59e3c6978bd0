use Rattle.checkpoint.proofs.StoreLemmas.{formatted_stores_are_empty}
use Rattle.checkpoint.proofs.laws.formatted_stores_are_empty.Goals as goal

pub returns : goal.returns
returns c = formatted_stores_are_empty
