use Rattle.checkpoint.proofs.StoreLemmas.{stores_open_old_or_new}
use Rattle.checkpoint.proofs.laws.puts_open_old_or_new.Goals as goal

pub returns : goal.returns
returns c = stores_open_old_or_new
