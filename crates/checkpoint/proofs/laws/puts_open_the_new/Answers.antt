use Rattle.checkpoint.proofs.StoreLemmas.{stores_open_the_new}
use Rattle.checkpoint.proofs.laws.puts_open_the_new.Goals as goal

pub returns : goal.returns
returns c = stores_open_the_new
