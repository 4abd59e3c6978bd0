use Rattle.checkpoint.proofs.HeaderLemmas.{header_is_shown}
use Rattle.checkpoint.proofs.laws.stores_show_their_header.Goals as goal

pub returns : goal.returns
returns c = header_is_shown
