use Rattle.recovery.proofs.ReadingLemmas.{belonging_reading}
use Rattle.recovery.proofs.laws.belonging_stores_are_read.Goals as goal

pub returns : goal.returns
returns c = belonging_reading c.stores_show_their_header.ensures
