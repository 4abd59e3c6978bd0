use Rattle.slot_disk.proofs.NewestBodyLemmas.{newest_body_survives_put}
use Rattle.slot_disk.proofs.laws.puts_lose_nothing.Goals as goal

pub returns : goal.returns
returns c = newest_body_survives_put
