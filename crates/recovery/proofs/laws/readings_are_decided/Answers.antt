use Rattle.recovery.proofs.ReadingLemmas.{readings_are_decided}
use Rattle.recovery.proofs.laws.readings_are_decided.Goals as goal

pub returns : goal.returns
returns c = readings_are_decided c.headers_spell_one.ensures c.stores_hold_one.ensures
