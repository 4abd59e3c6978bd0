use Rattle.recovery.proofs.DecidedLemmas.{openings_are_decided}
use Rattle.recovery.proofs.laws.openings_are_decided.Goals as goal

pub returns : goal.returns
returns c = openings_are_decided c.headers_spell_one.ensures c.stores_hold_one.ensures
