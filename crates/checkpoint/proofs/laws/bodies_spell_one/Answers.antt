use Rattle.checkpoint.proofs.OneBodyLemmas.{one_body_spells_one_value}
use Rattle.checkpoint.proofs.laws.bodies_spell_one.Goals as goal

pub returns : goal.returns
returns c = one_body_spells_one_value
