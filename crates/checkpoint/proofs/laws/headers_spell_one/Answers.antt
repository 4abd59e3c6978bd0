use Rattle.checkpoint.proofs.HeaderLemmas.{headers_spell_one}
use Rattle.checkpoint.proofs.laws.headers_spell_one.Goals as goal

pub returns : goal.returns
returns c = headers_spell_one
