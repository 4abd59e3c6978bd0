use Rattle.key_index.proofs.KeyLemmas.{key_of_pushed}
use Rattle.key_index.proofs.key_index.appended_key_is_missing.Goals as goal

pub returns : goal.returns
returns c = key_of_pushed
