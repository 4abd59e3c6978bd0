use Rattle.checkpoint.proofs.OneBodyLemmas.{one_body_in_same_bytes}
use Rattle.checkpoint.proofs.laws.bodies_are_apart.Goals as goal

pub returns : goal.returns
returns c = one_body_in_same_bytes
