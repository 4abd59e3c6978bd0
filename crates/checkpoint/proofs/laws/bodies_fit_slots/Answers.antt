use Rattle.checkpoint.proofs.StoreLemmas.{store_has_room_for_body}
use Rattle.checkpoint.proofs.laws.bodies_fit_slots.Goals as goal

pub returns : goal.returns
returns c = store_has_room_for_body
