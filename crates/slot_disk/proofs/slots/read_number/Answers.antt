use Rattle.std.proofs.Common.{arith}
use Rattle.slot_disk.proofs.StoredBodyLemmas.{stored_body_number_is_given}
use Rattle.slot_disk.proofs.slots.read_number.Goals as goal

pub returns-clause-number : goal.returns-clause-number
returns-clause-number g c = λ bytes is.
    stored_body_number_is_given c.args.place _ _ bytes _ (c.in_ok-count.ensures.given bytes is) (omega arith) c.read_u64.ensures
