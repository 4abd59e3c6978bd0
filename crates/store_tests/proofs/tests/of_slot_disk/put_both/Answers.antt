use Rattle.std.proofs.Common.{arith, refl}
use Rattle.slot_disk.specs.{number_at}
use Rattle.store_tests.proofs.tests.of_slot_disk.put_both.Goals as goal

pub put-requires-clause-body : goal.put-requires-clause-body
unfolding number_at
put-requires-clause-body g c = record { least = omega arith; most = omega arith; says = refl }
