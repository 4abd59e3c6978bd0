use Rattle.std.proofs.Common.{◌∙◌, sym, ap, arith, refl}
use Rattle.std.specs.Prelude.{is_some}
use Rattle.slot_disk.specs.{number_at}
use Rattle.store_tests.proofs.FirstPutLemmas.{first_put_finds_some, second_slot_is_ready_after_first_put}
use Rattle.store_tests.proofs.tests.of_slot_disk.put_first.Goals as goal

pub put-requires-clause-body : goal.put-requires-clause-body
unfolding number_at
put-requires-clause-body g c = record { least = omega arith; most = omega arith; says = refl }

pub returns-clause-ready : goal.returns-clause-ready
returns-clause-ready g c = λ new is.
    let begun = first_put_finds_some (g.D.Disk.reads c.begin.new.disk) (sym c.in_ok-slots.ensures.known ∙ ap is_some is) in
    second_slot_is_ready_after_first_put 16 _ begun.0 new _ _ (c.in_ok-format.ensures.stands begun.0 (sym c.in-Ok.ensures.reads ∙ begun.1))
    (c.in_ok-slots.ensures.done begun.0 new begun.1 is)
