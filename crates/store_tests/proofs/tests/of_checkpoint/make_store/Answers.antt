use Rattle.std.proofs.Common.{◌≡◌, false, rules, subst, sym}
use Rattle.checkpoint.specs.{SaverState, IsSafeSaver}
use Rattle.store_tests.proofs.NewSaverLemmas.{new_saver_slots_are_closed, new_saver_stands}
use Rattle.store_tests.proofs.tests.of_checkpoint.make_store.Goals as goal

pub returns-clause-stands : goal.returns-clause-stands
returns-clause-stands g c = λ bytes is.
    let first : c.in_ok-slots.slots.first_open ≡ false = search rules in
    let second : c.in_ok-slots.slots.second_open ≡ false = search rules in
    subst (λ (s : SaverState). IsSafeSaver s (g.D.Disk.image_now c.begin.new.disk) bytes) (sym c.in_ok-new.ensures)
    (new_saver_stands c.formatted_stores_are_empty.ensures _ c.in_ok-slots.slots _ (g.D.Disk.image_now c.begin.new.disk) bytes
    (new_saver_slots_are_closed c.in_ok-slots.slots _ first second (search rules)) (c.in_ok-slots.ensures.stands bytes is))
