use Rattle.std.proofs.Common.{◌≢◌, get_or, sym, subst, ◌∙◌, arith}
use Rattle.std.specs.List.{AllByRecursion}
use Rattle.std.proofs.lemmas.List.{take_all, get_or_default}
use Rattle.rank_table.specs.Marks.{without_mark}
use Rattle.rank_table.proofs.SlotRiseLemmas.{slots_below_in_rise, slot_in_rise_at_place, some_slot_rises_to_place}
use Rattle.rank_table.proofs.scanning.slot_at.Goals as goal

pub returns-then-count_before-place : goal.returns-then-count_before-place
returns-then-count_before-place c =
    let slots = c.args.slots.now in
    let slot = get_or slots c.loop-slot.slot-index without_mark in
    slot_in_rise_at_place slots c.loop-slot.slot-index c.args.place slot c.requires.slots (omega arith)
    (get_or_default slots c.loop-slot.slot-index without_mark slot (omega arith)) c.requires.within
    (sym c.count_before.ensures ∙ c.if-count_before-place.true)

pub unreachable-requires : goal.unreachable-requires
unreachable-requires c =
    let slots = c.args.slots.now in
    some_slot_rises_to_place slots c.args.place c.requires.slots c.requires.within
    (subst (λ l. AllByRecursion (λ slot. slots_below_in_rise slot slots ≢ c.args.place) l)
    (take_all c.loop-slot.slot-index slots c.loop-slot-test.false) c.loop-slot.invariant)
