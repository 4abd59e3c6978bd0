use Rattle.std.proofs.Common.{◌≡◌, ◌≢◌, ◌+◌, ℕ, List, get_or, refl, sym, ap, subst, arith, ◌∙◌}
use Rattle.std.specs.Prelude.{All, Some, slice_get}
use Rattle.key_index.specs.{HoldsKeys}
use Rattle.rank_table.specs.declared.slot.Slot.{Slot}
use Rattle.rank_table.specs.SlotOrder.{AreOrdered, ordered_entries}
use Rattle.rank_table.specs.Slot.{Slots, slot_keys}
use Rattle.rank_table.specs.Steps.{raised_slot}
use Rattle.rank_table.specs.RankTable.{AreParts}
use Rattle.rank_table.proofs.SlotChangeLemmas.{AreOrdered-grown_change, AreOrdered-fresh_change}
use Rattle.rank_table.proofs.SlotChangeLemmas.{AreOrdered-heir_change, grown_slot_change_is_step}
use Rattle.rank_table.proofs.SlotChangeLemmas.{fresh_slot_change_is_step, heir_slot_change_is_step}
use Rattle.rank_table.proofs.SlotKeyLemmas.{missing_key_has_no_slot, slot_key_place_is_within}
use Rattle.rank_table.proofs.SlotKeyLemmas.{slot_key_at_its_place, slot_keys_stay_on_set}
use Rattle.rank_table.proofs.steps.add_weight.Goals as goal

abbrev blank : Slot
blank = record { entry = record { key = 0; count = 0; error = 0 }; time = 0 }

pub returns-in-Ok-clause-capacity : goal.returns-in-Ok-clause-capacity
returns-in-Ok-clause-capacity c = ap (λ (r : Slots). r.capacity) (c.grow.ensures blank)

pub returns-in-Ok-clause-together : goal.returns-in-Ok-clause-together
returns-in-Ok-clause-together c =
    let slots = c.args.ranked.now.slots in
    let raised = raised_slot c.args.weight c.args.now (get_or slots c.in-Ok.place blank) in
    let found : slice_get (slot_keys slots) c.in-Ok.place ≡ Some c.args.key =
    subst (λ (l : List Slot). slice_get (slot_keys l) c.in-Ok.place ≡ Some c.args.key) c.slots.ensures.slots c.in-Ok.ensures.found in
    subst (λ (r : Slots). AreParts r.capacity c.args.index.now r) (sym (c.grow.ensures blank))
    (record {
      roomy = c.requires.together.roomy;
      as_many = refl;
      keyed = subst (λ (keys : List ℕ). HoldsKeys keys c.args.index.now) (sym (slot_keys_stay_on_set c.in-Ok.place slots raised blank
          (slot_key_place_is_within c.args.key c.in-Ok.place slots found) refl)) c.requires.together.keyed;
    })

pub returns-in-Ok-clause-slots : goal.returns-in-Ok-clause-slots
returns-in-Ok-clause-slots c =
    let slots = c.args.ranked.now.slots in
    let found : slice_get (slot_keys slots) c.in-Ok.place ≡ Some c.args.key =
    subst (λ (l : List Slot). slice_get (slot_keys l) c.in-Ok.place ≡ Some c.args.key) c.slots.ensures.slots c.in-Ok.ensures.found in
    subst (λ (r : Slots). AreOrdered (c.args.now + 1) r.slots) (sym (c.grow.ensures blank))
    (AreOrdered-grown_change c.args.weight c.args.now c.in-Ok.place slots blank c.requires.slots
    (slot_key_place_is_within c.args.key c.in-Ok.place slots found))

pub returns-in-Ok-clause-stepped : goal.returns-in-Ok-clause-stepped
returns-in-Ok-clause-stepped c =
    let slots = c.args.ranked.now.slots in
    let found : slice_get (slot_keys slots) c.in-Ok.place ≡ Some c.args.key =
    subst (λ (l : List Slot). slice_get (slot_keys l) c.in-Ok.place ≡ Some c.args.key) c.slots.ensures.slots c.in-Ok.ensures.found in
    ap (λ (r : Slots). ordered_entries r.slots) (c.grow.ensures blank)
    ∙ grown_slot_change_is_step c.args.ranked.now.capacity c.args.key c.args.weight c.args.now c.in-Ok.place slots blank (omega arith) c.requires.slots
    (slot_key_place_is_within c.args.key c.in-Ok.place slots found)
    (slot_key_at_its_place c.args.key c.in-Ok.place slots blank found)

pub returns-in-Err-2-clause-capacity : goal.returns-in-Err-2-clause-capacity
returns-in-Err-2-clause-capacity c = ap (λ (r : Slots). r.capacity) (c.take_over.ensures.taken.taken blank)

pub returns-in-Err-2-clause-together : goal.returns-in-Err-2-clause-together
returns-in-Err-2-clause-together c = subst (λ n. AreParts n c.take_over.new.index c.take_over.new.ranked)
    (sym (ap (λ (r : Slots). r.capacity) (c.take_over.ensures.taken.taken blank))) c.take_over.ensures.together

pub returns-in-Err-2-clause-slots : goal.returns-in-Err-2-clause-slots
returns-in-Err-2-clause-slots c =
    let slots = c.args.ranked.now.slots in
    let missing = missing_key_has_no_slot c.args.key slots
    (subst (λ (l : List Slot). All (λ other. other ≢ c.args.key) (slot_keys l)) c.slots.ensures.slots c.in-Err-2.ensures.missing) in
    subst (λ (r : Slots). AreOrdered (c.args.now + 1) r.slots) (sym (c.take_over.ensures.taken.taken blank))
    (AreOrdered-heir_change c.args.key c.args.weight c.args.now c.take_over.ensures.taken.place slots blank c.requires.slots missing)

pub returns-in-Err-2-clause-stepped : goal.returns-in-Err-2-clause-stepped
returns-in-Err-2-clause-stepped c =
    let slots = c.args.ranked.now.slots in
    let missing = missing_key_has_no_slot c.args.key slots
    (subst (λ (l : List Slot). All (λ other. other ≢ c.args.key) (slot_keys l)) c.slots.ensures.slots c.in-Err-2.ensures.missing) in
    ap (λ (r : Slots). ordered_entries r.slots) (c.take_over.ensures.taken.taken blank)
    ∙ heir_slot_change_is_step c.args.ranked.now.capacity c.args.key c.args.weight c.args.now c.take_over.ensures.taken.place slots blank
    (omega arith) c.requires.slots missing (c.has_room.ensures.full c.if-has_room.false) c.take_over.ensures.taken.least

pub returns-in-Err-clause-together : goal.returns-in-Err-clause-together
returns-in-Err-clause-together c = subst (λ n. AreParts n c.take_room.new.index c.take_room.new.ranked)
    (sym (ap (λ (r : Slots). r.capacity) c.take_room.ensures.ranked)) c.take_room.ensures.together

pub returns-in-Err-clause-slots : goal.returns-in-Err-clause-slots
returns-in-Err-clause-slots c =
    let slots = c.args.ranked.now.slots in
    let missing = missing_key_has_no_slot c.args.key slots
    (subst (λ (l : List Slot). All (λ other. other ≢ c.args.key) (slot_keys l)) c.slots.ensures.slots c.in-Err.ensures.missing) in
    subst (λ (r : Slots). AreOrdered (c.args.now + 1) r.slots) (sym c.take_room.ensures.ranked)
    (AreOrdered-fresh_change c.args.key c.args.weight c.args.now slots c.requires.slots missing)

pub returns-in-Err-clause-stepped : goal.returns-in-Err-clause-stepped
returns-in-Err-clause-stepped c =
    let slots = c.args.ranked.now.slots in
    let missing = missing_key_has_no_slot c.args.key slots
    (subst (λ (l : List Slot). All (λ other. other ≢ c.args.key) (slot_keys l)) c.slots.ensures.slots c.in-Err.ensures.missing) in
    ap (λ (r : Slots). ordered_entries r.slots) c.take_room.ensures.ranked
    ∙ fresh_slot_change_is_step c.args.ranked.now.capacity c.args.key c.args.weight c.args.now slots (omega arith) c.requires.slots missing
    (c.has_room.ensures.room.0 c.if-has_room.true)
