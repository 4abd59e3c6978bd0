use Rattle.std.proofs.Common.{◌≡◌, ◌<◌, ◌≤◌, ℕ, List, length, refl, get_or, sym, ap, subst, ◌∙◌, arith}
use Rattle.std.proofs.lemmas.List.{get_or_default}
use Rattle.rank_table.specs.declared.slot.Slot.{Slot}
use Rattle.key_index.specs.{HoldsKeysButOne, HaveTurnedAway}
use Rattle.rank_table.specs.Slot.{Slots}
use Rattle.rank_table.proofs.SlotKeyLemmas.{slot_keys_on_change, slot_key_on_change}
use Rattle.rank_table.proofs.RankedSlotLemmas.{all-ranked_slot_at, ranked_slot_count_in_total}
use Rattle.rank_table.proofs.steps.take_over.Goals as goal

abbrev blank : Slot
blank = record { entry = record { key = 0; count = 0; error = 0 }; time = 0 }

pub overflow_add-heir : goal.overflow_add-heir
overflow_add-heir c =
    let slots = c.args.ranked.now.slots in
    let at : (get_or c.slots.result.now c.least-place.result blank).entry.count ≡ (get_or slots c.least-place.result blank).entry.count =
    ap (λ (l : List Slot). (get_or l c.least-place.result blank).entry.count) (c.slots.ensures.slots
    ∙ ap (λ (r : Slots). r.slots) c.least-place.ensures.same) in
    omega (arith, ranked_slot_count_in_total c.least-place.result slots blank c.least-place.ensures.least.within)

pub replace_first-requires-clause-count : goal.replace_first-requires-clause-count
replace_first-requires-clause-count c = λ d.
    let after = c.least-place.new.self.slots in
    let within : c.least-place.result < length after = subst (λ (r : Slots). c.least-place.result < length r.slots)
    (sym c.least-place.ensures.same) c.least-place.ensures.least.within in
    let at : (get_or c.slots.result.now c.least-place.result blank).entry.count ≡ (get_or after c.least-place.result d).entry.count =
    ap (λ (l : List Slot). (get_or l c.least-place.result blank).entry.count) c.slots.ensures.slots
    ∙ ap (λ (s : Slot). s.entry.count) (get_or_default after c.least-place.result blank d within) in
    omega arith

pub replace_first-requires-clause-time : goal.replace_first-requires-clause-time
replace_first-requires-clause-time c = λ d.
    subst (λ (r : Slots). (get_or r.slots c.least-place.result d).time ≤ c.args.now) (sym c.least-place.ensures.same)
    (omega (
      arith,
      all-ranked_slot_at (λ s. s.time < c.args.now) c.least-place.result c.args.ranked.now.slots d c.requires.slots.timed
          c.least-place.ensures.least.within,
    ))

pub enter-requires-clause-others : goal.enter-requires-clause-others
enter-requires-clause-others c =
    subst (λ (keys : List ℕ). HoldsKeysButOne c.least-place.result keys c.leave.new.self)
    (sym (slot_keys_on_change c.least-place.result c.args.key c.slots-2.result.now c.slots-3.result.now c.least-place.new.self c.replace_first.new.self _
    c.slots-2.ensures.slots c.replace_first.ensures c.slots-3.ensures.slots refl))
    (c.leave.ensures.others c.args.key)

pub enter-requires-clause-seen : goal.enter-requires-clause-seen
enter-requires-clause-seen c =
    subst (λ key. HaveTurnedAway c.args.seen key c.leave.new.self)
    (sym (slot_key_on_change c.least-place.result c.args.key c.slots-2.result.now c.slots-3.result.now c.least-place.new.self
    c.replace_first.new.self _ c.slots-2.ensures.slots c.replace_first.ensures c.slots-3.ensures.slots refl
    (subst (λ (r : Slots). c.least-place.result < length r.slots) (sym c.least-place.ensures.same) c.least-place.ensures.least.within)))
    (c.leave.ensures.seen c.args.seen c.args.key c.requires.seen)
