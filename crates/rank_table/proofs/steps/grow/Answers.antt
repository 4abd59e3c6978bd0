use Rattle.std.proofs.Common.{◌≡◌, ◌<◌, List, get_or, ap, ◌∙◌, arith}
use Rattle.std.proofs.lemmas.List.{get_or_default}
use Rattle.rank_table.specs.declared.slot.Slot.{Slot}
use Rattle.rank_table.proofs.RankedSlotLemmas.{all-ranked_slot_at, ranked_slot_count_in_total}
use Rattle.rank_table.proofs.steps.grow.Goals as goal

abbrev blank : Slot
blank = record { entry = record { key = 0; count = 0; error = 0 }; time = 0 }

pub overflow_add-count : goal.overflow_add-count
overflow_add-count c =
    let at : (get_or c.slots.result.now c.args.place blank).entry.count ≡ (get_or c.args.ranked.now.slots c.args.place blank).entry.count = ap
    (λ (l : List Slot). (get_or l c.args.place blank).entry.count) c.slots.ensures.slots in
    omega (arith, ranked_slot_count_in_total c.args.place c.args.ranked.now.slots blank c.requires.within)

pub raise-requires-clause-count : goal.raise-requires-clause-count
raise-requires-clause-count c = λ d.
    let at : (get_or c.slots.result.now c.args.place blank).entry.count ≡ (get_or c.args.ranked.now.slots c.args.place d).entry.count =
    ap (λ (l : List Slot). (get_or l c.args.place blank).entry.count) c.slots.ensures.slots
    ∙ ap (λ (s : Slot). s.entry.count) (get_or_default c.args.ranked.now.slots c.args.place blank d c.requires.within) in
    omega arith

pub raise-requires-clause-time : goal.raise-requires-clause-time
raise-requires-clause-time c = λ d. omega (
  arith,
  all-ranked_slot_at
      (λ s. s.time < c.args.now) c.args.place c.args.ranked.now.slots d c.requires.slots.timed c.requires.within,
)
