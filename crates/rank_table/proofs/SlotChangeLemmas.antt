-- What each kind of step does to slots, to their order and to their entries.
use Rattle.std.proofs.Common.{◌≡◌, ◌≢◌, ℕ, ◌+◌, ◌^◌, ◌<◌, ◌≤◌, zero, suc, ltb, List, [], ◌∷◌, ◌++◌, length, map, get_or}
use Rattle.std.proofs.Common.{set, None, Some, refl, sym, ap, ◌∙◌, subst, arith, length-set, get_or-set_same}
use Rattle.std.specs.List.{AllByRecursion}
use Rattle.std.proofs.lemmas.Bool.{cond-true, cond-false, lt-ltb, le-ltb}
use Rattle.std.proofs.lemmas.List.{get_or_default, get_or_push, length_push, length-map}
use Rattle.std.proofs.lemmas.List.Elements.{recursion_from_All}
use Rattle.space_saving.specs.{TableAdd, put_into, table_entry, table_without, replace_head, after_step}
use Rattle.space_saving.specs.{after_step_from}
use Rattle.rank_table.specs.declared.slot.Slot.{Slot}
use Rattle.rank_table.specs.Ranks.{slot_rank}
use Rattle.rank_table.specs.SlotOrder.{put_in_order, in_rank_order, ordered_entries, AreOrdered}
use Rattle.rank_table.specs.Slot.{AreApart, AreDistinct}
use Rattle.rank_table.specs.Ranks.{HasLeast}
use Rattle.rank_table.specs.Steps.{raised_slot, entered_slot, heir_slot}
use Rattle.rank_table.proofs.RankedSlotLemmas.{ranked_slot_entry, other_ranked_slots, all-other_ranked_slots}
use Rattle.rank_table.proofs.RankedSlotLemmas.{all-ranked_slots_weaker, all-ranked_slots_in_order}
use Rattle.rank_table.proofs.RankedSlotLemmas.{ranked_slot_apart_from_others, in_rank_order-ranked_slot_out}
use Rattle.rank_table.proofs.RankedSlotLemmas.{latest_ranked_slot_is_put, table_without-ranked_slot}
use Rattle.rank_table.proofs.RankedSlotLemmas.{table_entry-ranked_slot, table_entry-missing_ranked_slot}
use Rattle.rank_table.proofs.RankedSlotLemmas.{slot_put_in_order-least, length-ranked_slots_in_order}

-- two facts of each slot give a third
all-both_in_slot_change : (P Q R : Slot → Type 0) → ((slot : Slot) → P slot → Q slot → R slot) → (slots : List Slot) → AllByRecursion P slots
    → AllByRecursion Q slots → AllByRecursion R slots
all-both_in_slot_change P Q R gives [] first second = tt
all-both_in_slot_change P Q R gives (slot ∷ rest) first second = (gives slot first.0 second.0, all-both_in_slot_change P Q R gives rest first.1 second.1)

all-set_in_slot_change : (P : Slot → Type 0) (place : ℕ) (slots : List Slot) (slot : Slot) → P slot → AllByRecursion P slots
    → AllByRecursion P (set slots place slot)
all-set_in_slot_change P place [] slot here all = tt
all-set_in_slot_change P zero (first ∷ rest) slot here all = (here, all.1)
all-set_in_slot_change P (suc place) (first ∷ rest) slot here all = (all.0, all-set_in_slot_change P place rest slot here all.1)

all-push_in_slot_change : (P : Slot → Type 0) (slots : List Slot) (slot : Slot) → P slot → AllByRecursion P slots → AllByRecursion P (slots ++ slot ∷ [])
all-push_in_slot_change P [] slot here all = (here, tt)
all-push_in_slot_change P (first ∷ rest) slot here all = (all.0, all-push_in_slot_change P rest slot here all.1)

slot_change_set_leaves_others : (place : ℕ) (slots : List Slot) (slot : Slot) → other_ranked_slots place (set slots place slot) ≡ other_ranked_slots place slots
slot_change_set_leaves_others place [] slot = refl
slot_change_set_leaves_others zero (first ∷ rest) slot = refl
slot_change_set_leaves_others (suc place) (first ∷ rest) slot = ap (λ l. first ∷ l) (slot_change_set_leaves_others place rest slot)

slot_change_push_leaves_others : (slots : List Slot) (slot : Slot) → other_ranked_slots (length slots) (slots ++ slot ∷ []) ≡ slots
slot_change_push_leaves_others [] slot = refl
slot_change_push_leaves_others (first ∷ rest) slot = ap (λ l. first ∷ l) (slot_change_push_leaves_others rest slot)

AreDistinct-slot_change_set : (place : ℕ) (slots : List Slot) (slot : Slot) → AreDistinct slots
    → AllByRecursion (AreApart slot) (other_ranked_slots place slots)
    → AreDistinct (set slots place slot)
AreDistinct-slot_change_set place [] slot distinct apart = tt
AreDistinct-slot_change_set zero (first ∷ rest) slot distinct apart = (apart, distinct.1)
AreDistinct-slot_change_set (suc place) (first ∷ rest) slot distinct apart = (
  all-set_in_slot_change (AreApart first) place rest slot (
    λ same. apart.0.0 (sym same),
    λ same. apart.0.1
        (sym same),
  ) distinct.0,
  AreDistinct-slot_change_set place rest slot distinct.1 apart.1,
)

AreDistinct-slot_change_push : (slots : List Slot) (slot : Slot) → AreDistinct slots → AllByRecursion (AreApart slot) slots
    → AreDistinct (slots ++ slot ∷ [])
AreDistinct-slot_change_push [] slot distinct apart = (tt, tt)
AreDistinct-slot_change_push (first ∷ rest) slot distinct apart = (
  all-push_in_slot_change (AreApart first) rest slot (
    λ same. apart.0.0 (sym same),
    λ same. apart.0.1
        (sym same),
  ) distinct.0,
  AreDistinct-slot_change_push rest slot distinct.1 apart.1,
)

-- ordered slots are still ordered at a later time
pub AreOrdered-change_of_time : (now later : ℕ) (slots : List Slot) → now ≤ later → AreOrdered now slots → AreOrdered later slots
AreOrdered-change_of_time now later slots after are = record {
  timed = all-ranked_slots_weaker (λ s. s.time < now) (λ s. s.time < later) (λ s before. omega arith) slots are.timed;
  distinct = are.distinct;
}

-- a slot of the present time is apart from earlier slots with other keys
slot_change_stands_apart : (now : ℕ) (slots : List Slot) (slot : Slot) → slot.time ≡ now → AllByRecursion (λ other. other.time < now) slots
    → AllByRecursion (λ other. slot.entry.key ≢ other.entry.key) slots
    → AllByRecursion (AreApart slot) slots
slot_change_stands_apart now slots slot is timed keys =
    all-both_in_slot_change (λ other. other.time < now) (λ other. slot.entry.key ≢ other.entry.key) (AreApart slot)
    (λ other before apart. (apart, λ same. omega arith)) slots timed keys

-- slots stay ordered when one changes now, to a key that no other has
pub AreOrdered-set_change : (now place : ℕ) (slots : List Slot) (slot : Slot) → AreOrdered now slots → slot.time ≡ now
    → AllByRecursion (λ other. slot.entry.key ≢ other.entry.key) (other_ranked_slots place slots)
    → AreOrdered (now + 1) (set slots place slot)
AreOrdered-set_change now place slots slot are is apart =
    record {
      timed = all-set_in_slot_change (λ s. s.time < now + 1) place slots slot (omega arith) (AreOrdered-change_of_time now (now + 1) slots (omega arith)
          are).timed;
      distinct = AreDistinct-slot_change_set place slots slot are.distinct (slot_change_stands_apart now (other_ranked_slots place slots) slot is
          (all-other_ranked_slots
          (λ s. s.time < now) place slots are.timed) apart);
    }

pub AreOrdered-push_change : (now : ℕ) (slots : List Slot) (slot : Slot) → AreOrdered now slots → slot.time ≡ now
    → AllByRecursion (λ other. slot.entry.key ≢ other.entry.key) slots
    → AreOrdered (now + 1) (slots ++ slot ∷ [])
AreOrdered-push_change now slots slot are is apart =
    record {
      timed = all-push_in_slot_change (λ s. s.time < now + 1) slots slot (omega arith) (AreOrdered-change_of_time now (now + 1) slots (omega arith)
          are).timed;
      distinct = AreDistinct-slot_change_push slots slot are.distinct (slot_change_stands_apart now slots slot is are.timed apart);
    }

-- all times are below 2^64
pub slot_changes_are_early : (now : ℕ) (slots : List Slot) → now ≤ 2 ^ 64 → AreOrdered now slots → AllByRecursion (λ slot. slot.time < 2 ^ 64) slots
slot_changes_are_early now slots small are = (AreOrdered-change_of_time now (2 ^ 64) slots small are).timed

-- the entries of slots by the one at a place and the others
pub entries_out_in_slot_change : (now place : ℕ) (slots : List Slot) (d : Slot) → now ≤ 2 ^ 64 → AreOrdered now slots → place < length slots
    → ordered_entries slots ≡ map ranked_slot_entry (put_in_order (get_or slots place d) (in_rank_order (other_ranked_slots place slots)))
entries_out_in_slot_change now place slots d small are within = ap (map ranked_slot_entry)
    (in_rank_order-ranked_slot_out place slots d (slot_changes_are_early now slots small are) are.distinct within)

-- the entries after a slot changed now
entries_set_in_slot_change : (now place : ℕ) (slots : List Slot) (slot : Slot) → now < 2 ^ 64 → AreOrdered now slots
    → AreOrdered (now + 1) (set slots place slot)
    → slot.time ≡ now → place < length slots
    → ordered_entries (set slots place slot) ≡ put_into slot.entry (map ranked_slot_entry (in_rank_order (other_ranked_slots place slots)))
entries_set_in_slot_change now place slots slot small before are is within =
    let latest : AllByRecursion (λ other. other.time < slot.time) (in_rank_order (other_ranked_slots place slots)) =
    all-ranked_slots_in_order (λ other. other.time < slot.time) (other_ranked_slots place slots)
    (all-ranked_slots_weaker (λ s. s.time < now) (λ s. s.time < slot.time) (λ s sooner. omega arith) (other_ranked_slots place slots) (all-other_ranked_slots
    (λ s. s.time < now) place slots before.timed)) in
    entries_out_in_slot_change (now + 1) place (set slots place slot) slot (omega arith) are (omega (arith, length-set slots place slot))
    ∙ ap (λ (s : Slot). map ranked_slot_entry (put_in_order s (in_rank_order (other_ranked_slots place (set slots place slot)))))
    (get_or-set_same slots place slot slot within)
    ∙ ap (λ l. map ranked_slot_entry (put_in_order slot (in_rank_order l))) (slot_change_set_leaves_others place slots slot)
    ∙ latest_ranked_slot_is_put slot (in_rank_order (other_ranked_slots place slots)) latest (omega arith)

-- the other slots have other keys
other_keys_in_slot_change : (place : ℕ) (slots : List Slot) (d : Slot) → AreDistinct slots → place < length slots
    → AllByRecursion (λ other. (get_or slots place d).entry.key ≢ other.entry.key) (other_ranked_slots place slots)
other_keys_in_slot_change place slots d distinct within =
    all-ranked_slots_weaker (AreApart (get_or slots place d)) (λ other. (get_or slots place d).entry.key ≢ other.entry.key) (λ other apart. apart.0)
    (other_ranked_slots place slots) (ranked_slot_apart_from_others place slots d distinct within)

-- slots stay ordered when a weight is added for the key of a slot
pub AreOrdered-grown_change : (weight now place : ℕ) (slots : List Slot) (d : Slot) → AreOrdered now slots → place < length slots
    → AreOrdered (now + 1) (set slots place (raised_slot weight now (get_or slots place d)))
AreOrdered-grown_change weight now place slots d are within = AreOrdered-set_change now place slots
    (raised_slot weight now (get_or slots place d)) are refl
    (other_keys_in_slot_change place slots d are.distinct within)

-- the entry of a key that has a slot
pub entry_found_in_slot_change : (key now place : ℕ) (slots : List Slot) (d : Slot) → now ≤ 2 ^ 64 → AreOrdered now slots → place < length slots
    → (get_or slots place d).entry.key ≡ key
    → table_entry key (ordered_entries slots) ≡ Some (get_or slots place d).entry
entry_found_in_slot_change key now place slots d small are within has =
    let slot = get_or slots place d in
    let rest = in_rank_order (other_ranked_slots place slots) in
    let apart : AllByRecursion (AreApart slot) rest = all-ranked_slots_in_order (AreApart slot) (other_ranked_slots place slots)
    (ranked_slot_apart_from_others place slots d are.distinct within) in
    ap (table_entry key) (entries_out_in_slot_change now place slots d small are within)
    ∙ ap (λ k. table_entry k (map ranked_slot_entry (put_in_order slot rest)))
    (sym has)
    ∙ table_entry-ranked_slot slot rest apart

pub grown_slot_change_is_step : (capacity key weight now place : ℕ) (slots : List Slot) (d : Slot) → now < 2 ^ 64 → AreOrdered now slots
    → place < length slots
    → (get_or slots place d).entry.key ≡ key
    → ordered_entries (set slots place (raised_slot weight now (get_or slots place d))) ≡ after_step capacity
    (ordered_entries slots)
    (record { key = key; weight = weight })
grown_slot_change_is_step capacity key weight now place slots d small are within has =
    let slot = get_or slots place d in
    let rest = in_rank_order (other_ranked_slots place slots) in
    let apart : AllByRecursion (AreApart slot) rest = all-ranked_slots_in_order (AreApart slot) (other_ranked_slots place slots)
    (ranked_slot_apart_from_others place slots d are.distinct within) in
    let out : ordered_entries slots ≡ map ranked_slot_entry (put_in_order slot rest) = entries_out_in_slot_change now place slots d (omega arith)
    are within in
    let found : table_entry key (ordered_entries slots) ≡ Some slot.entry = entry_found_in_slot_change key now place slots d (omega arith) are within
    has in
    let gone : table_without key (ordered_entries slots) ≡ map ranked_slot_entry rest = ap (table_without key) out
    ∙ ap (λ k. table_without k (map ranked_slot_entry (put_in_order slot rest))) (sym has) ∙ table_without-ranked_slot slot rest apart in
    entries_set_in_slot_change now place slots (raised_slot weight now slot) small are
    (AreOrdered-grown_change weight now place slots d are within)
    refl
    within
    ∙ ap (put_into (raised_slot weight now slot).entry) (sym gone)
    ∙ ap (λ o. after_step_from o capacity (ordered_entries slots) (record { key = key; weight = weight })) (sym found)

-- keys that differ, the other way round
pub missing_keys_in_slot_change : (key : ℕ) (slots : List Slot) → AllByRecursion (λ other. other.entry.key ≢ key) slots
    → AllByRecursion (λ other. key ≢ other.entry.key) slots
missing_keys_in_slot_change key slots missing = all-ranked_slots_weaker (λ other. other.entry.key ≢ key) (λ other. key ≢ other.entry.key)
    (λ other apart. λ same. apart (sym same)) slots missing

-- a key that no slot has is missing among the entries
pub missing_entry_in_slot_change : (key : ℕ) (slots : List Slot) → AllByRecursion (λ other. other.entry.key ≢ key) slots
    → table_entry key (ordered_entries slots) ≡ None
missing_entry_in_slot_change key slots missing = table_entry-missing_ranked_slot key (in_rank_order slots)
    (all-ranked_slots_in_order (λ other. other.entry.key ≢ key) slots missing)

pub slot_change_entry_count : (slots : List Slot) → length (ordered_entries slots) ≡ length slots
slot_change_entry_count slots = length-map (in_rank_order slots) ranked_slot_entry ∙ length-ranked_slots_in_order slots

-- slots stay ordered when a new key takes free room
pub AreOrdered-fresh_change : (key weight now : ℕ) (slots : List Slot) → AreOrdered now slots → AllByRecursion (λ other. other.entry.key ≢ key) slots
    → AreOrdered (now + 1) (slots ++ entered_slot key weight now ∷ [])
AreOrdered-fresh_change key weight now slots are missing = AreOrdered-push_change now slots (entered_slot key weight now) are refl
    (missing_keys_in_slot_change key slots missing)

pub fresh_slot_change_is_step : (capacity key weight now : ℕ) (slots : List Slot) → now < 2 ^ 64 → AreOrdered now slots
    → AllByRecursion (λ other. other.entry.key ≢ key) slots → length slots < capacity
    → ordered_entries (slots ++ entered_slot key weight now ∷ []) ≡ after_step capacity (ordered_entries slots)
    (record { key = key; weight = weight })
fresh_slot_change_is_step capacity key weight now slots small are missing room =
    let slot = entered_slot key weight now in
    let add : TableAdd = record { key = key; weight = weight } in
    let after = AreOrdered-fresh_change key weight now slots are missing in
    entries_out_in_slot_change (now + 1) (length slots) (slots ++ slot ∷ []) slot (omega arith) after (omega (arith, length_push slots slot))
    ∙ ap (λ (s : Slot). map ranked_slot_entry (put_in_order s (in_rank_order (other_ranked_slots (length slots) (slots ++ slot ∷ [])))))
    (get_or_push slots slot slot (length slots) refl)
    ∙ ap (λ l. map ranked_slot_entry (put_in_order slot (in_rank_order l))) (slot_change_push_leaves_others slots slot)
    ∙ latest_ranked_slot_is_put slot (in_rank_order slots) (all-ranked_slots_in_order (λ other. other.time < now) slots are.timed) small
    ∙ sym (cond-true (ltb (length (ordered_entries slots)) capacity) (put_into slot.entry (ordered_entries slots))
    (replace_head (ordered_entries slots) add)
    (lt-ltb (length (ordered_entries slots)) capacity (omega (arith, slot_change_entry_count slots))))
    ∙ ap (λ o. after_step_from o capacity (ordered_entries slots) add) (sym (missing_entry_in_slot_change key slots missing))

-- slots stay ordered when a new key takes over a slot
pub AreOrdered-heir_change : (key weight now place : ℕ) (slots : List Slot) (d : Slot) → AreOrdered now slots
    → AllByRecursion (λ other. other.entry.key ≢ key) slots
    → AreOrdered (now + 1) (set slots place (heir_slot key weight now (get_or slots place d)))
AreOrdered-heir_change key weight now place slots d are missing =
    AreOrdered-set_change now place slots (heir_slot key weight now (get_or slots place d)) are refl (all-other_ranked_slots
    (λ other. key ≢ other.entry.key) place slots (missing_keys_in_slot_change key slots missing))

-- the least slot comes first
pub least_entry_in_slot_change : (now place : ℕ) (slots : List Slot) (d : Slot) → now ≤ 2 ^ 64 → AreOrdered now slots → HasLeast slots place
    → ordered_entries slots ≡ (get_or slots place d).entry ∷ map ranked_slot_entry (in_rank_order (other_ranked_slots place slots))
least_entry_in_slot_change now place slots d small are least =
    let slot = get_or slots place d in
    let above : AllByRecursion (λ other. slot_rank slot ≤ slot_rank other) slots = recursion_from_All (λ other. slot_rank slot ≤ slot_rank other) slots
    (λ other e inside. subst (λ (s : Slot). slot_rank s ≤ slot_rank (get_or slots other e)) (get_or_default slots place e d least.within)
    (least.least other e inside)) in
    entries_out_in_slot_change now place slots d small are least.within
    ∙ ap (map ranked_slot_entry) (slot_put_in_order-least slot (in_rank_order (other_ranked_slots place slots))
    (all-ranked_slots_in_order (λ other. slot_rank slot ≤ slot_rank other) (other_ranked_slots place slots)
    (all-other_ranked_slots (λ other. slot_rank slot ≤ slot_rank other) place slots above)))

pub heir_slot_change_is_step : (capacity key weight now place : ℕ) (slots : List Slot) (d : Slot) → now < 2 ^ 64 → AreOrdered now slots
    → AllByRecursion (λ other. other.entry.key ≢ key) slots → length slots ≡ capacity
    → HasLeast slots place → ordered_entries
    (set slots place (heir_slot key weight now (get_or slots place d))) ≡ after_step capacity
    (ordered_entries slots)
    (record { key = key; weight = weight })
heir_slot_change_is_step capacity key weight now place slots d small are missing full least =
    let slot = heir_slot key weight now (get_or slots place d) in
    let add : TableAdd = record { key = key; weight = weight } in
    entries_set_in_slot_change now place slots slot small are (AreOrdered-heir_change key weight now place slots d are missing) refl least.within
    ∙ ap (λ l. replace_head l add) (sym (least_entry_in_slot_change now place slots d (omega arith) are least))
    ∙ sym (cond-false (ltb (length (ordered_entries slots)) capacity) (put_into (record { key = key; count = weight; error = 0 })
    (ordered_entries slots))
    (replace_head (ordered_entries slots) add)
    (le-ltb (length (ordered_entries slots)) capacity (omega (arith, slot_change_entry_count slots))))
    ∙ ap (λ o. after_step_from o capacity (ordered_entries slots) add) (sym (missing_entry_in_slot_change key slots missing))
