-- Steps of a table on its arena.
use Rattle.std.proofs.Common.{◌≡◌, ◌≢◌, ℕ, ◌+◌, ◌<◌, ◌≤◌, zero, suc, List, [], ◌∷◌, ◌++◌, length, map, get_or, refl}
use Rattle.std.proofs.Common.{sym, ap, ◌∙◌, subst, arith}
use Rattle.std.proofs.Common.{⊎_elim, Some, None, vec_capacity, length-append}
use Rattle.std.specs.Prelude.{All, slice_get}
use Rattle.std.proofs.lemmas.Bool.{cases_eq}
use Rattle.std.proofs.lemmas.List.{length-map, map-append, get_or-map}
use Rattle.std.proofs.lemmas.Option.{slice_get_within, get_or_from_slice_get}
use Rattle.std.proofs.lemmas.List.Elements.{recursion_from_All}
use Rattle.std.proofs.lemmas.List.Sums.{sum_by-cons}
use Rattle.std.specs.List.{AllByRecursion}
use Rattle.key_index.specs.{KeyEntries, HoldsKeys}
use Rattle.space_saving.specs.declared.entry.Entry.{Entry}
use Rattle.space_saving.specs.{IsTable, after_step, put_into, table_entry, table_total}
use Rattle.stream_summary.specs.declared.arena.Arena.{Arena}
use Rattle.stream_summary.specs.declared.slot.Slot.{Slot}
use Rattle.stream_summary.specs.Ring.{IsIn}
use Rattle.stream_summary.specs.Buckets.{entries_at, entry_at, keys_of, no_slot}
use Rattle.stream_summary.specs.Arena.{AreParts, IsArena, IsReplaced, IsPutIn, arena_entries, heir_entry, raised_entry}
use Rattle.stream_summary.proofs.AllInPairwiseLemmas.{is_in_between, is_in_cases, is_in_insert, is_in_none}
use Rattle.stream_summary.proofs.ContentLemmas.{content_entry_is_missing, content_step_of_found}
use Rattle.stream_summary.proofs.ContentLemmas.{content_step_when_full, content_step_with_room}

-- the count of an entry is within the total
pub table_count_in_total : (f : ℕ → Entry) (place : ℕ) (order : List ℕ) → IsIn place order → (f place).count ≤ table_total (map f order)
table_count_in_total f place [] is_in = absurd (is_in_none place is_in)
table_count_in_total f place (x ∷ order) is_in =
    let sum : table_total (map f (x ∷ order)) ≡ (f x).count + table_total (map f order) = sum_by-cons (λ (e : Entry). e.count) (f x) (map f order) in
    ⊎_elim
    (λ (here : x ≡ place). omega (arith, sum, ap (λ n. (f n).count) here))
    (λ (there : IsIn place order). omega (arith, sum, table_count_in_total f place order there))
    (is_in_cases place x order is_in)

-- a list that isn't empty begins with an element
pub first_of_some : (xs : List ℕ) → 1 ≤ length xs → (first : ℕ) × (rest : List ℕ) × (xs ≡ first ∷ rest)
first_of_some [] some = absurd (omega arith)
first_of_some (x ∷ xs) some = (x, xs, refl)

-- as many keys as slots
pub slots_of_keys : (slots : List Slot) → length (keys_of slots) ≡ length slots
slots_of_keys slots = length-map slots (λ slot. slot.key)

-- the parts after an entry was replaced
pub table_parts_replaced : (index index_after : KeyEntries) (old new : Arena) (place : ℕ) (entry : Entry) → AreParts index old → IsArena new
    → IsReplaced place entry old new → length (keys_of new.slots.items) ≡ length (keys_of old.slots.items) → HoldsKeys (keys_of new.slots.items) index_after
    → index_after.room ≡ index.room
    → vec_capacity new.slots ≡ vec_capacity old.slots → length new.buckets.items ≡ length old.buckets.items → AreParts index_after new
table_parts_replaced index index_after old new place entry parts holds replaced keys keyed room memory buckets =
    let slots : length new.slots.items ≡ length old.slots.items = omega (arith, keys, slots_of_keys new.slots.items, slots_of_keys old.slots.items) in
    record {
      some = omega (arith, parts.some, buckets);
      roomy = room ∙ parts.roomy ∙ sym buckets;
      keyed = keyed;
      memory = omega (arith, parts.memory, memory, buckets);
      holds = holds;
      whole = λ other low. replaced.stays other (parts.whole other (omega (arith, low, slots)));
      counted = omega (arith, replaced.counted, parts.counted, slots);
    }

-- and after an entry was put in a slot of its own
pub table_parts_appended : (index index_after : KeyEntries) (old between new : Arena) (place : ℕ) (entry : Entry) → AreParts index old → IsArena new
    → place ≡ length old.slots.items → between.order ≡ old.order → IsPutIn place entry between new
    → length (keys_of new.slots.items) ≡ length (keys_of old.slots.items) + 1
    → HoldsKeys (keys_of new.slots.items) index_after → index_after.room ≡ index.room
    → vec_capacity old.slots ≤ vec_capacity new.slots → length new.buckets.items ≡ length old.buckets.items → AreParts index_after new
table_parts_appended index index_after old between new place entry parts holds last order put keys keyed room memory buckets =
    let slots : length new.slots.items ≡ length old.slots.items + 1 =
    omega (arith, keys, slots_of_keys new.slots.items, slots_of_keys old.slots.items) in
    let before : old.order.order ≡ put.front ++ put.back = ap (λ r. r.order) (sym order) ∙ put.before in
    record {
      some = omega (arith, parts.some, buckets);
      roomy = room ∙ parts.roomy ∙ sym buckets;
      keyed = keyed;
      memory = omega (arith, parts.memory, memory, buckets);
      holds = holds;
      whole = λ other low. ⊎_elim
          (λ (here : other ≡ place). subst (IsIn other) (sym put.after) (subst (λ n. IsIn n (put.front ++ place ∷ put.back)) (sym here)
          (is_in_between put.front place put.back)))
          (λ (there : other ≡ place → ⊥).
          let not_last : other ≢ length old.slots.items = λ same. there (same ∙ sym last) in
          subst (IsIn other) (sym put.after) (is_in_insert other put.front place put.back
          (subst (IsIn other) before (parts.whole other (omega (arith, low, slots, not_last))))))
          (cases_eq other place);
      counted = omega (
        arith,
        ap (λ (l : List ℕ). length l) before,
        ap (λ (l : List ℕ). length l) put.after,
        length-append put.front put.back,
        length-append put.front (place ∷ put.back),
        parts.counted,
        slots,
      );
    }

-- a key that no slot has
table_slot_is_other : (key place : ℕ) (slots : List Slot) → AllByRecursion (λ other. other ≢ key) (keys_of slots) → place < length slots
    → (get_or slots place no_slot).key ≢ key
table_slot_is_other key place [] missing within = absurd (omega arith)
table_slot_is_other key zero (slot ∷ slots) missing within = missing.0
table_slot_is_other key (suc place) (slot ∷ slots) missing within = table_slot_is_other key place slots missing.1 (omega arith)

table_all_entries_other : (key : ℕ) (f : ℕ → Entry) (n : ℕ) (order : List ℕ) → ((place : ℕ) → place < n → (f place).key ≢ key)
    → AllByRecursion (λ place. place < n) order → AllByRecursion (λ e. e.key ≢ key) (map f order)
table_all_entries_other key f n [] other within = tt
table_all_entries_other key f n (x ∷ order) other within = (other x within.0, table_all_entries_other key f n order other within.1)

pub table_key_is_missing : (arena : Arena) (key : ℕ) → IsArena arena → All (λ other. other ≢ key) (keys_of arena.slots.items)
    → table_entry key (arena_entries arena) ≡ None
table_key_is_missing arena key holds missing =
    let rec = recursion_from_All (λ other. other ≢ key) (keys_of arena.slots.items) missing in
    content_entry_is_missing key (arena_entries arena) (table_all_entries_other key (entry_at arena.slots.items
    arena.buckets.items) (length arena.slots.items)
    arena.order.order (λ place low. table_slot_is_other key place arena.slots.items rec low) holds.within)

-- the place of a key
pub place_of_key : (key place : ℕ) (slots : List Slot) → slice_get (keys_of slots) place ≡ Some key
    → (place < length slots) × ((get_or slots place no_slot).key ≡ key)
place_of_key key place slots found =
    let within : place < length slots = omega (arith, slice_get_within (keys_of slots) place key found, slots_of_keys slots) in
    (within, sym (get_or-map (λ (slot : Slot). slot.key) slots place no_slot 0 within) ∙ get_or_from_slice_get (keys_of slots) place key 0 found)

-- the three cases of a step
pub step_raised : (old new : Arena) (key weight place : ℕ) → IsTable (length old.buckets.items) (arena_entries old)
    → IsIn place old.order.order → (get_or old.slots.items place no_slot).key ≡ key
    → IsReplaced place (raised_entry weight (entry_at old.slots.items old.buckets.items place)) old new
    → arena_entries new ≡ after_step (length old.buckets.items) (arena_entries old) (record { key = key; weight = weight })
step_raised old new key weight place table is_in has replaced =
    let f = entry_at old.slots.items old.buckets.items in
    replaced.entries is_in.front is_in.back is_in.is
    ∙ ap (put_into (raised_entry weight (f place))) (map-append f is_in.front is_in.back)
    ∙ content_step_of_found (length old.buckets.items) (arena_entries old) (map f is_in.front) (f place) (map f
    is_in.back) (record { key = key; weight = weight })
    (ap (map f) is_in.is ∙ map-append f is_in.front (place ∷ is_in.back)) table.distinct has

pub step_appended : (index : KeyEntries) (old new : Arena) (key weight : ℕ) → AreParts index old → All (λ other. other ≢ key) (keys_of old.slots.items)
    → length old.slots.items < length old.buckets.items
    → arena_entries new ≡ put_into (record { key = key; count = weight; error = 0 }) (arena_entries old)
    → arena_entries new ≡ after_step (length old.buckets.items) (arena_entries old) (record { key = key; weight = weight })
step_appended index old new key weight parts missing room is =
    is ∙ content_step_with_room (length old.buckets.items) (arena_entries old) (record { key = key; weight = weight })
    (table_key_is_missing old key parts.holds missing)
    (omega (arith, room, parts.counted, length-map old.order.order (entry_at old.slots.items old.buckets.items)))

pub step_taken_over : (index : KeyEntries) (old new : Arena) (key weight : ℕ) → AreParts index old → All (λ other. other ≢ key) (keys_of old.slots.items)
    → length old.slots.items ≡ length old.buckets.items
    → ((first : ℕ) (rest : List ℕ) → old.order.order ≡ first ∷ rest
    → arena_entries new ≡ put_into (heir_entry key weight (entry_at old.slots.items old.buckets.items first))
    (entries_at old.slots.items old.buckets.items rest))
    → arena_entries new ≡ after_step (length old.buckets.items) (arena_entries old) (record { key = key; weight = weight })
step_taken_over index old new key weight parts missing full taken =
    let f = entry_at old.slots.items old.buckets.items in
    let long : length (arena_entries old) ≡ length old.order.order = length-map old.order.order f in
    let first = first_of_some old.order.order (omega (arith, parts.counted, parts.some, full)) in
    taken first.0 first.1 first.2
    ∙ content_step_when_full (length old.buckets.items) (arena_entries old) (f first.0) (map f first.1) (record { key = key; weight = weight })
    (ap (map f) first.2) (table_key_is_missing old key parts.holds missing) (omega (arith, long, parts.counted, full))
