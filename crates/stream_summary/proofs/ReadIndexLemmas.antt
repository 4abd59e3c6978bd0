-- What is read of an arena, in its order.
use Rattle.std.proofs.Common.{◌≡◌, ℕ, ◌+◌, ◌<◌, ◌≤◌, zero, suc, List, [], ◌∷◌, ◌++◌, length, map, get_or, take, drop}
use Rattle.std.proofs.Common.{refl, sym, ap, ◌∙◌, subst, arith}
use Rattle.std.proofs.Common.{Option, None, Some, ltb, add-one}
use Rattle.std.specs.Prelude.{MatchOption, IsSome, slice_get}
use Rattle.std.specs.Option.{option_map}
use Rattle.std.proofs.lemmas.Bool.{cond-true, cond-false, lt-ltb, le-ltb}
use Rattle.std.proofs.lemmas.List.{length-map, length-drop, length-take-le, take-append-drop, drop_more, map-append}
use Rattle.std.proofs.lemmas.List.Elements.{recursion_from_All}
use Rattle.std.proofs.lemmas.Option.{slice_get_within, slice_get-map, get_or_from_slice_get}
use Rattle.std.specs.List.{AllByRecursion}
use Rattle.space_saving.specs.declared.entry.Entry.{Entry}
use Rattle.space_saving.specs.{HasSmallError, IsTable, KeysApart, TableValue, interval_from, interval_in}
use Rattle.space_saving.specs.{least_count, table_entry, table_total}
use Rattle.key_index.specs.{KeyEntries}
use Rattle.stream_summary.specs.declared.arena.Arena.{Arena}
use Rattle.stream_summary.specs.declared.numbers.EntryNumber.{EntryNumber}
use Rattle.stream_summary.specs.Ring.{IsIn, IsFirstOf, IsLastOf}
use Rattle.stream_summary.specs.Buckets.{bucket_of, count_of, entries_at, entry_at, no_slot}
use Rattle.stream_summary.specs.Arena.{AreParts, arena_entries}
use Rattle.stream_summary.proofs.AllInPairwiseLemmas.{all_here}
use Rattle.stream_summary.proofs.ContentLemmas.{content_entry_at_split}

-- the element at an index stands between those before and those behind it
pub split_at_index : (xs : List ℕ) (i x : ℕ) → slice_get xs i ≡ Some x → xs ≡ take i xs ++ x ∷ drop (i + 1) xs
split_at_index xs i x at =
    let within : i < length xs = slice_get_within xs i x at in
    sym (take-append-drop i xs) ∙ ap (λ l. take i xs ++ l) (drop_more xs i 0 within
    ∙ ap (λ n. n ∷ drop (i + 1) xs) (get_or_from_slice_get xs i x 0 at))

-- the number at an index of an order, and none from its end on
abbrev pub IsAtIndex : List ℕ → ℕ → Option EntryNumber → Type 0
IsAtIndex order index next = MatchOption next (length order ≤ index) (λ n. slice_get order index ≡ Some n.0)

read_slice_get_behind : (front : List ℕ) (i n m : ℕ) (rest : List ℕ) → length front ≡ i → slice_get (front ++ n ∷ m ∷ rest) (suc i) ≡ Some m
read_slice_get_behind [] zero n m rest long = refl
read_slice_get_behind [] (suc i) n m rest long = absurd (omega (arith, long))
read_slice_get_behind (x ∷ front) zero n m rest long = absurd (omega (arith, long))
read_slice_get_behind (x ∷ front) (suc i) n m rest long = read_slice_get_behind front i n m rest (omega (arith, long))

pub first_at_index : (order : List ℕ) (first : Option EntryNumber) → MatchOption first (order ≡ []) (λ n. IsFirstOf n.0 order)
    → IsAtIndex order 0 first
first_at_index order None none = omega (arith, ap (λ (l : List ℕ). length l) none)
first_at_index order (Some n) begins = ap (λ l. slice_get l 0) begins.1

pub some_at_index : (order : List ℕ) (index : ℕ) (next : Option EntryNumber) → IsAtIndex order index next → index < length order → IsSome next
some_at_index order index None past within = absurd (omega (arith, past, within))
some_at_index order index (Some n) at within = refl

pub next_at_index : (order : List ℕ) (index : ℕ) (n : EntryNumber) (next : Option EntryNumber) → slice_get order index ≡ Some n.0
    → ((front back : List ℕ) → order ≡ front ++ n.0 ∷ back → MatchOption next (back ≡ []) (λ m. IsFirstOf m.0 back))
    → IsAtIndex order (index + 1) next
next_at_index order index n None at after =
    let none : drop (index + 1) order ≡ [] = after (take index order) (drop (index + 1) order) (split_at_index order index n.0 at) in
    omega (arith, ap (λ (l : List ℕ). length l) none, length-drop (index + 1) order)
next_at_index order index n (Some m) at after =
    let split = split_at_index order index n.0 at in
    let begins : IsFirstOf m.0 (drop (index + 1) order) = after (take index order) (drop (index + 1) order) split in
    let is : order ≡ take index order ++ n.0 ∷ m.0 ∷ begins.0 = split ∙ ap (λ l. take index order ++ n.0 ∷ l) begins.1 in
    let within : index < length order = slice_get_within order index n.0 at in
    ap (λ i. slice_get order i) (add-one index) ∙ ap (λ l. slice_get l (suc index)) is
    ∙ read_slice_get_behind (take index order) index n.0 m.0 begins.0 (length-take-le index order (omega arith))

pub in_at_index : (order : List ℕ) (index : ℕ) (n : ℕ) → slice_get order index ≡ Some n → IsIn n order
in_at_index order index n at = record { front = take index order; back = drop (index + 1) order; is = split_at_index order index n at }

-- the entry at an index
pub entry_at_index : (arena : Arena) (index n : ℕ) → slice_get arena.order.order index ≡ Some n
    → slice_get (arena_entries arena) index ≡ Some (entry_at arena.slots.items arena.buckets.items n)
entry_at_index arena index n at =
    let f = entry_at arena.slots.items arena.buckets.items in
    slice_get-map f arena.order.order index ∙ ap (option_map f) at

-- the count of the last entry's bucket
pub read_last_count_within : (arena : Arena) (n : ℕ) (limit : ℕ) → IsLastOf n arena.order.order
    → AllByRecursion (λ entry. entry.count ≤ limit) (arena_entries arena) → count_of arena.buckets.items (bucket_of arena.slots.items n) ≤ limit
read_last_count_within arena n limit last all =
    let f = entry_at arena.slots.items arena.buckets.items in
    let split : arena_entries arena ≡ map f last.0 ++ f n ∷ [] = ap (map f) last.1 ∙ map-append f last.0 (n ∷ []) in
    all_here (λ (e : Entry). e.count ≤ limit) (map f last.0) (f n) [] (subst (AllByRecursion (λ (e : Entry). e.count ≤ limit)) split all)

-- the first entry's count
pub read_first_count_is_least : (arena : Arena) (n : ℕ) → IsFirstOf n arena.order.order
    → (entry_at arena.slots.items arena.buckets.items n).count ≡ least_count (arena_entries arena)
read_first_count_is_least arena n first = sym (ap (λ l. least_count (entries_at arena.slots.items arena.buckets.items l)) first.1)

-- the interval of a key
pub read_entry_of_key : (arena : Arena) (key n : ℕ) → IsTable (length arena.buckets.items) (arena_entries arena) → IsIn n arena.order.order
    → (get_or arena.slots.items n no_slot).key ≡ key
    → (table_entry key (arena_entries arena) ≡ Some (entry_at arena.slots.items arena.buckets.items n))
    × ((entry_at arena.slots.items arena.buckets.items n).error < (entry_at arena.slots.items arena.buckets.items n).count)
read_entry_of_key arena key n table is_in has =
    let f = entry_at arena.slots.items arena.buckets.items in
    let total = table_total (arena_entries arena) in
    let capacity = length arena.buckets.items in
    let split : arena_entries arena ≡ map f is_in.front ++ f n ∷ map f is_in.back = ap (map f) is_in.is ∙ map-append f is_in.front (n ∷ is_in.back) in (
      ap (table_entry key) split ∙ content_entry_at_split key (map f is_in.front) (f n) (map f is_in.back) (subst KeysApart split table.distinct) has,
      (all_here (HasSmallError capacity total) (map f is_in.front) (f n) (map f is_in.back)
          (subst (AllByRecursion (HasSmallError capacity total)) split
          (recursion_from_All (HasSmallError capacity total) (arena_entries arena) table.small_errors))).0,
    )

pub read_missing_low : (capacity key : ℕ) (es : List Entry) → table_entry key es ≡ None
    → 0 ≡ (interval_in (record { capacity = capacity; entries = es }) key).low
read_missing_low capacity key es missing =
    let table : TableValue = record { capacity = capacity; entries = es } in sym (ap (λ o. (interval_from o table).low) missing)

pub read_missing_high_with_room : (capacity key : ℕ) (es : List Entry) → table_entry key es ≡ None → length es < capacity
    → 0 ≡ (interval_in (record { capacity = capacity; entries = es }) key).high
read_missing_high_with_room capacity key es missing room =
    let table : TableValue = record { capacity = capacity; entries = es } in
    sym (ap (λ o. (interval_from o table).high) missing ∙ cond-true {A = ℕ} (ltb (length es) capacity) 0 (least_count es)
    (lt-ltb (length es) capacity room))

pub read_missing_high_when_full : (capacity key : ℕ) (es : List Entry) → table_entry key es ≡ None → capacity ≤ length es
    → least_count es ≡ (interval_in (record { capacity = capacity; entries = es }) key).high
read_missing_high_when_full capacity key es missing full =
    let table : TableValue = record { capacity = capacity; entries = es } in
    sym (ap (λ o. (interval_from o table).high) missing ∙ cond-false {A = ℕ} (ltb (length es) capacity) 0 (least_count es)
    (le-ltb (length es) capacity full))

-- as many entries as slots
pub read_entries_as_slots : (index : KeyEntries) (arena : Arena) → AreParts index arena → length (arena_entries arena) ≡ length arena.slots.items
read_entries_as_slots index arena parts = length-map arena.order.order (entry_at arena.slots.items arena.buckets.items) ∙ parts.counted
