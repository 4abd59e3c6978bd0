-- A step keeps what is true of every table.
use Rattle.std.proofs.Common.{◌≡◌, ℕ, ◌+◌, ◌*◌, ◌^◌, ◌<◌, ◌≤◌, ltb, List, [], ◌∷◌, length, All, None, Some, refl}
use Rattle.std.proofs.Common.{sym, ap, subst, ◌∙◌, arith}
use Rattle.std.specs.List.{AllByRecursion}
use Rattle.std.proofs.lemmas.Bool.{ltb-true, ltb-false, cond_both}
use Rattle.std.proofs.lemmas.List.Elements.{All-from_recursion, recursion_from_All}
use Rattle.space_saving.specs.declared.entry.Entry.{Entry}
use Rattle.space_saving.specs.Summary.{TableAdd, put_into, table_without, table_entry, replace_head}
use Rattle.space_saving.specs.Summary.{after_step, after_step_from, table_total}
use Rattle.space_saving.specs.Summary.{RisesFrom, KeysApart, HasSmallError, IsTable, IsKeptTable}
use Rattle.space_saving.proofs.PutEntryLemmas.{table_total-first_put_entry, length-put_entry, table_total-put_entry}
use Rattle.space_saving.proofs.PutEntryLemmas.{RisesFrom-put_entry}
use Rattle.space_saving.proofs.PutEntryLemmas.{KeysApart-put_entry, put_entry_missing_from_first, all-put_entry}
use Rattle.space_saving.proofs.WithoutLemmas.{length-without, table_total-without, all-entry_before_without}
use Rattle.space_saving.proofs.WithoutLemmas.{key-entry_before_without}
use Rattle.space_saving.proofs.WithoutLemmas.{RisesFrom-less_before_without, RisesFrom-without}
use Rattle.space_saving.proofs.WithoutLemmas.{table_entry-without_same}
use Rattle.space_saving.proofs.WithoutLemmas.{KeysApart-without, all-without}

-- the entry with this weight more
abbrev pub table_step_raised : Entry → ℕ → Entry
table_step_raised e weight = record e { count = e.count + weight }

-- the entry of a key that takes free room
abbrev pub table_step_fresh : TableAdd → Entry
table_step_fresh a = record { key = a.key; count = a.weight; error = 0 }

-- the entry of a key that replaces another
abbrev pub table_step_heir : Entry → TableAdd → Entry
table_step_heir h a = record { key = a.key; count = h.count + a.weight; error = h.count }

-- what holds in each of the three cases holds after a step
pub table_step_cases : (P : List Entry → Type 0) (capacity : ℕ) (es : List Entry) (a : TableAdd) → 1 ≤ capacity
    → ((e : Entry) → table_entry a.key es ≡ Some e → P (put_into (table_step_raised e a.weight) (table_without a.key es)))
    → (table_entry a.key es ≡ None → length es < capacity → P (put_into (table_step_fresh a) es))
    → ((h : Entry) (rest : List Entry) → es ≡ h ∷ rest → table_entry a.key es ≡ None → capacity ≤ length es
    → P (put_into (table_step_heir h a) rest))
    → P (after_step capacity es a)
table_step_cases P capacity es a some there room full =
    (elim (table_entry a.key es) as (λ o. table_entry a.key es ≡ o → P (after_step_from o capacity es a)) [
      | None ↦ λ missing. cond_both (ltb (length es) capacity) (put_into (table_step_fresh a) es) (replace_head es a) P
          (λ less. room missing (ltb-true (length es) capacity less))
          (λ more.
          replaced es (λ h rest is. full h rest is missing (ltb-false (length es) capacity more))
          (λ none. let big : capacity
          ≤ length es = ltb-false (length es) capacity more in
          let zero_length : length es ≡ 0 = ap length none in absurd (omega arith)))
      | Some e ↦ λ found. there e found
    ]) refl
  where
    replaced : (l : List Entry) → ((h : Entry) (rest : List Entry) → l ≡ h ∷ rest → P (put_into (table_step_heir h a) rest))
        → (l ≡ [] → P (replace_head l a)) → P (replace_head l a)
    replaced [] some_case none_case = none_case refl
    replaced (h ∷ rest) some_case none_case = some_case h rest refl

-- a step adds the weight to the sum of the counts
pub table_total-table_step : (capacity : ℕ) (es : List Entry) (a : TableAdd) → 1 ≤ capacity
    → table_total (after_step capacity es a) ≡ table_total es + a.weight
table_total-table_step capacity es a some =
    table_step_cases (λ after. table_total after ≡ table_total es + a.weight) capacity es a some
    (λ e found.
    omega (arith, table_total-put_entry (table_step_raised e a.weight) (table_without a.key es), table_total-without a.key e es found))
    (λ _ _. omega (arith, table_total-put_entry (table_step_fresh a) es))
    (λ h rest is _ _. omega (arith, table_total-put_entry (table_step_heir h a) rest, table_total-first_put_entry h rest, ap table_total is))

-- n counts, each at least this number, add up to at least n times the number
pub table_step_counts_add_up : (least : ℕ) (es : List Entry) → RisesFrom least es → least * length es ≤ table_total es
table_step_counts_add_up least [] rises = omega arith
table_step_counts_add_up least (f ∷ fs) rises =
    let above : least ≤ f.count = rises.0 in
    omega (arith, table_total-first_put_entry f fs, table_step_counts_add_up least fs (RisesFrom-less_before_without least f.count fs rises.1 rises.0))

-- an error stays small as the total grows
table_step_error_stays_small : (capacity total weight : ℕ) (es : List Entry) → AllByRecursion (HasSmallError capacity total) es
    → AllByRecursion (HasSmallError capacity (total + weight)) es
table_step_error_stays_small capacity total weight [] all = tt
table_step_error_stays_small capacity total weight (f ∷ fs) all =
    let small : f.error * capacity ≤ total = all.0.1 in
    ((all.0.0, omega arith), table_step_error_stays_small capacity total weight fs all.1)

-- the facts of a table, with those of each entry by recursion
record HasTableStepFacts (capacity total : ℕ) (es : List Entry) : Type 0 where
  fits : length es ≤ capacity
  ascending : RisesFrom 0 es
  distinct : KeysApart es
  small_errors : AllByRecursion (HasSmallError capacity total) es

table_step_facts_when_found : (capacity : ℕ) (es : List Entry) (a : TableAdd) (e : Entry) → HasTableStepFacts capacity (table_total es + a.weight) es
    → table_entry a.key es ≡ Some e
    → HasTableStepFacts capacity (table_total es + a.weight) (put_into (table_step_raised e a.weight) (table_without a.key es))
table_step_facts_when_found capacity es a e facts found =
    let new = table_step_raised e a.weight in
    let rest = table_without a.key es in
    let small = all-entry_before_without (HasSmallError capacity (table_total es + a.weight)) a.key e es facts.small_errors found in
    let below : e.error < e.count = small.0 in
    record {
      fits = omega (arith, facts.fits, length-put_entry new rest, length-without a.key e es found);
      ascending = RisesFrom-put_entry 0 new rest (RisesFrom-without 0 a.key es facts.ascending) (omega arith);
      distinct =
          KeysApart-put_entry new rest (KeysApart-without a.key es facts.distinct)
          (ap (λ k. table_entry k rest) (key-entry_before_without a.key e es found)
          ∙ table_entry-without_same a.key es facts.distinct);
      small_errors =
          all-put_entry (HasSmallError capacity (table_total es + a.weight)) new rest
          (all-without _ a.key es facts.small_errors) (omega arith, small.1);
    }

table_step_facts_with_room : (capacity total : ℕ) (es : List Entry) (a : TableAdd) → 1 ≤ a.weight → HasTableStepFacts capacity total es
    → table_entry a.key es ≡ None → length es < capacity → HasTableStepFacts capacity total (put_into (table_step_fresh a) es)
table_step_facts_with_room capacity total es a weighs facts missing room = record {
  fits = omega (arith, length-put_entry (table_step_fresh a) es);
  ascending = RisesFrom-put_entry 0 (table_step_fresh a) es facts.ascending (omega arith);
  distinct = KeysApart-put_entry (table_step_fresh a) es facts.distinct missing;
  small_errors = all-put_entry (HasSmallError capacity total) (table_step_fresh a) es facts.small_errors (omega arith, omega arith);
}

table_step_facts_when_full : (capacity : ℕ) (h : Entry) (rest : List Entry) (a : TableAdd) → 1 ≤ a.weight
    → HasTableStepFacts capacity (table_total (h ∷ rest) + a.weight) (h ∷ rest)
    → table_entry a.key (h ∷ rest) ≡ None → capacity ≤ length (h ∷ rest)
    → HasTableStepFacts capacity (table_total (h ∷ rest) + a.weight) (put_into (table_step_heir h a) rest)
table_step_facts_when_full capacity h rest a weighs facts missing full =
    let total = table_total (h ∷ rest) + a.weight in
    let is_length : length (h ∷ rest) ≡ capacity = omega (arith, facts.fits) in
    let rises : RisesFrom h.count (h ∷ rest) = (omega arith, facts.ascending.1) in
    let product : h.count * capacity ≤ table_total (h ∷ rest) =
    subst (λ n. h.count * n ≤ table_total (h ∷ rest)) is_length (table_step_counts_add_up h.count (h ∷ rest) rises) in
    record {
      fits = omega (arith, facts.fits, length-put_entry (table_step_heir h a) rest);
      ascending =
          RisesFrom-put_entry 0 (table_step_heir h a) rest (RisesFrom-less_before_without 0 h.count rest facts.ascending.1 (omega arith))
          (omega arith);
      distinct = KeysApart-put_entry (table_step_heir h a) rest facts.distinct.1 (put_entry_missing_from_first a.key h rest missing).1;
      small_errors =
          all-put_entry (HasSmallError capacity total) (table_step_heir h a) rest facts.small_errors.1 (omega arith, omega arith);
    }

table_step_keeps_facts : (capacity : ℕ) (es : List Entry) (a : TableAdd) → 1 ≤ capacity → 1 ≤ a.weight
    → HasTableStepFacts capacity (table_total es + a.weight) es
    → HasTableStepFacts capacity (table_total es + a.weight) (after_step capacity es a)
table_step_keeps_facts capacity es a some weighs facts =
    table_step_cases (HasTableStepFacts capacity (table_total es + a.weight)) capacity es a some
    (λ e found. table_step_facts_when_found capacity es a e facts found)
    (λ missing room. table_step_facts_with_room capacity _ es a weighs facts missing room)
    (λ h rest is. (subst (λ l. HasTableStepFacts capacity (table_total l + a.weight) l → table_entry a.key l ≡ None → capacity
    ≤ length l → HasTableStepFacts capacity (table_total l + a.weight) (put_into (table_step_heir h a) rest))
    (sym is) (table_step_facts_when_full capacity h rest a weighs)) facts)

-- a step leaves a table
pub IsTable-step : (capacity : ℕ) (es : List Entry) (a : TableAdd) → 1 ≤ capacity → 1 ≤ a.weight → IsTable capacity es
    → IsTable capacity (after_step capacity es a)
IsTable-step capacity es a some weighs table =
    let total = table_total es + a.weight in
    let grown =
    table_step_error_stays_small capacity (table_total es) a.weight es
    (recursion_from_All (HasSmallError capacity (table_total es)) es table.small_errors) in
    let facts =
    table_step_keeps_facts capacity es a some weighs
    (record {
      fits = table.fits;
      ascending = table.ascending;
      distinct = table.distinct;
      small_errors = grown;
    }) in
    let errors = All-from_recursion (HasSmallError capacity total) (after_step capacity es a) facts.small_errors in
    record {
      fits = facts.fits;
      ascending = facts.ascending;
      distinct = facts.distinct;
      small_errors =
          subst (λ n. All (HasSmallError capacity n) (after_step capacity es a))
          (sym (table_total-table_step capacity es a some)) errors;
    }

-- no entries are a table
pub IsTable-nil_before_step : (capacity : ℕ) → IsTable capacity []
IsTable-nil_before_step capacity = record {
  fits = omega arith;
  ascending = tt;
  distinct = tt;
  small_errors = λ k d below. absurd (omega arith);
}

-- what a table keeps after a step
pub IsKept-table_step : (capacity room wider total : ℕ) (es after : List Entry) (a : TableAdd) → IsKeptTable capacity room total es
    → 1 ≤ a.weight
    → table_total es + a.weight < 2 ^ 56 → capacity ≤ wider → after ≡ after_step capacity es a
    → IsKeptTable capacity wider (total + a.weight) after
IsKept-table_step capacity room wider total es after a kept weighs fits has_room is =
    let some : 1 ≤ capacity = omega (arith, kept.least) in
    let grew : table_total after ≡ table_total es + a.weight =
    ap table_total is ∙ table_total-table_step capacity es a some in
    record {
      least = kept.least;
      most = kept.most;
      has_room = has_room;
      adds_up = ap (λ n. n + a.weight) kept.adds_up ∙ sym grew;
      are_entries = record {
        is_table = subst (IsTable capacity) (sym is) (IsTable-step capacity es a some weighs kept.are_entries.is_table);
        bounded = subst (λ n. n < 2 ^ 56) (sym grew) fits;
      };
    }
