-- Distinct keys of entries, by the keys in rising order.
use Rattle.std.proofs.Common.{◌≡◌, ◌↔◌, ℕ, eqb, cond, true, false, List, [], ◌∷◌, map, None, Some, refl, ap, ◌∙◌, arith}
use Rattle.std.specs.List.{AllByRecursion, IsDistinct}
use Rattle.std.specs.List.Sorted.{IsPermutation, IsSorted, IsStrictlyIncreasing}
use Rattle.std.specs.Ordering.{nat_cmp}
use Rattle.std.proofs.lemmas.Bool.{ne_eqb}
use Rattle.std.proofs.lemmas.Bool.Decides.{nat_tests}
use Rattle.std.proofs.lemmas.List.Sorted.{IsPermutation-sym, IsNonDecreasingBy-from_sort}
use Rattle.std.proofs.lemmas.Map.Keys.{IsDistinct-IsPermutation, IsDistinct-from_apart}
use Rattle.std.proofs.lemmas.Map.Keys.{IsStrictlyIncreasing-from_distinct, sorted_from_strictly_increasing}
use Rattle.std.proofs.lemmas.Map.Keys.{below_from_sorted}
use Rattle.space_saving.specs.declared.entry.Entry.{Entry}
use Rattle.space_saving.specs.Summary.{table_entry, KeysApart}

-- the keys of entries, in their order
abbrev pub keys_to_be_sorted : List Entry → List ℕ
keys_to_be_sorted es = map (λ (e : Entry). e.key) es

-- whether two keys are the same does not depend on which comes first
eqb-flip_of_sorted_keys : (x y : ℕ) → eqb x y ≡ eqb y x
eqb-flip_of_sorted_keys x y = grind (arith, nat_tests)

-- each key differs from one that has no entry
sorted_keys_differ_from_missing : (key : ℕ) (es : List Entry) → table_entry key es ≡ None
    → AllByRecursion (λ k. eqb key k ≡ false) (keys_to_be_sorted es)
sorted_keys_differ_from_missing key [] missing = tt
sorted_keys_differ_from_missing key (f ∷ fs) missing =
    (elim (eqb f.key key) as (λ b. eqb f.key key ≡ b → cond b (Some f) (table_entry key fs) ≡ None
    → (eqb key f.key ≡ false) × AllByRecursion (λ k. eqb key k ≡ false) (keys_to_be_sorted fs)) [
      | true ↦ λ _ found. cc
      | false ↦ λ differs rest. (eqb-flip_of_sorted_keys key f.key ∙ differs, sorted_keys_differ_from_missing key fs rest)
    ]) refl missing

-- and where each does, the key has no entry
missing_if_sorted_keys_differ : (key : ℕ) (es : List Entry) → AllByRecursion (λ k. eqb key k ≡ false) (keys_to_be_sorted es)
    → table_entry key es ≡ None
missing_if_sorted_keys_differ key [] others = refl
missing_if_sorted_keys_differ key (f ∷ fs) others =
    ap (λ b. cond b (Some f) (table_entry key fs)) (eqb-flip_of_sorted_keys f.key key ∙ others.0) ∙ missing_if_sorted_keys_differ key fs others.1

-- the keys are distinct exactly where no two entries have the same key
sorted_keys_distinct_if_apart : (es : List Entry) → KeysApart es → IsDistinct eqb (keys_to_be_sorted es)
unfolding IsDistinct
sorted_keys_distinct_if_apart [] apart = tt
sorted_keys_distinct_if_apart (f ∷ fs) apart = (sorted_keys_differ_from_missing f.key fs apart.0, sorted_keys_distinct_if_apart fs apart.1)

apart_if_sorted_keys_distinct : (es : List Entry) → IsDistinct eqb (keys_to_be_sorted es) → KeysApart es
unfolding IsDistinct
apart_if_sorted_keys_distinct [] distinct = tt
apart_if_sorted_keys_distinct (f ∷ fs) distinct =
    (missing_if_sorted_keys_differ f.key fs distinct.0, apart_if_sorted_keys_distinct fs distinct.1)

-- numbers that rise are distinct
sorted_keys_distinct_if_rising : (ks : List ℕ) → IsStrictlyIncreasing ks → IsDistinct eqb ks
sorted_keys_distinct_if_rising ks rise =
    IsDistinct-from_apart eqb ks (λ i j d before within.
    ne_eqb _ _ (λ same. omega
    (arith, below_from_sorted ks i j d (sorted_from_strictly_increasing ks rise) before within)))

-- the sorted keys rise strictly exactly where no two entries have the same key
pub sorted_keys_rise_if_apart : (es : List Entry) (sorted : List ℕ) → IsPermutation (keys_to_be_sorted es) sorted → IsSorted nat_cmp sorted
    → IsStrictlyIncreasing sorted ↔ KeysApart es
sorted_keys_rise_if_apart es sorted moved in_order = (
  λ rise. apart_if_sorted_keys_distinct es
      (IsDistinct-IsPermutation eqb eqb-flip_of_sorted_keys sorted (keys_to_be_sorted es) (IsPermutation-sym (keys_to_be_sorted es) sorted moved)
      (sorted_keys_distinct_if_rising sorted rise)),
  λ apart. IsStrictlyIncreasing-from_distinct sorted (IsNonDecreasingBy-from_sort (λ k. k) sorted in_order)
      (IsDistinct-IsPermutation eqb eqb-flip_of_sorted_keys (keys_to_be_sorted es) sorted moved (sorted_keys_distinct_if_apart es apart)),
)
