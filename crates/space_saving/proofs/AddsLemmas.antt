-- What the laws say after any list of adds, by induction on the list.
use Rattle.std.proofs.Common.{◌≡◌, ℕ, ◌+◌, ◌-◌, ◌*◌, ◌≤◌, true, false, cond, eqb, ltb, List, [], ◌∷◌, ◌++◌, length}
use Rattle.std.proofs.Common.{filter, fold, None, subst, arith}
use Rattle.std.specs.List.{AllByRecursion}
use Rattle.std.proofs.lemmas.Bool.{le-ltb, cond-false}
use Rattle.std.proofs.lemmas.List.Elements.{recursion_from_All}
use Rattle.std.proofs.lemmas.List.Sums.{sum_by-cons, fold-append}
use Rattle.space_saving.specs.declared.entry.Entry.{Entry}
use Rattle.space_saving.specs.Summary.{TableAdd, table_entry, after_step, table_of, table_total, least_count}
use Rattle.space_saving.specs.Summary.{interval_from}
use Rattle.space_saving.specs.Summary.{interval_after, weight_of_key, total_added, IsTable}
use Rattle.space_saving.specs.Summary.{AreWeighed}
use Rattle.space_saving.proofs.TableStepLemmas.{table_total-table_step, IsTable-step, IsTable-nil_before_step}
use Rattle.space_saving.proofs.IntervalLemmas.{IntervalHolds, IntervalHolds-step, IntervalHolds-nil}
use Rattle.space_saving.proofs.IntervalWidthLemmas.{interval_width_is_narrow, interval_width_of_full_table}

-- the weight of an add is at least 1
abbrev IsWeighedAdd : TableAdd → Type 0
IsWeighedAdd a = 1 ≤ a.weight

total_added-cons_of_adds : (a : TableAdd) (adds : List TableAdd) → total_added (a ∷ adds) ≡ a.weight + total_added adds
total_added-cons_of_adds a adds = sum_by-cons (λ (add : TableAdd). add.weight) a adds

adds_for_key_cons : (key : ℕ) (a : TableAdd) (adds : List TableAdd)
    → weight_of_key key (a ∷ adds) ≡ cond (eqb a.key key) a.weight 0 + weight_of_key key adds
adds_for_key_cons key a adds =
    elim (eqb a.key key) as
    (λ b. total_added (cond b (a ∷ of_key) of_key) ≡ cond b a.weight 0 + weight_of_key key adds) [
      | true ↦ total_added-cons_of_adds a of_key
      | false ↦ omega arith
    ]
  where
    of_key : List TableAdd
    of_key = filter (λ (add : TableAdd). eqb add.key key) adds

adds_total_from : (capacity : ℕ) (adds : List TableAdd) (es : List Entry) → 1 ≤ capacity
    → table_total (fold (after_step capacity) es adds) ≡ table_total es + total_added adds
adds_total_from capacity [] es some = omega arith
adds_total_from capacity (a ∷ adds) es some =
    omega (
      arith,
      adds_total_from capacity adds (after_step capacity es a) some,
      table_total-table_step capacity es a some,
      total_added-cons_of_adds a adds,
    )

adds_leave_table_from : (capacity : ℕ) (adds : List TableAdd) (es : List Entry) → 1 ≤ capacity → AllByRecursion IsWeighedAdd adds
    → IsTable capacity es
    → IsTable capacity (fold (after_step capacity) es adds)
adds_leave_table_from capacity [] es some weighed table = table
adds_leave_table_from capacity (a ∷ adds) es some weighed table =
    adds_leave_table_from capacity adds (after_step capacity es a) some weighed.1 (IsTable-step capacity es a some weighed.0 table)

adds_hold_from : (capacity : ℕ) (adds : List TableAdd) (es : List Entry) (key x : ℕ) → 1 ≤ capacity
    → AllByRecursion IsWeighedAdd adds → IsTable capacity es
    → IntervalHolds capacity es key x → IntervalHolds capacity (fold (after_step capacity) es adds) key (x + weight_of_key key adds)
adds_hold_from capacity [] es key x some weighed table held =
    subst (IntervalHolds capacity es key) (let e : x ≡ x + 0 = omega arith in e) held
adds_hold_from capacity (a ∷ adds) es key x some weighed table held =
    let more = cond (eqb a.key key) a.weight 0 in
    let same : (x + more) + weight_of_key key adds ≡ x + weight_of_key key (a ∷ adds) =
    omega (arith, adds_for_key_cons key a adds) in
    subst (IntervalHolds capacity (fold (after_step capacity) es (a ∷ adds)) key) same
    (adds_hold_from capacity adds (after_step capacity es a) key (x + more) some weighed.1
    (IsTable-step capacity es a some weighed.0 table) (IntervalHolds-step capacity es a key x some table held))

-- the counts add up to the weight that was added
pub total_of_adds : (capacity : ℕ) (adds : List TableAdd) → 1 ≤ capacity
    → table_total (table_of capacity adds) ≡ total_added adds
total_of_adds capacity adds some =
    let e : table_total (table_of capacity adds) ≡ 0 + total_added adds = adds_total_from capacity adds [] some in
    omega arith

-- what adds leave is a table
pub IsTable-after_adds : (capacity : ℕ) (adds : List TableAdd) → 1 ≤ capacity → AreWeighed adds
    → IsTable capacity (table_of capacity adds)
IsTable-after_adds capacity adds some weighed =
    adds_leave_table_from capacity adds [] some (recursion_from_All IsWeighedAdd adds weighed) (IsTable-nil_before_step capacity)

-- the interval of a key holds its weight
pub key_held_after_adds : (capacity : ℕ) (adds : List TableAdd) (key : ℕ) → 1 ≤ capacity → AreWeighed adds
    → IntervalHolds capacity (table_of capacity adds) key (weight_of_key key adds)
key_held_after_adds capacity adds key some weighed =
    subst (IntervalHolds capacity (table_of capacity adds) key)
    (let e : 0 + weight_of_key key adds ≡ weight_of_key key adds = omega arith in e)
    (adds_hold_from capacity adds [] key 0 some (recursion_from_All IsWeighedAdd adds weighed) (IsTable-nil_before_step capacity)
    (IntervalHolds-nil capacity key))

-- the width of an interval times the capacity is at most the weight that was added
pub width_after_adds : (capacity : ℕ) (adds : List TableAdd) (key : ℕ) → 1 ≤ capacity → AreWeighed adds
    → ((interval_after capacity adds key).high - (interval_after capacity adds key).low) * capacity ≤ total_added adds
width_after_adds capacity adds key some weighed =
    subst (λ n. ((interval_after capacity adds key).high - (interval_after capacity adds key).low) * capacity ≤ n)
    (total_of_adds capacity adds some)
    (interval_width_is_narrow capacity (table_of capacity adds) key (IsTable-after_adds capacity adds some weighed)).narrow

-- a key that is missing in a full table has at most the least count as its weight
pub missing_key_after_adds : (capacity : ℕ) (adds : List TableAdd) (key : ℕ) → 1 ≤ capacity → AreWeighed adds
    → table_entry key (table_of capacity adds) ≡ None
    → length (table_of capacity adds) ≡ capacity → weight_of_key key adds ≤ least_count (table_of capacity adds)
missing_key_after_adds capacity adds key some weighed missing full =
    let es = table_of capacity adds in
    let held = key_held_after_adds capacity adds key some weighed in
    let high : weight_of_key key adds ≤ (interval_from None (record { capacity = capacity; entries = es })).high =
    subst (λ o. weight_of_key key adds ≤ (interval_from o (record { capacity = capacity; entries = es })).high)
    missing held.high in
    subst (λ n. weight_of_key key adds ≤ n)
    (cond-false (ltb (length es) capacity) 0 (least_count es) (le-ltb (length es) capacity (omega arith))) high

-- the least count of a full table times the capacity is at most the weight that was added
pub least_count_after_adds : (capacity : ℕ) (adds : List TableAdd) → 1 ≤ capacity → AreWeighed adds
    → length (table_of capacity adds) ≡ capacity
    → least_count (table_of capacity adds) * capacity ≤ total_added adds
least_count_after_adds capacity adds some weighed full =
    subst (λ n. least_count (table_of capacity adds) * capacity ≤ n) (total_of_adds capacity adds some)
    (interval_width_of_full_table capacity (table_of capacity adds) (IsTable-after_adds capacity adds some weighed)
    (omega arith))

-- adds may come in two parts
pub table_of-more_adds : (capacity : ℕ) (adds more : List TableAdd)
    → table_of capacity (adds ++ more) ≡ fold (after_step capacity) (table_of capacity adds) more
table_of-more_adds capacity adds more = fold-append (after_step capacity) [] adds more
