-- How wide and how high the intervals of a table are.
use Rattle.std.proofs.Common.{◌≡◌, ℕ, ◌-◌, ◌*◌, ◌<◌, ◌≤◌, true, false, cond, eqb, ltb, List, [], ◌∷◌, length}
use Rattle.std.proofs.Common.{get_or, None, Some, refl, sym, ap, subst, arith}
use Rattle.std.proofs.lemmas.Bool.{ltb-false, cond_both}
use Rattle.std.proofs.lemmas.List.Elements.{recursion_from_All}
use Rattle.space_saving.specs.declared.entry.Entry.{Entry}
use Rattle.space_saving.specs.Summary.{table_entry, table_total, least_count, TableInterval, interval_from}
use Rattle.space_saving.specs.Summary.{interval_in}
use Rattle.space_saving.specs.Summary.{HasSmallError, IsTable}
use Rattle.space_saving.proofs.PutEntryLemmas.{table_total-first_put_entry}
use Rattle.space_saving.proofs.WithoutLemmas.{all-entry_before_without, count-entry_before_without}
use Rattle.space_saving.proofs.TableStepLemmas.{table_step_counts_add_up}
use Rattle.space_saving.proofs.IntervalLemmas.{RisesFrom-interval_least}

-- what holds of every interval of a table with this capacity and total
pub record HasNarrowWidth (capacity total : ℕ) (interval : TableInterval) : Type 0 where
  pub ordered : interval.low ≤ interval.high
  pub within_total : interval.high ≤ total
  pub narrow : (interval.high - interval.low) * capacity ≤ total

-- a count is at most the total
pub interval_width_count_in_total : (key : ℕ) (e : Entry) (es : List Entry) → table_entry key es ≡ Some e → e.count ≤ table_total es
interval_width_count_in_total key e [] found = cc
interval_width_count_in_total key e (f ∷ fs) found =
    (elim (eqb f.key key) as (λ b. cond b (Some f) (table_entry key fs) ≡ Some e → e.count ≤ table_total (f ∷ fs)) [
      | true ↦ λ is.
          let same : f ≡ e = cc in
          subst (λ (g : Entry). g.count ≤ table_total (f ∷ fs)) same (omega (arith, table_total-first_put_entry f fs))
      | false ↦ λ is. omega (arith, table_total-first_put_entry f fs, interval_width_count_in_total key e fs is)
    ]) found

pub interval_width_least_in_total : (es : List Entry) → least_count es ≤ table_total es
interval_width_least_in_total [] = omega arith
interval_width_least_in_total (f ∷ fs) = omega (arith, table_total-first_put_entry f fs)

interval_width_of_found_key : (capacity : ℕ) (es : List Entry) (key : ℕ) (e : Entry) → IsTable capacity es → table_entry key es ≡ Some e
    → HasNarrowWidth capacity (table_total es) (record { low = e.count - e.error; high = e.count })
interval_width_of_found_key capacity es key e table found =
    let small =
    all-entry_before_without (HasSmallError capacity (table_total es)) key e es
    (recursion_from_All (HasSmallError capacity (table_total es)) es table.small_errors) found in
    let below : e.error < e.count = small.0 in
    let width : e.count - (e.count - e.error) ≡ e.error = omega arith in
    record {
      ordered = omega arith;
      within_total = interval_width_count_in_total key e es found;
      narrow = subst (λ n. n * capacity ≤ table_total es) (sym width) small.1;
    }

-- the least count of a full table times the capacity is at most the total
pub interval_width_of_full_table : (capacity : ℕ) (es : List Entry) → IsTable capacity es → capacity ≤ length es
    → least_count es * capacity ≤ table_total es
interval_width_of_full_table capacity es table full =
    let same : length es ≡ capacity = omega (arith, table.fits) in
    subst (λ n. least_count es * n ≤ table_total es) same
    (table_step_counts_add_up (least_count es) es (RisesFrom-interval_least es table.ascending))

interval_width_of_missing_key : (capacity : ℕ) (es : List Entry) → IsTable capacity es
    → HasNarrowWidth capacity (table_total es) (record { low = 0; high = cond (ltb (length es) capacity) 0 (least_count es) })
interval_width_of_missing_key capacity es table =
    cond_both (ltb (length es) capacity) 0 (least_count es)
    (λ n. HasNarrowWidth capacity (table_total es) (record { low = 0; high = n }))
    (λ _. record { ordered = omega arith; within_total = omega arith; narrow = omega arith })
    (λ more. record {
      ordered = omega arith;
      within_total = interval_width_least_in_total es;
      narrow = let all : least_count es ≡ least_count es - 0 = omega arith in
          subst (λ n. n * capacity ≤ table_total es) all
          (interval_width_of_full_table capacity es table (ltb-false (length es) capacity more));
    })

-- every interval of a table is narrow
pub interval_width_is_narrow : (capacity : ℕ) (es : List Entry) (key : ℕ) → IsTable capacity es
    → HasNarrowWidth capacity (table_total es) (interval_in (record { capacity = capacity; entries = es }) key)
interval_width_is_narrow capacity es key table =
    (elim (table_entry key es) as
    (λ o. table_entry key es ≡ o
    → HasNarrowWidth capacity (table_total es) (interval_from o (record { capacity = capacity; entries = es }))) [
      | None ↦ λ _. interval_width_of_missing_key capacity es table
      | Some e ↦ λ found. interval_width_of_found_key capacity es key e table found
    ]) refl

-- no key has a smaller high than a missing one
pub interval_width_over_missing_high : (capacity : ℕ) (es : List Entry) (key : ℕ) → IsTable capacity es
    → (interval_from None (record { capacity = capacity; entries = es })).high
    ≤ (interval_in (record { capacity = capacity; entries = es }) key).high
interval_width_over_missing_high capacity es key table =
    (elim (table_entry key es) as
    (λ o. table_entry key es ≡ o → cond (ltb (length es) capacity) 0 (least_count es)
    ≤ (interval_from o (record { capacity = capacity; entries = es })).high) [
      | None ↦ λ _. omega arith
      | Some e ↦ λ found.
          let least : least_count es ≤ e.count =
          count-entry_before_without (least_count es) key e es (RisesFrom-interval_least es table.ascending) found in
          cond_both (ltb (length es) capacity) 0 (least_count es) (λ n. n ≤ e.count) (λ _. omega arith) (λ _. least)
    ]) refl

-- the width of a missing key in a full table, by the head
pub interval_width_by_head : (capacity : ℕ) (es : List Entry) (head : Entry) → IsTable capacity es → 1 ≤ capacity
    → capacity ≤ length es → head ≡ get_or es 0 head
    → (head.count - 0) * capacity ≤ table_total es
interval_width_by_head capacity [] head table some full read = absurd (omega arith)
interval_width_by_head capacity (f ∷ fs) head table some full read =
    let same : f.count ≡ head.count - 0 =
    let e : f.count ≡ head.count = ap (λ (x : Entry). x.count) (sym read) in omega arith in
    subst (λ n. n * capacity ≤ table_total (f ∷ fs)) same (interval_width_of_full_table capacity (f ∷ fs) table full)
