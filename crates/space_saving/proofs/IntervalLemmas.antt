-- The interval of a key holds the weight that was added for it.
use Rattle.std.proofs.Common.{◌≡◌, ℕ, ◌+◌, ◌-◌, ◌<◌, ◌≤◌, true, false, cond, eqb, ltb, List, [], ◌∷◌, length}
use Rattle.std.proofs.Common.{Option, None, Some, refl, sym, ap, subst, ◌∙◌, ⊎_elim, arith}
use Rattle.std.proofs.lemmas.Bool.{ltb-true, ltb-false, eqb-true, eqb-false, eq-eqb, ne_eqb, cond-true, cond-false}
use Rattle.std.proofs.lemmas.Bool.{cond_both, cases_eq}
use Rattle.space_saving.specs.declared.entry.Entry.{Entry}
use Rattle.space_saving.specs.Summary.{TableAdd, put_into, table_without, table_entry, after_step}
use Rattle.space_saving.specs.Summary.{least_count, interval_from, interval_in}
use Rattle.space_saving.specs.Summary.{RisesFrom, IsTable}
use Rattle.space_saving.proofs.PutEntryLemmas.{length-put_entry, table_entry-put_same, table_entry-put_other}
use Rattle.space_saving.proofs.PutEntryLemmas.{RisesFrom-put_entry}
use Rattle.space_saving.proofs.WithoutLemmas.{length-without, key-entry_before_without, count-entry_before_without}
use Rattle.space_saving.proofs.WithoutLemmas.{RisesFrom-without}
use Rattle.space_saving.proofs.WithoutLemmas.{table_entry-without_other, table_entry-without_same}
use Rattle.space_saving.proofs.TableStepLemmas.{table_step_raised, table_step_fresh, table_step_heir, table_step_cases}

-- the weight is within the interval of a key with this entry, or with none
abbrev IntervalHoldsFrom : Option Entry → ℕ → List Entry → ℕ → Type 0
IntervalHoldsFrom o capacity es x =
    ((interval_from o (record { capacity = capacity; entries = es })).low ≤ x)
    × (x ≤ (interval_from o (record { capacity = capacity; entries = es })).high)

-- the weight is within the interval of the key
pub record IntervalHolds (capacity : ℕ) (es : List Entry) (key x : ℕ) : Type 0 where
  pub low : (interval_in (record { capacity = capacity; entries = es }) key).low ≤ x
  pub high : x ≤ (interval_in (record { capacity = capacity; entries = es }) key).high

interval_holds_from_entry : (capacity : ℕ) (es : List Entry) (key x : ℕ) (o : Option Entry) → table_entry key es ≡ o
    → IntervalHoldsFrom o capacity es x → IntervalHolds capacity es key x
interval_holds_from_entry capacity es key x o is held =
    let at : IntervalHoldsFrom (table_entry key es) capacity es x = subst (λ p. IntervalHoldsFrom p capacity es x) (sym is) held in
    record { low = at.0; high = at.1 }

entry_from_interval_holds : (capacity : ℕ) (es : List Entry) (key x : ℕ) (o : Option Entry) → table_entry key es ≡ o
    → IntervalHolds capacity es key x → IntervalHoldsFrom o capacity es x
entry_from_interval_holds capacity es key x o is held =
    subst (λ p. IntervalHoldsFrom p capacity es x) is
    (let at : IntervalHoldsFrom (table_entry key es) capacity es x = (held.low, held.high) in at)

-- the greatest weight of a missing key
abbrev missing_interval_high : ℕ → List Entry → ℕ
missing_interval_high capacity es = cond (ltb (length es) capacity) 0 (least_count es)

missing_interval_high-le_least : (capacity : ℕ) (es : List Entry) → missing_interval_high capacity es ≤ least_count es
missing_interval_high-le_least capacity es =
    cond_both (ltb (length es) capacity) 0 (least_count es) (λ n. n ≤ least_count es) (λ _. omega arith)
    (λ _. omega arith)

-- a table of the same length whose least count hasn't fallen allows a missing key at least as much
missing_interval_grows : (capacity : ℕ) (es after : List Entry) → length after ≡ length es → least_count es ≤ least_count after
    → missing_interval_high capacity es ≤ missing_interval_high capacity after
missing_interval_grows capacity es after same least =
    cond_both (ltb (length after) capacity) 0 (least_count after) (λ n. missing_interval_high capacity es ≤ n)
    (λ less. let room : length after < capacity = ltb-true (length after) capacity less in
    cond_both (ltb (length es) capacity) 0 (least_count es) (λ n. n ≤ 0)
    (λ _. omega arith) (λ more. let full : capacity ≤ length es = ltb-false (length es) capacity more in
    absurd (omega arith)))
    (λ _. omega (arith, missing_interval_high-le_least capacity es))

-- rising counts rise from the least
pub RisesFrom-interval_least : (es : List Entry) → RisesFrom 0 es → RisesFrom (least_count es) es
RisesFrom-interval_least [] rises = tt
RisesFrom-interval_least (f ∷ fs) rises = (omega arith, rises.1)

interval_least_from_rise : (least : ℕ) (es : List Entry) → RisesFrom least es → 0 < length es → least ≤ least_count es
interval_least_from_rise least [] rises some = absurd (omega arith)
interval_least_from_rise least (f ∷ fs) rises some = rises.0

-- the least count doesn't fall when an entry with no smaller count is inserted
interval_least_after_put : (least : ℕ) (e : Entry) (es : List Entry) → RisesFrom least es → least ≤ e.count
    → least ≤ least_count (put_into e es)
interval_least_after_put least e es rises above =
    interval_least_from_rise least (put_into e es) (RisesFrom-put_entry least e es rises above) (omega (arith, length-put_entry e es))

-- the key with this entry
interval_of_new_entry : (key : ℕ) (e : Entry) (es : List Entry) → e.key ≡ key → table_entry key es ≡ None
    → table_entry key (put_into e es) ≡ Some e
interval_of_new_entry key e es is missing =
    let put_in : table_entry e.key (put_into e es) ≡ Some e = table_entry-put_same e es (ap (λ k. table_entry k es) is ∙ missing) in
    ap (λ k. table_entry k (put_into e es)) (sym is) ∙ put_in

-- the interval holds the weight after a step with the key
interval_after_same_key : (capacity : ℕ) (es : List Entry) (a : TableAdd) (x : ℕ) → 1 ≤ capacity → IsTable capacity es
    → IntervalHolds capacity es a.key x
    → IntervalHolds capacity (after_step capacity es a) a.key (x + a.weight)
interval_after_same_key capacity es a x some table held =
    table_step_cases (λ after. IntervalHolds capacity after a.key (x + a.weight)) capacity es a some
    (λ e found.
    let before = entry_from_interval_holds capacity es a.key x (Some e) found held in
    let low : e.count - e.error ≤ x = before.0 in
    let high : x ≤ e.count = before.1 in
    interval_holds_from_entry capacity _ a.key _ (Some (table_step_raised e a.weight))
    (interval_of_new_entry a.key (table_step_raised e a.weight) (table_without a.key es) (key-entry_before_without a.key e es found)
    (table_entry-without_same a.key es table.distinct)) (omega arith, omega arith))
    (λ missing room.
    let before = entry_from_interval_holds capacity es a.key x None missing held in
    let high : x ≤ missing_interval_high capacity es = before.1 in
    let none : missing_interval_high capacity es ≡ 0 =
    cond_both (ltb (length es) capacity) 0 (least_count es) (λ n. n ≡ 0) (λ _. refl)
    (λ more. absurd (omega (arith, ltb-false (length es) capacity more))) in
    interval_holds_from_entry capacity _ a.key _ (Some (table_step_fresh a)) (interval_of_new_entry a.key (table_step_fresh a) es refl missing)
    (omega arith, omega arith))
    (λ h rest is missing full.
    let before = entry_from_interval_holds capacity es a.key x None missing held in
    let high : x ≤ missing_interval_high capacity es = before.1 in
    let least : least_count es ≡ h.count = ap least_count is in
    let gone : table_entry a.key rest ≡ None = missing_from_first' a.key h rest (ap (table_entry a.key) (sym is) ∙ missing) in
    interval_holds_from_entry capacity _ a.key _ (Some (table_step_heir h a)) (interval_of_new_entry a.key (table_step_heir h a) rest refl gone)
    (omega arith, omega (arith, missing_interval_high-le_least capacity es)))
  where
    missing_from_first' : (key : ℕ) (f : Entry) (fs : List Entry) → table_entry key (f ∷ fs) ≡ None
        → table_entry key fs ≡ None
    missing_from_first' key f fs gone =
        (elim (eqb f.key key) as (λ b. cond b (Some f) (table_entry key fs) ≡ None → table_entry key fs ≡ None)
        [ true ↦ λ is. cc | false ↦ λ is. is ]) gone

-- what holds of a key by its entry still holds if the entry stays, or is missing before and after
interval_kept_from_entry : (capacity : ℕ) (es after : List Entry) (x : ℕ) (o : Option Entry)
    → missing_interval_high capacity es ≤ missing_interval_high capacity after
    → IntervalHoldsFrom o capacity es x → IntervalHoldsFrom o capacity after x
interval_kept_from_entry capacity es after x None grows held =
    let high : x ≤ missing_interval_high capacity es = held.1 in (held.0, omega arith)
interval_kept_from_entry capacity es after x (Some e) grows held = held

interval_kept : (capacity : ℕ) (es after : List Entry) (key x : ℕ) → table_entry key after ≡ table_entry key es
    → missing_interval_high capacity es ≤ missing_interval_high capacity after
    → IntervalHolds capacity es key x → IntervalHolds capacity after key x
interval_kept capacity es after key x same grows held =
    interval_holds_from_entry capacity after key x (table_entry key es) same
    (interval_kept_from_entry capacity es after x (table_entry key es) grows (entry_from_interval_holds capacity es key x (table_entry key es) refl held))

-- the interval holds the weight after the head is replaced by another key
interval_after_replaced_head : (capacity : ℕ) (h : Entry) (rest : List Entry) (a : TableAdd) (key x : ℕ) → (a.key ≡ key → ⊥)
    → IsTable capacity (h ∷ rest)
    → capacity ≤ length (h ∷ rest) → IntervalHolds capacity (h ∷ rest) key x → IntervalHolds capacity (put_into (table_step_heir h a) rest) key x
interval_after_replaced_head capacity h rest a key x other table full held =
    let after = put_into (table_step_heir h a) rest in
    let same_length : length after ≡ length (h ∷ rest) = omega (arith, length-put_entry (table_step_heir h a) rest) in
    let least : h.count ≤ least_count after = interval_least_after_put h.count (table_step_heir h a) rest table.ascending.1 (omega arith) in
    let grows = missing_interval_grows capacity (h ∷ rest) after same_length least in
    let stays : table_entry key after ≡ table_entry key rest = table_entry-put_other key (table_step_heir h a) rest other in
    ⊎_elim
    (λ same.
    let gone : table_entry key rest ≡ None = ap (λ k. table_entry k rest) (sym same) ∙ table.distinct.0 in
    let found : table_entry key (h ∷ rest) ≡ Some h =
    cond-true (eqb h.key key) (Some h) (table_entry key rest) (eq-eqb h.key key same) in
    let before = entry_from_interval_holds capacity (h ∷ rest) key x (Some h) found held in
    let high : x ≤ h.count = before.1 in
    let is_full : h.count ≤ missing_interval_high capacity after =
    cond_both (ltb (length after) capacity) 0 (least_count after) (λ n. h.count ≤ n)
    (λ less. absurd (omega (arith, ltb-true (length after) capacity less))) (λ _. least) in
    interval_holds_from_entry capacity after key x None (stays ∙ gone) (omega arith, omega arith))
    (λ apart.
    interval_kept capacity (h ∷ rest) after key x
    (stays ∙ sym (cond-false (eqb h.key key) (Some h) (table_entry key rest) (ne_eqb h.key key apart))) grows held)
    (cases_eq h.key key)

-- the interval holds the weight after a step with another key
interval_after_other_key : (capacity : ℕ) (es : List Entry) (a : TableAdd) (key x : ℕ) → (a.key ≡ key → ⊥) → 1 ≤ capacity
    → IsTable capacity es → IntervalHolds capacity es key x
    → IntervalHolds capacity (after_step capacity es a) key x
interval_after_other_key capacity es a key x other some table held =
    table_step_cases (λ after. IntervalHolds capacity after key x) capacity es a some
    (λ e found.
    let new = table_step_raised e a.weight in
    let rest = table_without a.key es in
    let after = put_into new rest in
    let rises = RisesFrom-interval_least es table.ascending in
    let above : least_count es ≤ e.count = count-entry_before_without (least_count es) a.key e es rises found in
    let least : least_count es ≤ least_count after =
    interval_least_after_put (least_count es) new rest (RisesFrom-without (least_count es) a.key es rises) (omega arith) in
    let same_length : length after ≡ length es = omega (arith, length-put_entry new rest, length-without a.key e es found) in
    interval_kept capacity es after key x
    (table_entry-put_other key new rest (λ same. other (sym (key-entry_before_without a.key e es found) ∙ same))
    ∙ table_entry-without_other key a.key es other)
    (missing_interval_grows capacity es after same_length least) held)
    (λ _ room.
    let none : missing_interval_high capacity es ≡ 0 =
    cond_both (ltb (length es) capacity) 0 (least_count es) (λ n. n ≡ 0) (λ _. refl)
    (λ more. absurd (omega (arith, ltb-false (length es) capacity more))) in
    interval_kept capacity es (put_into (table_step_fresh a) es) key x (table_entry-put_other key (table_step_fresh a) es other) (omega arith) held)
    (λ h rest is _ full. (subst
    (λ l. IsTable capacity l → capacity ≤ length l → IntervalHolds capacity l key x
    → IntervalHolds capacity (put_into (table_step_heir h a) rest) key x)
    (sym is) (interval_after_replaced_head capacity h rest a key x other)) table full held)

-- the interval holds the weight after a step
pub IntervalHolds-step : (capacity : ℕ) (es : List Entry) (a : TableAdd) (key x : ℕ) → 1 ≤ capacity → IsTable capacity es
    → IntervalHolds capacity es key x
    → IntervalHolds capacity (after_step capacity es a) key (x + cond (eqb a.key key) a.weight 0)
IntervalHolds-step capacity es a key x some table held =
    cond_both (eqb a.key key) a.weight 0 (λ n. IntervalHolds capacity (after_step capacity es a) key (x + n))
    (λ yes.
    subst (λ k. IntervalHolds capacity es k x → IntervalHolds capacity (after_step capacity es a) k (x + a.weight))
    (eqb-true a.key key yes) (interval_after_same_key capacity es a x some table) held)
    (λ no.
    subst (IntervalHolds capacity (after_step capacity es a) key) (let e : x ≡ x + 0 = omega arith in e)
    (interval_after_other_key capacity es a key x (eqb-false a.key key no) some table held))

-- nothing was added
pub IntervalHolds-nil : (capacity key : ℕ) → IntervalHolds capacity [] key 0
IntervalHolds-nil capacity key = record { low = omega arith; high = omega arith }
