-- What holds of the entry at an index of a table.
use Rattle.std.proofs.Common.{◌≡◌, ℕ, ◌≤◌, zero, suc, eqb, cond, true, false, List, [], ◌∷◌, take, slice_get, None}
use Rattle.std.proofs.Common.{Some, refl, sym, ◌∙◌, subst, arith}
use Rattle.std.proofs.lemmas.Bool.{eqb-true, eq-eqb, false≢true}
use Rattle.space_saving.specs.declared.entry.Entry.{Entry}
use Rattle.space_saving.specs.Summary.{table_entry, table_total, KeysApart, RisesFrom}
use Rattle.space_saving.proofs.PutEntryLemmas.{table_total-first_put_entry}
use Rattle.space_saving.proofs.WithoutLemmas.{RisesFrom-less_before_without}

-- the key of an entry in the table differs from one that has no entry
table_entry_has_other_key : (key : ℕ) (es : List Entry) (place : ℕ) (e : Entry) → table_entry key es ≡ None
    → slice_get es place ≡ Some e → eqb e.key key ≡ false
table_entry_has_other_key key [] place e missing at = cc
table_entry_has_other_key key (f ∷ fs) zero e missing at =
    (elim (eqb f.key key) as
    (λ b. eqb f.key key ≡ b → cond b (Some f) (table_entry key fs) ≡ None → eqb e.key key ≡ false) [
      | true ↦ λ _ is. cc
      | false ↦ λ differs _. let same : f ≡ e = cc in subst (λ (g : Entry). eqb g.key key ≡ false) same differs
    ]) refl missing
table_entry_has_other_key key (f ∷ fs) (suc place) e missing at =
    (elim (eqb f.key key) as (λ b. cond b (Some f) (table_entry key fs) ≡ None → eqb e.key key ≡ false) [
      | true ↦ λ is. cc
      | false ↦ λ is. table_entry_has_other_key key fs place e is at
    ]) missing

-- no earlier entry has the key of an entry
pub table_entry_stands_apart : (es : List Entry) (place : ℕ) (e : Entry) → KeysApart es → slice_get es place ≡ Some e
    → table_entry e.key (take place es) ≡ None
table_entry_stands_apart es zero e apart at = refl
table_entry_stands_apart [] (suc place) e apart at = refl
table_entry_stands_apart (f ∷ fs) (suc place) e apart at =
    (elim (eqb f.key e.key) as (λ b. eqb f.key e.key ≡ b → cond b (Some f) (table_entry e.key (take place fs)) ≡ None) [
      | true ↦ λ same.
          absurd (false≢true
          (sym (table_entry_has_other_key f.key fs place e apart.0 at) ∙ eq-eqb e.key f.key (sym (eqb-true f.key e.key same))))
      | false ↦ λ _. table_entry_stands_apart fs place e apart.1 at
    ]) refl

-- the count of an entry is at least the number that the counts rise from
pub table_entry_rises_from_least : (least : ℕ) (es : List Entry) (place : ℕ) (e : Entry) → RisesFrom least es
    → slice_get es place ≡ Some e → least ≤ e.count
table_entry_rises_from_least least [] place e rises at = cc
table_entry_rises_from_least least (f ∷ fs) zero e rises at = let same : f ≡ e = cc in subst (λ (g : Entry). least ≤ g.count) same rises.0
table_entry_rises_from_least least (f ∷ fs) (suc place) e rises at =
    table_entry_rises_from_least least fs place e (RisesFrom-less_before_without least f.count fs rises.1 rises.0) at

-- and at most the total
pub table_entry_within_total : (es : List Entry) (place : ℕ) (e : Entry) → slice_get es place ≡ Some e
    → e.count ≤ table_total es
table_entry_within_total [] place e at = cc
table_entry_within_total (f ∷ fs) zero e at =
    let same : f ≡ e = cc in
    subst (λ (g : Entry). g.count ≤ table_total (f ∷ fs)) same (omega (arith, table_total-first_put_entry f fs))
table_entry_within_total (f ∷ fs) (suc place) e at = omega (arith, table_total-first_put_entry f fs, table_entry_within_total fs place e at)
