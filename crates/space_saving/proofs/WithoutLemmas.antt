-- The entries after that of a key is removed.
use Rattle.std.proofs.Common.{◌≡◌, ℕ, ◌+◌, ◌≤◌, true, false, cond, eqb, List, [], ◌∷◌, length, None, Some, refl}
use Rattle.std.proofs.Common.{sym, ap, subst, ◌∙◌, arith}
use Rattle.std.specs.List.{AllByRecursion}
use Rattle.std.proofs.lemmas.Bool.{eqb-true, ne_eqb, cond-false, cond_both}
use Rattle.space_saving.specs.declared.entry.Entry.{Entry}
use Rattle.space_saving.specs.Summary.{table_without, table_entry, table_total, RisesFrom, KeysApart}
use Rattle.space_saving.proofs.PutEntryLemmas.{table_total-first_put_entry}

pub length-without : (key : ℕ) (e : Entry) (es : List Entry) → table_entry key es ≡ Some e
    → length (table_without key es) + 1 ≡ length es
length-without key e [] found = cc
length-without key e (f ∷ fs) found =
    (elim (eqb f.key key) as
    (λ b. cond b (Some f) (table_entry key fs) ≡ Some e → length (cond b fs (f ∷ table_without key fs)) + 1
    ≡ length (f ∷ fs)) [
      | true ↦ λ _. omega arith
      | false ↦ λ is. omega (arith, length-without key e fs is)
    ]) found

pub table_total-without : (key : ℕ) (e : Entry) (es : List Entry) → table_entry key es ≡ Some e
    → e.count + table_total (table_without key es) ≡ table_total es
table_total-without key e [] found = cc
table_total-without key e (f ∷ fs) found =
    (elim (eqb f.key key) as
    (λ b. cond b (Some f) (table_entry key fs) ≡ Some e → e.count + table_total (cond b fs (f ∷ table_without key fs))
    ≡ table_total (f ∷ fs)) [
      | true ↦ λ is.
          let same : f ≡ e = cc in
          ap (λ (g : Entry). g.count + table_total fs) (sym same) ∙ sym (table_total-first_put_entry f fs)
      | false ↦ λ is.
          omega (arith, table_total-first_put_entry f (table_without key fs), table_total-first_put_entry f fs, table_total-without key e fs is)
    ]) found

-- what is true of each entry is true of the one found
pub all-entry_before_without : (P : Entry → Type 0) (key : ℕ) (e : Entry) (es : List Entry) → AllByRecursion P es
    → table_entry key es ≡ Some e → P e
all-entry_before_without P key e [] all found = cc
all-entry_before_without P key e (f ∷ fs) all found =
    (elim (eqb f.key key) as (λ b. cond b (Some f) (table_entry key fs) ≡ Some e → P e) [
      | true ↦ λ is. let same : f ≡ e = cc in subst P same all.0
      | false ↦ λ is. all-entry_before_without P key e fs all.1 is
    ]) found

-- the entry found has the key
pub key-entry_before_without : (key : ℕ) (e : Entry) (es : List Entry) → table_entry key es ≡ Some e → e.key ≡ key
key-entry_before_without key e [] found = cc
key-entry_before_without key e (f ∷ fs) found =
    (elim (eqb f.key key) as (λ b. eqb f.key key ≡ b → cond b (Some f) (table_entry key fs) ≡ Some e → e.key ≡ key) [
      | true ↦ λ yes is. let same : f ≡ e = cc in ap (λ (g : Entry). g.key) (sym same) ∙ eqb-true f.key key yes
      | false ↦ λ _ is. key-entry_before_without key e fs is
    ]) refl found

-- counts that rise are all at least the number that they rise from
pub RisesFrom-less_before_without : (less least : ℕ) (es : List Entry) → RisesFrom least es → less ≤ least → RisesFrom less es
RisesFrom-less_before_without less least [] rises below = tt
RisesFrom-less_before_without less least (f ∷ fs) rises below = (let above : least ≤ f.count = rises.0 in omega arith, rises.1)

pub count-entry_before_without : (least key : ℕ) (e : Entry) (es : List Entry) → RisesFrom least es → table_entry key es ≡ Some e
    → least ≤ e.count
count-entry_before_without least key e [] rises found = cc
count-entry_before_without least key e (f ∷ fs) rises found =
    (elim (eqb f.key key) as (λ b. cond b (Some f) (table_entry key fs) ≡ Some e → least ≤ e.count) [
      | true ↦ λ is. let same : f ≡ e = cc in subst (λ (g : Entry). least ≤ g.count) same rises.0
      | false ↦ λ is. count-entry_before_without least key e fs (RisesFrom-less_before_without least f.count fs rises.1 rises.0) is
    ]) found

pub RisesFrom-without : (least key : ℕ) (es : List Entry) → RisesFrom least es → RisesFrom least (table_without key es)
RisesFrom-without least key [] rises = tt
RisesFrom-without least key (f ∷ fs) rises =
    cond_both (eqb f.key key) fs (f ∷ table_without key fs) (RisesFrom least)
    (λ _. RisesFrom-less_before_without least f.count fs rises.1 rises.0)
    (λ _. (rises.0, RisesFrom-without f.count key fs rises.1))

-- another key has the entry that it had
pub table_entry-without_other : (other key : ℕ) (es : List Entry) → (key ≡ other → ⊥)
    → table_entry other (table_without key es) ≡ table_entry other es
table_entry-without_other other key [] apart = refl
table_entry-without_other other key (f ∷ fs) apart =
    cond_both (eqb f.key key) fs (f ∷ table_without key fs) (λ es. table_entry other es ≡ table_entry other (f ∷ fs))
    (λ yes.
    sym (cond-false (eqb f.key other) (Some f) (table_entry other fs)
    (ne_eqb f.key other (λ same. apart (sym (eqb-true f.key key yes) ∙ same)))))
    (λ _. ap (λ o. cond (eqb f.key other) (Some f) o) (table_entry-without_other other key fs apart))

-- a key that was missing is still missing
pub missing-without : (other key : ℕ) (es : List Entry) → table_entry other es ≡ None
    → table_entry other (table_without key es) ≡ None
missing-without other key [] missing = refl
missing-without other key (f ∷ fs) missing =
    (elim (eqb f.key other) as
    (λ b. eqb f.key other ≡ b → cond b (Some f) (table_entry other fs) ≡ None → table_entry other (table_without key (f ∷ fs))
    ≡ None) [
      | true ↦ λ _ is. cc
      | false ↦ λ no is. cond_both (eqb f.key key) fs (f ∷ table_without key fs) (λ es. table_entry other es ≡ None)
          (λ _. is)
          (λ _.
          cond-false (eqb f.key other) (Some f) (table_entry other (table_without key fs)) no
          ∙ missing-without other key fs is)
    ]) refl missing

-- the key whose entry was removed is missing
pub table_entry-without_same : (key : ℕ) (es : List Entry) → KeysApart es → table_entry key (table_without key es) ≡ None
table_entry-without_same key [] apart = refl
table_entry-without_same key (f ∷ fs) apart =
    (elim (eqb f.key key) as (λ b. eqb f.key key ≡ b → table_entry key (cond b fs (f ∷ table_without key fs)) ≡ None) [
      | true ↦ λ yes. ap (λ k. table_entry k fs) (sym (eqb-true f.key key yes)) ∙ apart.0
      | false ↦ λ no.
          cond-false (eqb f.key key) (Some f) (table_entry key (table_without key fs)) no
          ∙ table_entry-without_same key fs apart.1
    ]) refl

pub KeysApart-without : (key : ℕ) (es : List Entry) → KeysApart es → KeysApart (table_without key es)
KeysApart-without key [] apart = tt
KeysApart-without key (f ∷ fs) apart =
    cond_both (eqb f.key key) fs (f ∷ table_without key fs) KeysApart
    (λ _. apart.1)
    (λ _. (missing-without f.key key fs apart.0, KeysApart-without key fs apart.1))

pub all-without : (P : Entry → Type 0) (key : ℕ) (es : List Entry) → AllByRecursion P es
    → AllByRecursion P (table_without key es)
all-without P key [] all = tt
all-without P key (f ∷ fs) all =
    cond_both (eqb f.key key) fs (f ∷ table_without key fs) (AllByRecursion P)
    (λ _. all.1) (λ _. (all.0, all-without P key fs all.1))
