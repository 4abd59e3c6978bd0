-- The entries after one more is inserted.
use Rattle.std.proofs.Common.{◌≡◌, ℕ, ◌+◌, ◌<◌, ◌≤◌, true, false, cond, eqb, leb, List, [], ◌∷◌, length, None, Some}
use Rattle.std.proofs.Common.{refl, sym, ap, ◌∙◌, arith}
use Rattle.std.specs.List.{AllByRecursion}
use Rattle.std.proofs.lemmas.Bool.{leb-true, leb-false, eqb-false, ne_eqb, eq-eqb, cond-true, cond-false, cond_both}
use Rattle.std.proofs.lemmas.List.Sums.{sum_by-cons}
use Rattle.space_saving.specs.declared.entry.Entry.{Entry}
use Rattle.space_saving.specs.Summary.{put_into, table_entry, table_total, RisesFrom, KeysApart}

-- the sum of the counts of a list by its first entry
pub table_total-first_put_entry : (first : Entry) (rest : List Entry) → table_total (first ∷ rest) ≡ first.count + table_total rest
table_total-first_put_entry first rest = sum_by-cons (λ (e : Entry). e.count) first rest

pub length-put_entry : (e : Entry) (es : List Entry) → length (put_into e es) ≡ length es + 1
length-put_entry e [] = refl
length-put_entry e (f ∷ fs) =
    cond_both (leb f.count e.count) (f ∷ put_into e fs) (e ∷ f ∷ fs) (λ es. length es ≡ length (f ∷ fs) + 1)
    (λ _. omega (arith, length-put_entry e fs)) (λ _. omega arith)

pub table_total-put_entry : (e : Entry) (es : List Entry) → table_total (put_into e es) ≡ e.count + table_total es
table_total-put_entry e [] = table_total-first_put_entry e []
table_total-put_entry e (f ∷ fs) =
    cond_both (leb f.count e.count) (f ∷ put_into e fs) (e ∷ f ∷ fs) (λ es. table_total es ≡ e.count + table_total (f ∷ fs))
    (λ _. omega (arith, table_total-first_put_entry f (put_into e fs), table_total-first_put_entry f fs, table_total-put_entry e fs))
    (λ _. table_total-first_put_entry e (f ∷ fs))

-- the counts still rise
pub RisesFrom-put_entry : (least : ℕ) (e : Entry) (es : List Entry) → RisesFrom least es → least ≤ e.count
    → RisesFrom least (put_into e es)
RisesFrom-put_entry least e [] rises above = (above, tt)
RisesFrom-put_entry least e (f ∷ fs) rises above =
    cond_both (leb f.count e.count) (f ∷ put_into e fs) (e ∷ f ∷ fs) (RisesFrom least)
    (λ at_most. (rises.0, RisesFrom-put_entry f.count e fs rises.1 (leb-true f.count e.count at_most)))
    (λ more. (above, (let less : e.count < f.count = leb-false f.count e.count more in omega arith, rises.1)))

-- the key of the inserted entry has this entry now
pub table_entry-put_same : (e : Entry) (es : List Entry) → table_entry e.key es ≡ None → table_entry e.key (put_into e es) ≡ Some e
table_entry-put_same e [] missing = cond-true (eqb e.key e.key) (Some e) None (eq-eqb e.key e.key refl)
table_entry-put_same e (f ∷ fs) missing =
    cond_both (leb f.count e.count) (f ∷ put_into e fs) (e ∷ f ∷ fs) (λ es. table_entry e.key es ≡ Some e)
    (λ _. (elim (eqb f.key e.key) as
    (λ b. cond b (Some f) (table_entry e.key fs) ≡ None → cond b (Some f) (table_entry e.key (put_into e fs)) ≡ Some e) [
      | true ↦ λ is. cc
      | false ↦ λ is. table_entry-put_same e fs is
    ]) missing)
    (λ _. cond-true (eqb e.key e.key) (Some e) (table_entry e.key (f ∷ fs)) (eq-eqb e.key e.key refl))

-- another key has the entry that it had
pub table_entry-put_other : (key : ℕ) (e : Entry) (es : List Entry) → (e.key ≡ key → ⊥)
    → table_entry key (put_into e es) ≡ table_entry key es
table_entry-put_other key e [] other = cond-false (eqb e.key key) (Some e) None (ne_eqb e.key key other)
table_entry-put_other key e (f ∷ fs) other =
    cond_both (leb f.count e.count) (f ∷ put_into e fs) (e ∷ f ∷ fs) (λ es. table_entry key es ≡ table_entry key (f ∷ fs))
    (λ _. ap (λ o. cond (eqb f.key key) (Some f) o) (table_entry-put_other key e fs other))
    (λ _. cond-false (eqb e.key key) (Some e) (table_entry key (f ∷ fs)) (ne_eqb e.key key other))

-- the first entry's key differs from one that is missing
pub put_entry_missing_from_first : (key : ℕ) (f : Entry) (fs : List Entry) → table_entry key (f ∷ fs) ≡ None
    → (f.key ≡ key → ⊥) × (table_entry key fs ≡ None)
put_entry_missing_from_first key f fs missing =
    (elim (eqb f.key key) as
    (λ b. eqb f.key key ≡ b → cond b (Some f) (table_entry key fs) ≡ None → (f.key ≡ key → ⊥)
    × (table_entry key fs ≡ None)) [
      | true ↦ λ _ is. cc
      | false ↦ λ no is. (eqb-false f.key key no, is)
    ]) refl missing

-- the keys stay distinct
pub KeysApart-put_entry : (e : Entry) (es : List Entry) → KeysApart es → table_entry e.key es ≡ None → KeysApart (put_into e es)
KeysApart-put_entry e [] apart missing = (refl, tt)
KeysApart-put_entry e (f ∷ fs) apart missing =
    let parts = put_entry_missing_from_first e.key f fs missing in
    cond_both (leb f.count e.count) (f ∷ put_into e fs) (e ∷ f ∷ fs) KeysApart
    (λ _. (table_entry-put_other f.key e fs (λ same. parts.0 (sym same)) ∙ apart.0, KeysApart-put_entry e fs apart.1 parts.1))
    (λ _. (missing, apart))

-- what is true of each entry and of the new one is true of each entry afterwards
pub all-put_entry : (P : Entry → Type 0) (e : Entry) (es : List Entry) → AllByRecursion P es → P e
    → AllByRecursion P (put_into e es)
all-put_entry P e [] all new = (new, tt)
all-put_entry P e (f ∷ fs) all new =
    cond_both (leb f.count e.count) (f ∷ put_into e fs) (e ∷ f ∷ fs) (AllByRecursion P)
    (λ _. (all.0, all-put_entry P e fs all.1 new)) (λ _. (new, all))
