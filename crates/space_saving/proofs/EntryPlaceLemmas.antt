-- The index of an entry, and the index at which an entry is inserted.
use Rattle.std.proofs.Common.{◌≡◌, ℕ, ◌+◌, ◌<◌, ◌≤◌, true, eqb, leb, List, [], ◌∷◌, ◌++◌, length, get_or, set, take}
use Rattle.std.proofs.Common.{drop, zero, suc, Some, refl, sym, ap, subst, ◌∙◌, arith, drop-cons}
use Rattle.std.proofs.lemmas.Bool.{eq-eqb, cond-true, cond-false, lt-leb, le-leb}
use Rattle.std.proofs.lemmas.List.{set_split, drop_more, drop_all}
use Rattle.std.proofs.lemmas.Option.{slice_get-get_or}
use Rattle.space_saving.specs.declared.entry.Entry.{Entry}
use Rattle.space_saving.specs.Summary.{TableAdd, put_into, table_without, table_entry, after_step}
use Rattle.space_saving.specs.Summary.{after_step_from, RisesFrom}
use Rattle.space_saving.specs.Places.{IsPlaceOf}
use Rattle.space_saving.proofs.WithoutLemmas.{RisesFrom-less_before_without}
use Rattle.space_saving.proofs.TableStepLemmas.{table_step_raised}

-- an entry of the key is the first one if no entry before it has the key
pub entry_place_is_found : (key : ℕ) (es : List Entry) (place : ℕ) (d : Entry) → place < length es → (get_or es place d).key ≡ key
    → table_entry key (drop place es) ≡ table_entry key es → take place es ++ table_without key (drop place es) ≡ table_without key es
    → IsPlaceOf key es place
entry_place_is_found key es place d within has still passed =
    let e = get_or es place d in
    let rest = drop (suc place) es in
    let split : drop place es ≡ e ∷ rest = drop-cons es place d within in
    let yes : eqb e.key key ≡ true = eq-eqb e.key key has in
    record {
      within = within;
      found =
          sym still ∙ ap (table_entry key) split ∙ cond-true (eqb e.key key) (Some e) (table_entry key rest) yes
          ∙ sym (slice_get-get_or es place d within);
      rest =
          sym passed ∙ ap (λ l. take place es ++ table_without key l) split
          ∙ ap (λ l. take place es ++ l) (cond-true (eqb e.key key) rest (e ∷ table_without key rest) yes);
    }

-- an entry is inserted at the front if no entry follows
pub put_into-entry_place_at_end : (new : Entry) (es : List Entry) (place : ℕ) → length es ≤ place
    → put_into new (drop place es) ≡ new ∷ drop place es
put_into-entry_place_at_end new es place past =
    let none : drop place es ≡ [] = drop_all place es past in
    ap (put_into new) none ∙ ap (λ l. new ∷ l) (sym none)

-- an entry is inserted at the front if a greater count follows
pub put_into-entry_place_at_greater : (new : Entry) (es : List Entry) (place : ℕ) (d : Entry) → place < length es
    → new.count < (get_or es place d).count
    → put_into new (drop place es) ≡ new ∷ drop place es
put_into-entry_place_at_greater new es place d within greater =
    let f = get_or es place d in
    let rest = drop (place + 1) es in
    let split : drop place es ≡ f ∷ rest = drop_more es place d within in
    ap (put_into new) split
    ∙ cond-false (leb f.count new.count) (f ∷ put_into new rest) (new ∷ f ∷ rest) (lt-leb f.count new.count greater)
    ∙ ap (λ l. new ∷ l) (sym split)

-- an entry is written at the index at which it is inserted
pub entry_place_settled : (new : Entry) (es goal : List Entry) (place : ℕ) → place < length es
    → put_into new (drop (place + 1) es) ≡ new ∷ drop (place + 1) es
    → take place es ++ put_into new (drop (place + 1) es) ≡ goal → set es place new ≡ goal
entry_place_settled new es goal place within first still =
    let next : suc place ≡ place + 1 = omega arith in
    set_split es place new within ∙ ap (λ n. take place es ++ new ∷ drop n es) next
    ∙ ap (λ l. take place es ++ l) (sym first) ∙ still

-- each count is at least the number that the counts rise from
pub entry_at_place_rises : (least : ℕ) (es : List Entry) (place : ℕ) (d : Entry) → RisesFrom least es → place < length es
    → least ≤ (get_or es place d).count
entry_at_place_rises least [] place d rises within = absurd (omega arith)
entry_at_place_rises least (f ∷ fs) zero d rises within = rises.0
entry_at_place_rises least (f ∷ fs) (suc place) d rises within =
    entry_at_place_rises least fs place d (RisesFrom-less_before_without least f.count fs rises.1 rises.0) (omega arith)

-- an entry is inserted after the entries before one whose count is at most its own
put_into-passes_entry_place : (least : ℕ) (e : Entry) (es rest : List Entry) (place : ℕ) (d : Entry) → RisesFrom least es
    → place < length es → (get_or es place d).count ≤ e.count
    → put_into e (take place es ++ rest) ≡ take place es ++ put_into e rest
put_into-passes_entry_place least e [] rest place d rises within at_most = absurd (omega arith)
put_into-passes_entry_place least e (f ∷ fs) rest zero d rises within at_most = refl
put_into-passes_entry_place least e (f ∷ fs) rest (suc place) d rises within at_most =
    let inside : place < length fs = omega arith in
    let above : f.count ≤ (get_or fs place d).count = entry_at_place_rises f.count fs place d rises.1 inside in
    let passed : f.count ≤ e.count = omega arith in
    cond-true (leb f.count e.count) (f ∷ put_into e (take place fs ++ rest)) (e ∷ f ∷ (take place fs ++ rest))
    (le-leb f.count e.count passed)
    ∙ ap (λ l. f ∷ l) (put_into-passes_entry_place f.count e fs rest place d rises.1 inside at_most)

-- inserting a raised entry from its old index on is the step of its key
pub entry_place_settled_is_step : (capacity : ℕ) (es after : List Entry) (a : TableAdd) (place : ℕ) (e : Entry) → RisesFrom 0 es
    → IsPlaceOf a.key es place → e ≡ get_or es place e
    → after ≡ take place es ++ put_into (table_step_raised e a.weight) (drop (place + 1) es) → after ≡ after_step capacity es a
entry_place_settled_is_step capacity es after a place e rises is_place read is_after =
    let new = table_step_raised e a.weight in
    let next : place + 1 ≡ suc place = omega arith in
    let found : table_entry a.key es ≡ Some e =
    is_place.found ∙ slice_get-get_or es place e is_place.within ∙ ap (λ x. Some x) (sym read) in
    let at_most : (get_or es place e).count ≤ new.count =
    subst (λ (x : Entry). x.count ≤ new.count) read (omega arith) in
    is_after ∙ ap (λ n. take place es ++ put_into new (drop n es)) next
    ∙ sym (put_into-passes_entry_place 0 new es (drop (suc place) es) place e rises is_place.within at_most)
    ∙ ap (put_into new) (sym is_place.rest) ∙ ap (λ o. after_step_from o capacity es a) (sym found)
