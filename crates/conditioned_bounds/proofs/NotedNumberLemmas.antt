-- Numbers that are noted under distinct codes, one code after another.
use Rattle.std.proofs.Common.{◌≡◌, ◌≢◌, ℕ, ◌+◌, ◌<◌, eqb, Bool, true, false, ◌||◌, List, [], ◌∷◌, ◌++◌, take}
use Rattle.std.proofs.Common.{get_or, length, AllPairs, refl, sym, ap, ◌∙◌, subst, arith, if◌then◌else◌}
use Rattle.std.specs.List.{list_any}
use Rattle.std.proofs.lemmas.Bool.{eqb-true, ne_eqb}
use Rattle.std.proofs.lemmas.List.{take_more, get_or-take, get_or_default, length-take}
use Rattle.std.proofs.lemmas.List.Folds.{list_any-append, list_any_none}

-- of distinct codes, none before an index is the one at the index
pub noted_number-none_before : (codes : List ℕ) (i : ℕ) → AllPairs (λ code other. code ≢ other) codes → i < length codes
    → list_any (λ other. eqb other (get_or codes i 0)) (take i codes) ≡ false
noted_number-none_before codes i distinct within =
    list_any_none (λ other. eqb other (get_or codes i 0)) (take i codes) (λ k d inside.
    let few : k < i = omega (arith, inside, length-take i codes) in
    let here : get_or (take i codes) k d ≡ get_or codes k 0 =
    get_or-take i codes k d few ∙ get_or_default codes k d 0 (omega (arith, few, within)) in
    ap (λ code. eqb code (get_or codes i 0)) here
    ∙ ne_eqb (get_or codes k 0) (get_or codes i 0) (distinct k i 0 few within))

-- one more code
pub noted_number-more : (codes : List ℕ) (i number : ℕ) (first before after : ℕ → List ℕ)
    → AllPairs (λ code other. code ≢ other) codes → i < length codes
    → ((code : ℕ) → before code
    ≡ (if list_any (λ other. eqb other code) (take i codes) then first code ++ number ∷ [] else first code))
    → ((other : ℕ) → after other
    ≡ (if eqb (get_or codes i 0) other then before other ++ number ∷ [] else before other))
    → (code : ℕ) → after code
    ≡ (if list_any (λ other. eqb other code) (take (i + 1) codes) then first code ++ number ∷ [] else first code)
noted_number-more codes i number first before after distinct within so_far noted code =
    noted code ∙ by (eqb (get_or codes i 0) code) refl
    ∙ ap (λ b. if b then first code ++ number ∷ [] else first code)
    (sym (ap (list_any (λ other. eqb other code)) (take_more codes i 0 within)
    ∙ list_any-append (λ other. eqb other code) (take i codes) (get_or codes i 0 ∷ [])))
  where
    or_true : (b : Bool) → (b || (true || false)) ≡ true
    or_true true = refl
    or_true false = refl

    or_false : (b : Bool) → (b || (false || false)) ≡ b
    or_false true = refl
    or_false false = refl

    by : (b : Bool) → eqb (get_or codes i 0) code ≡ b
        → (if b then before code ++ number ∷ [] else before code)
        ≡ (if list_any (λ other. eqb other code) (take i codes) || (eqb (get_or codes i 0) code || false)
        then first code ++ number ∷ [] else first code)
    by true same =
        let none : list_any (λ other. eqb other code) (take i codes) ≡ false =
        subst (λ c. list_any (λ other. eqb other c) (take i codes) ≡ false)
        (eqb-true (get_or codes i 0) code same) (noted_number-none_before codes i distinct within) in
        ap (λ numbers. numbers ++ number ∷ [])
        (so_far code ∙ ap (λ b. if b then first code ++ number ∷ [] else first code) none)
        ∙ ap (λ b. if b then first code ++ number ∷ [] else first code)
        (sym (or_true (list_any (λ other. eqb other code) (take i codes)))
        ∙ ap (λ b. list_any (λ other. eqb other code) (take i codes) || (b || false)) (sym same))
    by false differs =
        so_far code
        ∙ ap (λ b. if b then first code ++ number ∷ [] else first code)
        (sym (or_false (list_any (λ other. eqb other code) (take i codes)))
        ∙ ap (λ b. list_any (λ other. eqb other code) (take i codes) || (b || false)) (sym differs))
