-- The elements of a list, and what a test finds among them.
use Rattle.std.proofs.Common.{◌≡◌, Bool, true, false, ◌||◌, cond, List, [], ◌∷◌, Option, None, Some, ◌⊎◌, inl, inr}
use Rattle.std.proofs.Common.{refl, sym, ap, ◌∙◌, arith, subst}
use Rattle.std.specs.List.{All, AllPairs, list_any, filter, filter_map, cons_option}
use Rattle.std.proofs.lemmas.Bool.{false≢true, or_cases, or_left, or_right, or_from, false_from_ne_true}
use Rattle.std.proofs.lemmas.List.Elements.{All-nil, All-cons, All-head, All-tail}
use Rattle.std.proofs.lemmas.List.Kept.{AllPairs-cons}
use Rattle.prefix_lattice.proofs.ListLemmas.{AllPairs-list_head, AllPairs-list_tail}

-- x is one of these elements
abbrev pub Among : {X : Type 0} → X → List X → Type 0
Among x [] = ⊥
Among x (y ∷ ys) = (x ≡ y) ⊎ Among x ys

-- what holds of each element holds of all
pub All-from_among : {X : Type 0} (P : X → Type 0) (xs : List X) → ((x : X) → Among x xs → P x) → All P xs
All-from_among P [] each = All-nil P
All-from_among P (x ∷ xs) each =
    All-cons P x xs (each x (inl refl)) (All-from_among P xs (λ y among. each y (inr among)))

-- what holds of all holds of each element
pub among-All : {X : Type 0} (P : X → Type 0) (x : X) (xs : List X) → All P xs → Among x xs → P x
among-All P x [] all among = absurd among
among-All P x (y ∷ ys) all (inl same) = subst P (sym same) (All-head P y ys all)
among-All P x (y ∷ ys) all (inr among) = among-All P x ys (All-tail P y ys all) among

-- a test that fails at each element finds none
pub any_among-false : {X : Type 0} (test : X → Bool) (xs : List X) → ((x : X) → Among x xs → test x ≡ false)
    → list_any test xs ≡ false
any_among-false test [] fails = refl
any_among-false test (x ∷ xs) fails =
    or_from (test x) (list_any test xs) (fails x (inl refl))
    (any_among-false test xs (λ y among. fails y (inr among)))

-- a test that passes at an element finds one
pub any_among-true : {X : Type 0} (test : X → Bool) (x : X) (xs : List X) → Among x xs → test x ≡ true
    → list_any test xs ≡ true
any_among-true test x [] among passes = absurd among
any_among-true test x (y ∷ ys) (inl same) passes = or_left (test y) (list_any test ys) (sym (ap test same) ∙ passes)
any_among-true test x (y ∷ ys) (inr among) passes =
    or_right (test y) (list_any test ys) (any_among-true test x ys among passes)

-- a test that finds none fails at each element
pub any_among-fails : {X : Type 0} (test : X → Bool) (x : X) (xs : List X) → list_any test xs ≡ false → Among x xs
    → test x ≡ false
any_among-fails test x xs none among =
    false_from_ne_true (test x) (λ passes. false≢true (sym none ∙ any_among-true test x xs among passes))

-- an element at which a test passes
pub record PassesAmong {X : Type 0} (test : X → Bool) (xs : List X) : Type 0 where
  pub found : X
  pub among : Among found xs
  pub passes : test found ≡ true

-- what a test found is an element at which it passes
pub any_among-found : {X : Type 0} (test : X → Bool) (xs : List X) → list_any test xs ≡ true → PassesAmong test xs
any_among-found test [] some = absurd (false≢true some)
any_among-found {X} test (x ∷ xs) some = either (any_among-found test xs) (or_cases (test x) (list_any test xs) some)
  where
    either : (list_any test xs ≡ true → PassesAmong test xs) → ((test x ≡ true) ⊎ (list_any test xs ≡ true))
        → PassesAmong test (x ∷ xs)
    either in_rest (inl passes) = record { found = x; among = inl refl; passes = passes }
    either in_rest (inr later) =
        let rest = in_rest later in
        record { found = rest.found; among = inr rest.among; passes = rest.passes }

-- two tests that agree find alike
pub any_among-agrees : {X : Type 0} (test other : X → Bool) (xs : List X) → ((x : X) → test x ≡ other x)
    → list_any test xs ≡ list_any other xs
any_among-agrees test other [] agree = refl
any_among-agrees test other (x ∷ xs) agree =
    ap (λ b. b || list_any test xs) (agree x) ∙ ap (λ b. other x || b) (any_among-agrees test other xs agree)

-- a filter keeps elements that pass
pub among-filter : {X : Type 0} (test : X → Bool) (x : X) (xs : List X) → Among x (filter test xs)
    → Among x xs × (test x ≡ true)
among-filter test x [] among = absurd among
among-filter test x (y ∷ ys) among = by_test (among-filter test x ys) (test y) refl among
  where
    by_test : (Among x (filter test ys) → Among x ys × (test x ≡ true)) → (b : Bool) → test y ≡ b
        → Among x (cond b (y ∷ filter test ys) (filter test ys))
        → Among x (y ∷ ys) × (test x ≡ true)
    by_test in_rest true passes (inl same) = (inl same, ap test same ∙ passes)
    by_test in_rest true passes (inr later) = (inr (in_rest later).0, (in_rest later).1)
    by_test in_rest false fails later = (inr (in_rest later).0, (in_rest later).1)

-- a filter keeps each element that passes
pub filter-among : {X : Type 0} (test : X → Bool) (x : X) (xs : List X) → Among x xs → test x ≡ true
    → Among x (filter test xs)
filter-among test x [] among passes = absurd among
filter-among test x (y ∷ ys) among passes = by_test (λ later. filter-among test x ys later passes) (test y) refl among
  where
    by_test : (Among x ys → Among x (filter test ys)) → (b : Bool) → test y ≡ b → Among x (y ∷ ys)
        → Among x (cond b (y ∷ filter test ys) (filter test ys))
    by_test in_rest true kept (inl same) = inl same
    by_test in_rest true kept (inr later) = inr (in_rest later)
    by_test in_rest false fails (inl same) = absurd (false≢true (sym fails ∙ sym (ap test same) ∙ passes))
    by_test in_rest false fails (inr later) = in_rest later

-- what holds of each pair both ways holds of any two elements that aren't the same
pub pairs-among : {X : Type 0} (R : X → X → Type 0) (turned : (x y : X) → R x y → R y x) (x y : X) (xs : List X)
    → AllPairs R xs → Among x xs → Among y xs → (x ≡ y) ⊎ R x y
pairs-among R turned x y [] pairs among other = absurd among
pairs-among R turned x y (z ∷ zs) pairs (inl same) (inl other) = inl (same ∙ sym other)
pairs-among R turned x y (z ∷ zs) pairs (inl same) (inr other) =
    let first : R z y = among-All (R z) y zs (AllPairs-list_head R z zs pairs) other in
    inr (subst (λ w. R w y) (sym same) first)
pairs-among R turned x y (z ∷ zs) pairs (inr among) (inl other) =
    let first : R z x = among-All (R z) x zs (AllPairs-list_head R z zs pairs) among in
    inr (turned y x (subst (λ w. R w x) (sym other) first))
pairs-among R turned x y (z ∷ zs) pairs (inr among) (inr other) =
    pairs-among R turned x y zs (AllPairs-list_tail R z zs pairs) among other

-- what holds of any two elements holds of each pair
pub AllPairs-from_among : {X : Type 0} (R : X → X → Type 0) (xs : List X)
    → ((x y : X) → Among x xs → Among y xs → R x y) → AllPairs R xs
AllPairs-from_among R [] each = λ earlier later default before within. absurd (omega arith)
AllPairs-from_among R (x ∷ xs) each =
    AllPairs-cons R x xs (All-from_among (R x) xs (λ y among. each x y (inl refl) (inr among)))
    (AllPairs-from_among R xs (λ y z among other. each y z (inr among) (inr other)))

-- what holds of each value made of an element holds of all values made of a list
pub All-filter_map_among : {X Y : Type 0} (P : Y → Type 0) (made : X → Option Y) (xs : List X)
    → ((x : X) (y : Y) → Among x xs → made x ≡ Some y → P y) → All P (filter_map made xs)
All-filter_map_among P made [] each = All-nil P
All-filter_map_among {X} {Y} P made (x ∷ xs) each =
    by_option (All-filter_map_among P made xs (λ z y among. each z y (inr among))) (made x) refl
  where
    by_option : All P (filter_map made xs) → (o : Option Y) → made x ≡ o → All P (cons_option o (filter_map made xs))
    by_option rest None is = rest
    by_option rest (Some y) is = All-cons P y (filter_map made xs) (each x y (inl refl) is) rest
