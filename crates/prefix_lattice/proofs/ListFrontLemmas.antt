-- Lists that begin with others.
use Rattle.std.proofs.Common.{◌≡◌, ℕ, ◌<◌, ◌≤◌, max, eqb, Bool, true, false, ◌&&◌, zero, suc, List, [], ◌∷◌, length}
use Rattle.std.proofs.Common.{take, refl, sym, ap, ◌∙◌, arith, Some, None, cond, inl, inr, ◌⊎◌, subst}
use Rattle.std.proofs.lemmas.Bool.{false≢true, eqb-true, eq-eqb, and_parts, and_from, cases_lt, false_from_ne_true}
use Rattle.prefix_lattice.specs.KeptBits.{begins_with}
use Rattle.prefix_lattice.specs.Meets.{meet_side}

pub list_front-reflexive : (xs : List ℕ) → begins_with xs xs ≡ true
list_front-reflexive [] = refl
list_front-reflexive (x ∷ xs) = and_from (eqb x x) (begins_with xs xs) (eq-eqb x x refl) (list_front-reflexive xs)

-- what begins a front of a list begins the list
pub list_front-transitive : (xs ys zs : List ℕ) → begins_with xs ys ≡ true → begins_with ys zs ≡ true
    → begins_with xs zs ≡ true
list_front-transitive xs ys [] first second = refl
list_front-transitive xs [] (z ∷ zs) first second = absurd (false≢true second)
list_front-transitive [] (y ∷ ys) (z ∷ zs) first second = absurd (false≢true first)
list_front-transitive (x ∷ xs) (y ∷ ys) (z ∷ zs) first second =
    let firsts : (eqb x y ≡ true) × (begins_with xs ys ≡ true) = and_parts (eqb x y) (begins_with xs ys) first in
    let seconds : (eqb y z ≡ true) × (begins_with ys zs ≡ true) = and_parts (eqb y z) (begins_with ys zs) second in
    and_from (eqb x z) (begins_with xs zs) (eq-eqb x z (eqb-true x y firsts.0 ∙ eqb-true y z seconds.0))
    (list_front-transitive xs ys zs firsts.1 seconds.1)

-- two lists that begin each other are the same
pub list_front-antisymmetric : (xs ys : List ℕ) → begins_with xs ys ≡ true → begins_with ys xs ≡ true → xs ≡ ys
list_front-antisymmetric [] [] first second = refl
list_front-antisymmetric [] (y ∷ ys) first second = absurd (false≢true first)
list_front-antisymmetric (x ∷ xs) [] first second = absurd (false≢true second)
list_front-antisymmetric (x ∷ xs) (y ∷ ys) first second =
    let firsts : (eqb x y ≡ true) × (begins_with xs ys ≡ true) = and_parts (eqb x y) (begins_with xs ys) first in
    let seconds : (eqb y x ≡ true) × (begins_with ys xs ≡ true) = and_parts (eqb y x) (begins_with ys xs) second in
    ap (λ d. d ∷ xs) (eqb-true x y firsts.0) ∙ ap (λ l. y ∷ l) (list_front-antisymmetric xs ys firsts.1 seconds.1)

-- a list is at least as long as what begins it
pub list_front-no_longer : (xs ys : List ℕ) → begins_with xs ys ≡ true → length ys ≤ length xs
list_front-no_longer xs [] begins = omega arith
list_front-no_longer [] (y ∷ ys) begins = absurd (false≢true begins)
list_front-no_longer (x ∷ xs) (y ∷ ys) begins =
    let shorter = list_front-no_longer xs ys (and_parts (eqb x y) (begins_with xs ys) begins).1 in
    omega arith

-- of two lists that begin one list the shorter begins the longer
pub list_front-shorter : (xs ys zs : List ℕ) → begins_with xs ys ≡ true → begins_with xs zs ≡ true
    → length zs ≤ length ys → begins_with ys zs ≡ true
list_front-shorter xs ys [] first second shorter = refl
list_front-shorter xs [] (z ∷ zs) first second shorter = absurd (omega arith)
list_front-shorter [] (y ∷ ys) (z ∷ zs) first second shorter = absurd (false≢true first)
list_front-shorter (x ∷ xs) (y ∷ ys) (z ∷ zs) first second shorter =
    let firsts : (eqb x y ≡ true) × (begins_with xs ys ≡ true) = and_parts (eqb x y) (begins_with xs ys) first in
    let seconds : (eqb x z ≡ true) × (begins_with xs zs ≡ true) = and_parts (eqb x z) (begins_with xs zs) second in
    and_from (eqb y z) (begins_with ys zs) (eq-eqb y z (sym (eqb-true x y firsts.0) ∙ eqb-true x z seconds.0))
    (list_front-shorter xs ys zs firsts.1 seconds.1 (omega arith))

-- the front of a list begins with a list that is no longer exactly where the whole list does
pub list_front-taken : (xs ys : List ℕ) (n : ℕ) → length ys ≤ n → begins_with (take n xs) ys ≡ begins_with xs ys
list_front-taken xs [] n enough = refl
list_front-taken xs (y ∷ ys) zero enough = absurd (omega arith)
list_front-taken [] (y ∷ ys) (suc n) enough = refl
list_front-taken (x ∷ xs) (y ∷ ys) (suc n) enough = ap (λ b. eqb x y && b) (list_front-taken xs ys n (omega arith))

-- a shorter list doesn't begin with a longer one
pub longer_list_is_no_front : (xs ys : List ℕ) → length xs < length ys → begins_with xs ys ≡ false
longer_list_is_no_front xs ys shorter =
    false_from_ne_true (begins_with xs ys) (λ begins. omega (arith, list_front-no_longer xs ys begins))

-- the longer of two lists is the one that begins with the other
pub longer_list_front-cases : (front other longer : List ℕ) → meet_side front other ≡ Some longer
    → ((longer ≡ front) × (begins_with front other ≡ true)) ⊎ ((longer ≡ other) × (begins_with other front ≡ true))
longer_list_front-cases front other longer = by_tests (begins_with front other) (begins_with other front) refl refl
  where
    by_tests : (first second : Bool) → begins_with front other ≡ first → begins_with other front ≡ second
        → cond first (Some front) (cond second (Some other) None) ≡ Some longer
        → ((longer ≡ front) × (begins_with front other ≡ true)) ⊎ ((longer ≡ other) × (begins_with other front ≡ true))
    by_tests true second is_first is_second same = inl (cc, is_first)
    by_tests false true is_first is_second same = inr (cc, is_second)
    by_tests false false is_first is_second same = absurd (cc)

-- the longer of two lists begins with both
pub longer_list_front-begins : (front other longer : List ℕ) → meet_side front other ≡ Some longer
    → (begins_with longer front ≡ true) × (begins_with longer other ≡ true)
longer_list_front-begins front other longer found = of_case (longer_list_front-cases front other longer found)
  where
    of_case : ((longer ≡ front) × (begins_with front other ≡ true))
        ⊎ ((longer ≡ other) × (begins_with other front ≡ true))
        → (begins_with longer front ≡ true) × (begins_with longer other ≡ true)
    of_case (inl is) = rw is.0 (list_front-reflexive front, is.1)
    of_case (inr is) = rw is.0 (is.1, list_front-reflexive other)

-- the longer of two lists that begin the same list exists, and begins it too
pub record IsLongerListFront (bytes front other longer : List ℕ) : Type 0 where
  pub is : meet_side front other ≡ Some longer
  pub begins : begins_with bytes longer ≡ true
  pub is_length : length longer ≡ max (length front) (length other)

pub longer_of_list_fronts : (bytes front other : List ℕ) → begins_with bytes front ≡ true → begins_with bytes other ≡ true
    → (longer : List ℕ) × IsLongerListFront bytes front other longer
longer_of_list_fronts bytes front other begins begins_other = by_length (cases_lt (length front) (length other))
  where
    by_tests : (first second : Bool) → begins_with front other ≡ first → begins_with other front ≡ second
        → length front < length other
        → cond first (Some front) (cond second (Some other) None) ≡ Some other
    by_tests true second is_first is_second shorter = absurd (omega (arith, list_front-no_longer front other is_first))
    by_tests false true is_first is_second shorter = refl
    by_tests false false is_first is_second shorter =
        absurd (false≢true (sym is_second ∙ list_front-shorter bytes other front begins_other begins (omega arith)))

    by_length : ((length front < length other) ⊎ (length other ≤ length front))
        → (longer : List ℕ) × IsLongerListFront bytes front other longer
    by_length (inl shorter) = (
      other,
      record {
        is = by_tests (begins_with front other) (begins_with other front) refl refl shorter;
        begins = begins_other;
        is_length = omega arith;
      },
    )
    by_length (inr longer) = (
      front,
      record {
        is =
            ap (λ test. cond test (Some front) (cond (begins_with other front) (Some other) None))
            (list_front-shorter bytes front other begins begins_other longer);
        begins = begins;
        is_length = omega arith;
      },
    )

-- the longer of two lists is one of them
pub longer_list_front-either : (P : List ℕ → Type 0) (front other longer : List ℕ) → meet_side front other ≡ Some longer
    → P front → P other → P longer
longer_list_front-either P front other longer found at_front at_other = of_case (longer_list_front-cases front other longer found)
  where
    of_case : ((longer ≡ front) × (begins_with front other ≡ true))
        ⊎ ((longer ≡ other) × (begins_with other front ≡ true)) → P longer
    of_case (inl is) = subst P (sym is.0) at_front
    of_case (inr is) = subst P (sym is.0) at_other

-- the longer of two lists is the same whichever is named first
pub longer_list_front-turned : (front other : List ℕ) → meet_side front other ≡ meet_side other front
longer_list_front-turned front other = by_tests (begins_with front other) (begins_with other front) refl refl
  where
    by_tests : (first second : Bool) → begins_with front other ≡ first → begins_with other front ≡ second
        → cond first (Some front) (cond second (Some other) None)
        ≡ cond second (Some other) (cond first (Some front) None)
    by_tests true true is_first is_second = ap Some (list_front-antisymmetric front other is_first is_second)
    by_tests true false is_first is_second = refl
    by_tests false true is_first is_second = refl
    by_tests false false is_first is_second = refl
