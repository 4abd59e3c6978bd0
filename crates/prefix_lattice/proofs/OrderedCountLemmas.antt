-- Counts of elements and of pairs of elements, in whatever order they are.
use Rattle.std.proofs.Common.{◌≡◌, ℕ, ◌+◌, ltb, suc, Bool, true, false, cond, List, [], ◌∷◌, length, Option, None}
use Rattle.std.proofs.Common.{Some, ◌⊎◌, inl, inr, refl, sym, ap, ◌∙◌, arith}
use Rattle.std.specs.List.{count_by, filter, filter_map, cons_option}
use Rattle.std.proofs.lemmas.Bool.{false≢true, false_from_ne_true}
use Rattle.std.proofs.lemmas.List.Sums.{sum_by-cons}
use Rattle.prefix_lattice.proofs.AmongLemmas.{Among}

-- how much one element adds to a count
abbrev pub added_to_count : Bool → ℕ
added_to_count test = cond test 1 0

pub count_by-cons : {X : Type 0} (test : X → Bool) (x : X) (xs : List X)
    → count_by test (x ∷ xs) ≡ added_to_count (test x) + count_by test xs
count_by-cons test x xs = sum_by-cons (λ y. cond (test y) 1 0) x xs

-- a test that fails at each element counts none
pub count_by-none : {X : Type 0} (test : X → Bool) (xs : List X) → ((x : X) → Among x xs → test x ≡ false)
    → count_by test xs ≡ 0
count_by-none test [] fails = refl
count_by-none test (x ∷ xs) fails =
    omega (
      arith,
      count_by-cons test x xs,
      ap added_to_count (fails x (inl refl)),
      count_by-none test xs (λ y among. fails y (inr among)),
    )

-- the test of what an option holds
abbrev pub counts_if_some : {Y : Type 0} → (Y → Bool) → Option Y → Bool
counts_if_some test None = false
counts_if_some test (Some y) = test y

-- values made of elements are counted at the elements that they are made of
pub count_by-filter_map : {X Y : Type 0} (test : Y → Bool) (made : X → Option Y) (xs : List X)
    → count_by test (filter_map made xs) ≡ count_by (λ x. counts_if_some test (made x)) xs
count_by-filter_map test made [] = refl
count_by-filter_map {X} {Y} test made (x ∷ xs) =
    by_option (made x) ∙ ap (λ n. added_to_count (counts_if_some test (made x)) + n) (count_by-filter_map test made xs)
    ∙ sym (count_by-cons (λ z. counts_if_some test (made z)) x xs)
  where
    by_option : (o : Option Y)
        → count_by test (cons_option o (filter_map made xs))
        ≡ added_to_count (counts_if_some test o) + count_by test (filter_map made xs)
    by_option None = omega arith
    by_option (Some y) = count_by-cons test y (filter_map made xs)

-- filtering by a weaker test doesn't change a count
pub count_by-filter : {X : Type 0} (test other : X → Bool) (xs : List X)
    → ((x : X) → test x ≡ true → other x ≡ true) → count_by test (filter other xs) ≡ count_by test xs
count_by-filter test other [] implies = refl
count_by-filter test other (x ∷ xs) implies = by_test (count_by-filter test other xs implies) (other x) refl
  where
    by_test : count_by test (filter other xs) ≡ count_by test xs → (b : Bool) → other x ≡ b
        → count_by test (cond b (x ∷ filter other xs) (filter other xs)) ≡ count_by test (x ∷ xs)
    by_test rest true is = omega (arith, count_by-cons test x (filter other xs), count_by-cons test x xs, rest)
    by_test rest false is =
        let fails : test x ≡ false = false_from_ne_true (test x) (λ passes. false≢true (sym is ∙ implies x passes)) in
        omega (arith, ap added_to_count fails, count_by-cons test x xs, rest)

-- how many pairs of an element and a later one pass a test
abbrev pub pair_count : {X : Type 0} → (X → X → Bool) → List X → ℕ
pair_count test [] = 0
pair_count test (x ∷ xs) = count_by (test x) xs + pair_count test xs

-- nor does it change a count of pairs, if both members of each pair counted pass the filter
pub pair_count-filter : {X : Type 0} (test : X → X → Bool) (other : X → Bool) (xs : List X)
    → ((x y : X) → test x y ≡ true → (other x ≡ true) × (other y ≡ true))
    → pair_count test (filter other xs) ≡ pair_count test xs
pair_count-filter test other [] implies = refl
pair_count-filter test other (x ∷ xs) implies = by_test (pair_count-filter test other xs implies) (other x) refl
  where
    by_test : pair_count test (filter other xs) ≡ pair_count test xs → (b : Bool) → other x ≡ b
        → pair_count test (cond b (x ∷ filter other xs) (filter other xs)) ≡ count_by (test x) xs + pair_count test xs
    by_test rest true is = omega (arith, count_by-filter (test x) other xs (λ y passes. (implies x y passes).1), rest)
    by_test rest false is =
        let none : count_by (test x) xs ≡ 0 =
        count_by-none (test x) xs
        (λ y among. false_from_ne_true (test x y) (λ passes. false≢true (sym is ∙ (implies x y passes).0))) in
        omega (arith, none, rest)

-- puts an element before the first one that is no smaller
abbrev pub ordered_insert : {X : Type 0} → (X → ℕ) → X → List X → List X
ordered_insert size x [] = x ∷ []
ordered_insert size x (y ∷ ys) = cond (ltb (size y) (size x)) (y ∷ ordered_insert size x ys) (x ∷ y ∷ ys)

-- the elements with the smallest first
abbrev pub ordered_by : {X : Type 0} → (X → ℕ) → List X → List X
ordered_by size [] = []
ordered_by size (x ∷ xs) = ordered_insert size x (ordered_by size xs)

-- an element after an insertion is the inserted one, or was there before
pub ordered_insert-cases : {X : Type 0} (size : X → ℕ) (z x : X) (xs : List X) → Among z (ordered_insert size x xs) → (z ≡ x) ⊎ Among z xs
ordered_insert-cases size z x [] among = among
ordered_insert-cases size z x (y ∷ ys) among =
    by_test (λ later. behind (ordered_insert-cases size z x ys later)) (ltb (size y) (size x)) among
  where
    behind : ((z ≡ x) ⊎ Among z ys) → (z ≡ x) ⊎ Among z (y ∷ ys)
    behind (inl same) = inl same
    behind (inr later) = inr (inr later)

    by_test : (Among z (ordered_insert size x ys) → (z ≡ x) ⊎ Among z (y ∷ ys)) → (b : Bool)
        → Among z (cond b (y ∷ ordered_insert size x ys) (x ∷ y ∷ ys)) → (z ≡ x) ⊎ Among z (y ∷ ys)
    by_test in_rest true (inl same) = inr (inl same)
    by_test in_rest true (inr later) = in_rest later
    by_test in_rest false either = either

pub ordered_insert-keeps : {X : Type 0} (size : X → ℕ) (z x : X) (xs : List X) → (z ≡ x) ⊎ Among z xs → Among z (ordered_insert size x xs)
ordered_insert-keeps size z x [] among = among
ordered_insert-keeps size z x (y ∷ ys) among = by_test (ordered_insert-keeps size z x ys) (ltb (size y) (size x)) among
  where
    by_test : ((z ≡ x) ⊎ Among z ys → Among z (ordered_insert size x ys)) → (b : Bool) → (z ≡ x) ⊎ Among z (y ∷ ys)
        → Among z (cond b (y ∷ ordered_insert size x ys) (x ∷ y ∷ ys))
    by_test in_rest true (inl same) = inr (in_rest (inl same))
    by_test in_rest true (inr (inl same)) = inl same
    by_test in_rest true (inr (inr later)) = inr (in_rest (inr later))
    by_test in_rest false either = either

pub ordered_by-keeps : {X : Type 0} (size : X → ℕ) (z : X) (xs : List X) → Among z xs → Among z (ordered_by size xs)
ordered_by-keeps size z [] among = among
ordered_by-keeps size z (x ∷ xs) (inl same) = ordered_insert-keeps size z x (ordered_by size xs) (inl same)
ordered_by-keeps size z (x ∷ xs) (inr rest) = ordered_insert-keeps size z x (ordered_by size xs) (inr (ordered_by-keeps size z xs rest))

pub ordered_by-adds_none : {X : Type 0} (size : X → ℕ) (z : X) (xs : List X) → Among z (ordered_by size xs) → Among z xs
ordered_by-adds_none size z [] among = among
ordered_by-adds_none size z (x ∷ xs) among = either (ordered_by-adds_none size z xs) (ordered_insert-cases size z x (ordered_by size xs) among)
  where
    either : (Among z (ordered_by size xs) → Among z xs) → (z ≡ x) ⊎ Among z (ordered_by size xs) → Among z (x ∷ xs)
    either in_rest (inl same) = inl same
    either in_rest (inr later) = inr (in_rest later)

-- a count doesn't depend on where an element is inserted
pub count_by-ordered_insert : {X : Type 0} (size : X → ℕ) (test : X → Bool) (x : X) (xs : List X)
    → count_by test (ordered_insert size x xs) ≡ added_to_count (test x) + count_by test xs
count_by-ordered_insert size test x [] = count_by-cons test x []
count_by-ordered_insert size test x (y ∷ ys) = by_test (count_by-ordered_insert size test x ys) (ltb (size y) (size x))
  where
    by_test : count_by test (ordered_insert size x ys) ≡ added_to_count (test x) + count_by test ys → (b : Bool)
        → count_by test (cond b (y ∷ ordered_insert size x ys) (x ∷ y ∷ ys)) ≡ added_to_count (test x) + count_by test (y ∷ ys)
    by_test rest true = omega (arith, count_by-cons test y (ordered_insert size x ys), rest, count_by-cons test y ys)
    by_test rest false = count_by-cons test x (y ∷ ys)

pub count_by-ordered_by : {X : Type 0} (size : X → ℕ) (test : X → Bool) (xs : List X)
    → count_by test (ordered_by size xs) ≡ count_by test xs
count_by-ordered_by size test [] = refl
count_by-ordered_by size test (x ∷ xs) =
    omega
    (arith, count_by-ordered_insert size test x (ordered_by size xs), count_by-ordered_by size test xs, count_by-cons test x xs)

pub ordered_insert-counts_one_more : {X : Type 0} (size : X → ℕ) (x : X) (xs : List X) → length (ordered_insert size x xs) ≡ suc (length xs)
ordered_insert-counts_one_more size x [] = refl
ordered_insert-counts_one_more size x (y ∷ ys) = by_test (ordered_insert-counts_one_more size x ys) (ltb (size y) (size x))
  where
    by_test : length (ordered_insert size x ys) ≡ suc (length ys) → (b : Bool)
        → length (cond b (y ∷ ordered_insert size x ys) (x ∷ y ∷ ys)) ≡ suc (suc (length ys))
    by_test rest true = ap suc rest
    by_test rest false = refl

pub ordered_by-same_count : {X : Type 0} (size : X → ℕ) (xs : List X) → length (ordered_by size xs) ≡ length xs
ordered_by-same_count size [] = refl
ordered_by-same_count size (x ∷ xs) = ordered_insert-counts_one_more size x (ordered_by size xs) ∙ ap suc (ordered_by-same_count size xs)

-- nor does a count of pairs, if the test is symmetric
pub pair_count-ordered_insert : {X : Type 0} (size : X → ℕ) (test : X → X → Bool) (turned : (x y : X) → test x y ≡ test y x)
    (x : X) (xs : List X)
    → pair_count test (ordered_insert size x xs) ≡ count_by (test x) xs + pair_count test xs
pair_count-ordered_insert size test turned x [] = refl
pair_count-ordered_insert size test turned x (y ∷ ys) = by_test (pair_count-ordered_insert size test turned x ys) (ltb (size y) (size x))
  where
    by_test : pair_count test (ordered_insert size x ys) ≡ count_by (test x) ys + pair_count test ys → (b : Bool)
        → pair_count test (cond b (y ∷ ordered_insert size x ys) (x ∷ y ∷ ys))
        ≡ count_by (test x) (y ∷ ys) + (count_by (test y) ys + pair_count test ys)
    by_test rest true =
        omega (arith, count_by-ordered_insert size (test y) x ys, ap added_to_count (turned y x), rest, count_by-cons (test x) y ys)
    by_test rest false = refl

pub pair_count-ordered_by : {X : Type 0} (size : X → ℕ) (test : X → X → Bool)
    (turned : (x y : X) → test x y ≡ test y x) (xs : List X)
    → pair_count test (ordered_by size xs) ≡ pair_count test xs
pair_count-ordered_by size test turned [] = refl
pair_count-ordered_by size test turned (x ∷ xs) =
    pair_count-ordered_insert size test turned x (ordered_by size xs)
    ∙ ap (λ n. n + pair_count test (ordered_by size xs)) (count_by-ordered_by size (test x) xs)
    ∙ ap (λ n. count_by (test x) xs + n) (pair_count-ordered_by size test turned xs)
