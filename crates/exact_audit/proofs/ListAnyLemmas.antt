-- Tests of lists: whether one of the elements passes.
use Rattle.std.proofs.Common.{◌≡◌, ℕ, Bool, true, false, ◌&&◌, ◌||◌, ◌<◌, List, [], ◌∷◌, length, suc, cond, filter}
use Rattle.std.proofs.Common.{refl, sym, ap, ◌∙◌, arith, get_or, All}
use Rattle.std.specs.List.{list_any}
use Rattle.std.proofs.lemmas.List.Elements.{All-head, All-tail}

-- two tests that agree on each element
pub list_any-same : {X : Type 0} (p q : X → Bool) (xs : List X) → All (λ x. p x ≡ q x) xs
    → list_any p xs ≡ list_any q xs
list_any-same p q [] same = refl
list_any-same p q (x ∷ xs) same =
    ap (λ b. b || list_any p xs) (All-head (λ x. p x ≡ q x) x xs same)
    ∙ ap (λ b. q x || b) (list_any-same p q xs (All-tail (λ x. p x ≡ q x) x xs same))

-- one of the elements that pass a test passes another
pub list_any-filter : {X : Type 0} (p q : X → Bool) (xs : List X)
    → list_any p (filter q xs) ≡ list_any (λ x. q x && p x) xs
list_any-filter p q [] = refl
list_any-filter p q (x ∷ xs) = split (q x) (list_any-filter p q xs)
  where
    split : (b : Bool) → list_any p (filter q xs) ≡ list_any (λ x. q x && p x) xs
        → list_any p (cond b (x ∷ filter q xs) (filter q xs)) ≡ ((b && p x) || list_any (λ x. q x && p x) xs)
    split true rest = ap (λ b. p x || b) rest
    split false rest = rest

-- an element passes one of two tests
pub list_any-either : {X : Type 0} (p q : X → Bool) (xs : List X)
    → list_any (λ x. p x || q x) xs ≡ (list_any p xs || list_any q xs)
list_any-either p q [] = refl
list_any-either p q (x ∷ xs) =
    ap (λ b. (p x || q x) || b) (list_any-either p q xs) ∙ swap (p x) (q x) (list_any p xs) (list_any q xs)
  where
    swap : (a b c d : Bool) → ((a || b) || (c || d)) ≡ ((a || c) || (b || d))
    swap true b c d = refl
    swap false true true d = refl
    swap false true false d = refl
    swap false false true true = refl
    swap false false true false = refl
    swap false false false d = refl

-- if each element that passes a test passes another, and one passes the first, one passes the other
pub list_any-weaker : {X : Type 0} (p q : X → Bool) (xs : List X)
    → ((place : ℕ) (d : X) → place < length xs → p (get_or xs place d) ≡ true → q (get_or xs place d) ≡ true)
    → list_any p xs ≡ true → list_any q xs ≡ true
list_any-weaker p q [] weaker is = is
list_any-weaker p q (x ∷ xs) weaker is =
    split (p x) (q x) (weaker 0 x (omega arith))
    (list_any-weaker p q xs (λ place d within. weaker (suc place) d (omega arith))) is
  where
    split : (a b : Bool) → (a ≡ true → b ≡ true) → (list_any p xs ≡ true → list_any q xs ≡ true)
        → (a || list_any p xs) ≡ true → (b || list_any q xs) ≡ true
    split true b first rest is = ap (λ c. c || list_any q xs) (first refl)
    split false true first rest is = refl
    split false false first rest is = rest is

-- equal truths
pub list_any_truths_are_equal : (a b : Bool) → (a ≡ true → b ≡ true) → (b ≡ true → a ≡ true) → a ≡ b
list_any_truths_are_equal true b to from = sym (to refl)
list_any_truths_are_equal false true to from = from refl
list_any_truths_are_equal false false to from = refl
