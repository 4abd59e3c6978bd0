-- One element of a list changed twice.
use Rattle.std.proofs.Common.{◌≡◌, ℕ, zero, suc, List, [], ◌∷◌, refl, ap}
use Rattle.shard_state.specs.{changed_in}

pub changed_place_twice : {X : Type 0} (later earlier : X → X) (place : ℕ) (xs : List X)
    → changed_in later place (changed_in earlier place xs) ≡ changed_in (λ x. later (earlier x)) place xs
changed_place_twice later earlier place [] = refl
changed_place_twice later earlier zero (x ∷ xs) = refl
changed_place_twice later earlier (suc place) (x ∷ xs) = ap (λ ys. x ∷ ys) (changed_place_twice later earlier place xs)

-- changes that do the same to each element
pub changed_place_alike : {X : Type 0} (one other : X → X) (place : ℕ) (xs : List X) → ((x : X) → one x ≡ other x)
    → changed_in one place xs ≡ changed_in other place xs
changed_place_alike one other place [] same = refl
changed_place_alike one other zero (x ∷ xs) same = ap (λ y. y ∷ xs) (same x)
changed_place_alike one other (suc place) (x ∷ xs) same = ap (λ ys. x ∷ ys) (changed_place_alike one other place xs same)

pub changed_place_same : {X : Type 0} (place : ℕ) (xs : List X) → changed_in (λ x. x) place xs ≡ xs
changed_place_same place [] = refl
changed_place_same zero (x ∷ xs) = refl
changed_place_same (suc place) (x ∷ xs) = ap (λ ys. x ∷ ys) (changed_place_same place xs)
