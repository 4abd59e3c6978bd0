-- Facts of lists by their head and their tail. The crates above cite this file too, as they do the standard library's.
use Rattle.std.proofs.Common.{◌≡◌, zero, suc, List, [], ◌∷◌, Contains, All, AllPairs, ◌⊎◌, inl, inr, refl, arith}

-- a list contains its head
pub Contains-list_head : {X : Type 0} (x : X) (xs : List X) → Contains (x ∷ xs) x
Contains-list_head x xs = (0, omega arith, refl)

-- and each element of its tail
pub Contains-list_tail : {X : Type 0} (x : X) (xs : List X) (y : X) → Contains xs y → Contains (x ∷ xs) y
Contains-list_tail x xs y (place, within, same) = (suc place, omega arith, same)

-- an element of a list is its head or an element of its tail
pub Contains-list_cons : {X : Type 0} (x : X) (xs : List X) (y : X) → Contains (x ∷ xs) y → (x ≡ y) ⊎ Contains xs y
Contains-list_cons x xs y (zero, within, same) = inl same
Contains-list_cons x xs y (suc place, within, same) = inr (place, omega arith, same)

-- the empty list has no element
pub Contains-empty_list : {X : Type 0} (y : X) → Contains {X = X} [] y → ⊥
Contains-empty_list y (place, within, same) = omega arith

-- what holds of each pair holds of the head and each later element
pub AllPairs-list_head : {X : Type 0} (R : X → X → Type 0) (x : X) (xs : List X) → AllPairs R (x ∷ xs) → All (R x) xs
AllPairs-list_head R x xs pairs = λ place default within. pairs 0 (suc place) default (omega arith) (omega arith)

-- and of each pair of the tail
pub AllPairs-list_tail : {X : Type 0} (R : X → X → Type 0) (x : X) (xs : List X) → AllPairs R (x ∷ xs) → AllPairs R xs
AllPairs-list_tail R x xs pairs = λ earlier later default before within.
    pairs (suc earlier) (suc later) default (omega arith) (omega arith)
