-- A list with the element at one index changed.
use Rattle.std.proofs.Common.{◌≡◌, ℕ, ◌<◌, zero, suc, List, [], ◌∷◌, length, get_or, slice_get, slice_set, Some, All}
use Rattle.std.proofs.Common.{refl, ap, arith}
use Rattle.std.proofs.lemmas.List.Elements.{All-cons, All-head, All-tail}
use Rattle.shard_state.specs.ShardCore.{changed_in}

pub changed_in-element_keeps_length : {X : Type 0} → (change : X → X) (place : ℕ) (xs : List X) → length (changed_in change place xs) ≡ length xs
changed_in-element_keeps_length change place [] = refl
changed_in-element_keeps_length change zero (x ∷ xs) = refl
changed_in-element_keeps_length change (suc place) (x ∷ xs) = ap suc (changed_in-element_keeps_length change place xs)

-- the changed element is at the index
pub changed_in-element_holds_change : {X : Type 0} → (change : X → X) (place : ℕ) (xs : List X) (x : X) → slice_get xs place ≡ Some x
    → slice_get (changed_in change place xs) place ≡ Some (change x)
changed_in-element_holds_change change place [] x is = cc is
changed_in-element_holds_change change zero (y ∷ xs) x is = let same : y ≡ x = cc is in ap (λ v. Some (change v)) same
changed_in-element_holds_change change (suc place) (y ∷ xs) x is = changed_in-element_holds_change change place xs x is

-- the other elements stay
pub changed_in-other_elements_stay : {X : Type 0} → (change : X → X) (place other : ℕ) (xs : List X) → (place ≡ other → ⊥)
    → slice_get (changed_in change place xs) other ≡ slice_get xs other
changed_in-other_elements_stay change place other [] apart = refl
changed_in-other_elements_stay change zero zero (y ∷ xs) apart = absurd (apart refl)
changed_in-other_elements_stay change zero (suc other) (y ∷ xs) apart = refl
changed_in-other_elements_stay change (suc place) zero (y ∷ xs) apart = refl
changed_in-other_elements_stay change (suc place) (suc other) (y ∷ xs) apart = changed_in-other_elements_stay change place other xs
    (λ same. apart (ap suc same))

-- a change at an index is a write there
pub changed_in-element_is_set : {X : Type 0} → (change : X → X) (place : ℕ) (xs : List X) (d : X) → place < length xs
    → changed_in change place xs ≡ slice_set xs place (change (get_or xs place d))
changed_in-element_is_set change place [] d within = absurd (omega arith)
changed_in-element_is_set change zero (x ∷ xs) d within = refl
changed_in-element_is_set change (suc place) (x ∷ xs) d within = ap (λ l. x ∷ l) (changed_in-element_is_set change place xs d (omega arith))

-- what every change keeps
pub All-changed_element : {X : Type 0} → (P : X → Type 0) (change : X → X) (place : ℕ) (xs : List X)
    → ((x : X) → P x → P (change x)) → All P xs → All P (changed_in change place xs)
All-changed_element P change place [] keeps all = all
All-changed_element P change zero (x ∷ xs) keeps all = All-cons P (change x) xs (keeps x (All-head P x xs all)) (All-tail P x xs all)
All-changed_element P change (suc place) (x ∷ xs) keeps all =
    All-cons P x (changed_in change place xs) (All-head P x xs all) (All-changed_element P change place xs keeps (All-tail P x xs all))

-- a write at an index, and the other elements
pub set_element_is_changed : {X : Type 0} → (place : ℕ) (xs : List X) (v x : X) → slice_get xs place ≡ Some x → slice_get (slice_set xs place v) place ≡ Some v
set_element_is_changed place [] v x is = cc is
set_element_is_changed zero (y ∷ xs) v x is = refl
set_element_is_changed (suc place) (y ∷ xs) v x is = set_element_is_changed place xs v x is

pub changed_element_keeps_others : {X : Type 0} → (place other : ℕ) (xs : List X) (v : X) → (place ≡ other → ⊥)
    → slice_get (slice_set xs place v) other ≡ slice_get xs other
changed_element_keeps_others place other [] v apart = refl
changed_element_keeps_others zero zero (y ∷ xs) v apart = absurd (apart refl)
changed_element_keeps_others zero (suc other) (y ∷ xs) v apart = refl
changed_element_keeps_others (suc place) zero (y ∷ xs) v apart = refl
changed_element_keeps_others (suc place) (suc other) (y ∷ xs) v apart = changed_element_keeps_others place other xs v (λ same. apart (ap suc same))
