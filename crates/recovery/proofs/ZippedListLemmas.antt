-- Two lists that fit each other, index by index.
use Rattle.std.proofs.Common.{◌≡◌, ℕ, zero, suc, ◌<◌, ◌+◌, List, [], ◌∷◌, length, slice_get, Some, refl, arith, ap, sym}
use Rattle.std.proofs.Common.{subst, ◌∙◌, inl, inr}
use Rattle.std.specs.List.{AllZip}
use Rattle.std.proofs.lemmas.Bool.{cases_lt}

pub zipped_lists_from_places : {A B : Type 0} → (R : A → B → Type 0) (xs : List A) (ys : List B) → length xs ≡ length ys
    → ((k : ℕ) (x : A) (y : B) → slice_get xs k ≡ Some x → slice_get ys k ≡ Some y → R x y) → AllZip R xs ys
zipped_lists_from_places R [] [] many each = tt
zipped_lists_from_places R [] (y ∷ ys) many each = absurd (omega arith)
zipped_lists_from_places R (x ∷ xs) [] many each = absurd (omega arith)
zipped_lists_from_places R (x ∷ xs) (y ∷ ys) many each =
    (each 0 x y refl refl, zipped_lists_from_places R xs ys (omega arith) (λ k u v is_u is_v. each (suc k) u v is_u is_v))

pub zipped_lists_at_place : {A B : Type 0} → (R : A → B → Type 0) (xs : List A) (ys : List B) → AllZip R xs ys
    → (k : ℕ) (x : A) (y : B) → slice_get xs k ≡ Some x → slice_get ys k ≡ Some y → R x y
zipped_lists_at_place R [] [] all k x y is_x is_y = absurd (cc is_x)
zipped_lists_at_place R [] (v ∷ vs) all k x y is_x is_y = absurd all
zipped_lists_at_place R (u ∷ us) [] all k x y is_x is_y = absurd all
zipped_lists_at_place {A = A} {B = B} R (u ∷ us) (v ∷ vs) all zero x y is_x is_y =
    let same_x : u ≡ x = cc is_x in
    let same_y : v ≡ y = cc is_y in
    subst (λ (b : B). R x b) same_y (subst (λ (a : A). R a v) same_x all.0)
zipped_lists_at_place R (u ∷ us) (v ∷ vs) all (suc k) x y is_x is_y = zipped_lists_at_place R us vs all.1 k x y is_x is_y

-- what holds of the first values, and of those at the next index
pub zipped_lists_at_next_place : {A B : Type 0} → (R : A → B → Type 0) (xs : List A) (ys : List B) (i : ℕ) (u : A) (v : B) → slice_get xs i ≡ Some u
    → slice_get ys i ≡ Some v → R u v
    → ((k : ℕ) (x : A) (y : B) → k < i → slice_get xs k ≡ Some x → slice_get ys k ≡ Some y → R x y)
    → (k : ℕ) (x : A) (y : B) → k < i + 1 → slice_get xs k ≡ Some x → slice_get ys k ≡ Some y → R x y
zipped_lists_at_next_place {A = A} {B = B} R xs ys i u v got_u got_v here before k x y lt got_x got_y =
    elim (cases_lt k i) [
      | inl less ↦ before k x y less got_x got_y
      | inr le ↦
          let at : k ≡ i = omega (arith, lt, le) in
          let first : Some u ≡ Some x = sym got_u ∙ sym (ap (slice_get xs) at) ∙ got_x in
          let second : Some v ≡ Some y = sym got_v ∙ sym (ap (slice_get ys) at) ∙ got_y in
          let same_x : u ≡ x = cc first in
          let same_y : v ≡ y = cc second in
          subst (λ (b : B). R x b) same_y (subst (λ (a : A). R a v) same_x here)
    ]
