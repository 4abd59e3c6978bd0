-- Elements of lists, and relations between each element and each that comes later.
use Rattle.std.proofs.Common.{◌≡◌, ◌≢◌, ℕ, List, [], ◌∷◌, ◌++◌, ◌⊎◌, inl, inr, refl, sym, ap, subst, ⊎_elim}
use Rattle.std.specs.List.{AllByRecursion}
use Rattle.stream_summary.specs.Lists.{Pairwise}
use Rattle.stream_summary.specs.Ring.{IsIn}

-- what holds of each element
pub all_map : {X : Type 0} {P Q : X → Type 0} → ((x : X) → P x → Q x) → (xs : List X) → AllByRecursion P xs → AllByRecursion Q xs
all_map f [] all = tt
all_map f (x ∷ xs) all = (f x all.0, all_map f xs all.1)

pub all_front : {X : Type 0} (P : X → Type 0) (xs ys : List X) → AllByRecursion P (xs ++ ys) → AllByRecursion P xs
all_front P [] ys all = tt
all_front P (x ∷ xs) ys all = (all.0, all_front P xs ys all.1)

pub all_back : {X : Type 0} (P : X → Type 0) (xs ys : List X) → AllByRecursion P (xs ++ ys) → AllByRecursion P ys
all_back P [] ys all = all
all_back P (x ∷ xs) ys all = all_back P xs ys all.1

pub all_append : {X : Type 0} (P : X → Type 0) (xs ys : List X) → AllByRecursion P xs → AllByRecursion P ys → AllByRecursion P (xs ++ ys)
all_append P [] ys front back = back
all_append P (x ∷ xs) ys front back = (front.0, all_append P xs ys front.1 back)

-- with one element more, or less
pub all_insert : {X : Type 0} (P : X → Type 0) (xs : List X) (x : X) (ys : List X) → AllByRecursion P (xs ++ ys) → P x
    → AllByRecursion P (xs ++ x ∷ ys)
all_insert P xs x ys all here = all_append P xs (x ∷ ys) (all_front P xs ys all) (here, all_back P xs ys all)

pub all_remove : {X : Type 0} (P : X → Type 0) (xs : List X) (x : X) (ys : List X) → AllByRecursion P (xs ++ x ∷ ys)
    → AllByRecursion P (xs ++ ys)
all_remove P xs x ys all = all_append P xs ys (all_front P xs (x ∷ ys) all) (all_back P xs (x ∷ ys) all).1

pub all_here : {X : Type 0} (P : X → Type 0) (xs : List X) (x : X) (ys : List X) → AllByRecursion P (xs ++ x ∷ ys) → P x
all_here P xs x ys all = (all_back P xs (x ∷ ys) all).0

-- an element is in the list
pub is_in_first : (x : ℕ) (xs : List ℕ) → IsIn x (x ∷ xs)
is_in_first x xs = record { front = []; back = xs; is = refl }

pub is_in_rest : (x y : ℕ) (xs : List ℕ) → IsIn x xs → IsIn x (y ∷ xs)
is_in_rest x y xs is_in = record { front = y ∷ is_in.front; back = is_in.back; is = ap (λ l. y ∷ l) is_in.is }

pub is_in_between : (xs : List ℕ) (x : ℕ) (ys : List ℕ) → IsIn x (xs ++ x ∷ ys)
is_in_between xs x ys = record { front = xs; back = ys; is = refl }

is_in_cases_at : (x y : ℕ) (ys front back : List ℕ) → y ∷ ys ≡ front ++ x ∷ back → (y ≡ x) ⊎ IsIn x ys
is_in_cases_at x y ys [] back is = let here : y ≡ x = cc in inl here
is_in_cases_at x y ys (f ∷ front) back is = let rest : ys ≡ front ++ x ∷ back = cc in inr (record { front = front; back = back; is = rest })

pub is_in_cases : (x y : ℕ) (ys : List ℕ) → IsIn x (y ∷ ys) → (y ≡ x) ⊎ IsIn x ys
is_in_cases x y ys is_in = is_in_cases_at x y ys is_in.front is_in.back is_in.is

is_in_none_at : (x : ℕ) (front back : List ℕ) → [] ≡ front ++ x ∷ back → ⊥
is_in_none_at x [] back is = cc
is_in_none_at x (f ∷ front) back is = cc

pub is_in_none : (x : ℕ) → IsIn x [] → ⊥
is_in_none x is_in = is_in_none_at x is_in.front is_in.back is_in.is

pub is_in_front : (x : ℕ) (xs ys : List ℕ) → IsIn x xs → IsIn x (xs ++ ys)
is_in_front x [] ys is_in = absurd (is_in_none x is_in)
is_in_front x (y ∷ xs) ys is_in =
    ⊎_elim
    (λ (here : y ≡ x). subst (λ n. IsIn n (y ∷ (xs ++ ys))) here (is_in_first y (xs ++ ys)))
    (λ (there : IsIn x xs). is_in_rest x y (xs ++ ys) (is_in_front x xs ys there))
    (is_in_cases x y xs is_in)

pub is_in_back : (x : ℕ) (xs ys : List ℕ) → IsIn x ys → IsIn x (xs ++ ys)
is_in_back x [] ys is_in = is_in
is_in_back x (y ∷ xs) ys is_in = is_in_rest x y (xs ++ ys) (is_in_back x xs ys is_in)

pub is_in_append_cases : (x : ℕ) (xs ys : List ℕ) → IsIn x (xs ++ ys) → IsIn x xs ⊎ IsIn x ys
is_in_append_cases x [] ys is_in = inr is_in
is_in_append_cases x (y ∷ xs) ys is_in =
    ⊎_elim
    (λ (here : y ≡ x). inl (subst (λ n. IsIn n (y ∷ xs)) here (is_in_first y xs)))
    (λ (there : IsIn x (xs ++ ys)). ⊎_elim
    (λ (front : IsIn x xs). inl (is_in_rest x y xs front))
    (λ (back : IsIn x ys). inr back)
    (is_in_append_cases x xs ys there))
    (is_in_cases x y (xs ++ ys) is_in)

-- with one element more, or less
pub is_in_insert : (x : ℕ) (xs : List ℕ) (y : ℕ) (ys : List ℕ) → IsIn x (xs ++ ys) → IsIn x (xs ++ y ∷ ys)
is_in_insert x xs y ys is_in =
    ⊎_elim
    (λ (front : IsIn x xs). is_in_front x xs (y ∷ ys) front)
    (λ (back : IsIn x ys). is_in_back x xs (y ∷ ys) (is_in_rest x y ys back))
    (is_in_append_cases x xs ys is_in)

pub is_in_remove : (x : ℕ) (xs : List ℕ) (y : ℕ) (ys : List ℕ) → x ≢ y → IsIn x (xs ++ y ∷ ys) → IsIn x (xs ++ ys)
is_in_remove x xs y ys apart is_in =
    ⊎_elim
    (λ (front : IsIn x xs). is_in_front x xs ys front)
    (λ (back : IsIn x (y ∷ ys)). ⊎_elim
    (λ (here : y ≡ x). absurd (apart (sym here)))
    (λ (there : IsIn x ys). is_in_back x xs ys there)
    (is_in_cases x y ys back))
    (is_in_append_cases x xs (y ∷ ys) is_in)

-- what holds of each element holds of one that is in the list
pub all_at : (P : ℕ → Type 0) (x : ℕ) (xs : List ℕ) → AllByRecursion P xs → IsIn x xs → P x
all_at P x xs all is_in = all_here P is_in.front x is_in.back (subst (AllByRecursion P) is_in.is all)

pub all_in : (P : ℕ → Type 0) (xs : List ℕ) → ((x : ℕ) → IsIn x xs → P x) → AllByRecursion P xs
all_in P [] each = tt
all_in P (x ∷ xs) each = (each x (is_in_first x xs), all_in P xs (λ y is_in. each y (is_in_rest y x xs is_in)))

pub all_map_in : {P Q : ℕ → Type 0} → (xs : List ℕ) → ((x : ℕ) → IsIn x xs → P x → Q x) → AllByRecursion P xs → AllByRecursion Q xs
all_map_in [] f all = tt
all_map_in (x ∷ xs) f all = (f x (is_in_first x xs) all.0, all_map_in xs (λ y is_in. f y (is_in_rest y x xs is_in)) all.1)

-- what holds between each element and each later one
pub pairwise_front : {X : Type 0} (R : X → X → Type 0) (xs ys : List X) → Pairwise R (xs ++ ys) → Pairwise R xs
pairwise_front R [] ys pairs = tt
pairwise_front R (x ∷ xs) ys pairs = (all_front (R x) xs ys pairs.0, pairwise_front R xs ys pairs.1)

pub pairwise_back : {X : Type 0} (R : X → X → Type 0) (xs ys : List X) → Pairwise R (xs ++ ys) → Pairwise R ys
pairwise_back R [] ys pairs = pairs
pairwise_back R (x ∷ xs) ys pairs = pairwise_back R xs ys pairs.1

-- with one element less
pub pairwise_remove : {X : Type 0} (R : X → X → Type 0) (xs : List X) (x : X) (ys : List X) → Pairwise R (xs ++ x ∷ ys) → Pairwise R (xs ++ ys)
pairwise_remove R [] x ys pairs = pairs.1
pairwise_remove R (y ∷ xs) x ys pairs = (all_remove (R y) xs x ys pairs.0, pairwise_remove R xs x ys pairs.1)

-- what holds between the elements before one, it, and the elements behind it
pub pairwise_before : {X : Type 0} (R : X → X → Type 0) (xs : List X) (x : X) (ys : List X) → Pairwise R (xs ++ x ∷ ys)
    → AllByRecursion (λ y. R y x) xs
pairwise_before R [] x ys pairs = tt
pairwise_before R (y ∷ xs) x ys pairs = (all_here (R y) xs x ys pairs.0, pairwise_before R xs x ys pairs.1)

pub pairwise_behind : {X : Type 0} (R : X → X → Type 0) (xs : List X) (x : X) (ys : List X) → Pairwise R (xs ++ x ∷ ys) → AllByRecursion (R x) ys
pairwise_behind R xs x ys pairs = (pairwise_back R xs (x ∷ ys) pairs).0

-- with one element more
pub pairwise_insert : {X : Type 0} (R : X → X → Type 0) (xs : List X) (x : X) (ys : List X) → Pairwise R (xs ++ ys)
    → AllByRecursion (λ y. R y x) xs → AllByRecursion (R x) ys → Pairwise R (xs ++ x ∷ ys)
pairwise_insert R [] x ys pairs before behind = (behind, pairs)
pairwise_insert R (y ∷ xs) x ys pairs before behind =
    (all_insert (R y) xs x ys pairs.0 before.0, pairwise_insert R xs x ys pairs.1 before.1 behind)

-- another relation between the same elements
pub pairwise_map_in : {R S : ℕ → ℕ → Type 0} → (xs : List ℕ) → ((x y : ℕ) → IsIn x xs → IsIn y xs → R x y → S x y) → Pairwise R xs
    → Pairwise S xs
pairwise_map_in [] f pairs = tt
pairwise_map_in (x ∷ xs) f pairs = (
  all_map_in xs (λ y is_in. f x y (is_in_first x xs) (is_in_rest y x xs is_in)) pairs.0,
  pairwise_map_in xs (λ y z first second. f y z (is_in_rest y x xs first) (is_in_rest z x xs second)) pairs.1,
)
