-- Spellings that are appended one after another.
use Rattle.std.proofs.Common.{◌≡◌, ℕ, ◌+◌, List, [], ◌∷◌, ◌++◌, length, take, slice_get, Some}
use Rattle.std.proofs.Common.{All, refl, sym, ap, subst, ◌∙◌}
use Rattle.std.specs.List.{flat_map}
use Rattle.std.proofs.lemmas.List.{take_more, flat_map_more, length-append}
use Rattle.std.proofs.lemmas.List.Elements.{All-push}
use Rattle.std.proofs.lemmas.Option.{get_or_from_slice_get, slice_get_within}

-- the first values, and the one at the next index
pub take_with_next_value : {A : Type 0} (xs : List A) (i : ℕ) (x : A) → slice_get xs i ≡ Some x → take (i + 1) xs ≡ take i xs ++ x ∷ []
take_with_next_value {A = A} xs i x got =
    take_more xs i x (slice_get_within xs i x got)
    ∙ ap (λ (y : A). take i xs ++ y ∷ []) (get_or_from_slice_get xs i x x got)

-- the spelling of one more value is appended
pub spelling_of_next_value : {A : Type 0} (spell : A → List ℕ) (old out new : List ℕ) (xs : List A) (i : ℕ) (x : A)
    → slice_get xs i ≡ Some x → out ≡ old ++ flat_map spell (take i xs) → new ≡ out ++ spell x
    → new ≡ old ++ flat_map spell (take (i + 1) xs)
spelling_of_next_value {A = A} spell old out new xs i x got so_far is =
    is ∙ ap (λ (l : List ℕ). l ++ spell x) so_far ∙ flat_map_more spell old (take i xs) x
    ∙ ap (λ (l : List A). old ++ flat_map spell l) (sym (take_with_next_value xs i x got))

-- what holds of the first values, and of the one at the next index
pub all_with_next_value : {A : Type 0} (P : A → Type 0) (xs : List A) (i : ℕ) (x : A)
    → slice_get xs i ≡ Some x → All P (take i xs) → P x → All P (take (i + 1) xs)
all_with_next_value {A = A} P xs i x got before here =
    subst (λ (l : List A). All P l) (sym (take_with_next_value xs i x got)) (All-push P (take i xs) x before here)

-- the length of the spellings, with one more
pub length_with_next_value : {A : Type 0} (spell : A → List ℕ) (xs : List A) (i : ℕ) (x : A) → slice_get xs i ≡ Some x
    → length (flat_map spell (take (i + 1) xs)) ≡ length (flat_map spell (take i xs)) + length (spell x)
length_with_next_value {A = A} spell xs i x got =
    let more = spelling_of_next_value spell [] (flat_map spell (take i xs)) (flat_map spell (take i xs) ++ spell x) xs i x got refl refl in
    sym (ap length more) ∙ length-append (flat_map spell (take i xs)) (spell x)
