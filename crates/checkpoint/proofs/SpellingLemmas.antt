-- Spellings of which none begins another: of numbers, of lists, and of the parts of a body.
use Rattle.std.proofs.Common.{◌≡◌, ℕ, ◌^◌, ◌<◌, List, [], ◌∷◌, ◌++◌, length, take}
use Rattle.std.proofs.Common.{drop, All, refl, sym, ap, ◌∙◌, append_assoc, arith}
use Rattle.std.specs.List.{flat_map}
use Rattle.std.specs.Int.{bytes_high_first}
use Rattle.std.proofs.lemmas.List.{take_at, drop_at}
use Rattle.std.proofs.lemmas.List.Elements.{All-head, All-tail}
use Rattle.std.proofs.lemmas.List.Concat.{flat_map-cons}
use Rattle.byteorder.specs.Numbers.{length-bytes_high_first, big_number-reads_back}
use Rattle.byteorder.specs.Endian.{big_from}
use Rattle.checkpoint.specs.Numbers.{number_bytes}

-- no spelling of a value that fits begins that of another, and each spells one value
abbrev pub SpellingsAreApart : {A : Type 0} → (A → List ℕ) → (A → Type 0) → Type 0
SpellingsAreApart {A = A} spell Fits =
    (x y : A) (r s : List ℕ) → Fits x → Fits y → spell x ++ r ≡ spell y ++ s → (x ≡ y) × (r ≡ s)

-- fronts of equal length are equal
pub spelling_front_is_same : (xs ys r s : List ℕ) → length xs ≡ length ys → xs ++ r ≡ ys ++ s → (xs ≡ ys) × (r ≡ s)
spelling_front_is_same xs ys r s long same = (
  sym (take_at xs r (length xs) refl) ∙ ap (take (length xs)) same ∙ take_at ys s (length xs) (sym long),
  sym (drop_at xs r (length xs) refl) ∙ ap (drop (length xs)) same ∙ drop_at ys s (length xs) (sym long),
)

-- the spellings of numbers
pub spellings_in_bytes_are_apart : (count : ℕ) → SpellingsAreApart (number_bytes count) (λ number. number < 256 ^ count)
unfolding number_bytes
spellings_in_bytes_are_apart count x y r s fits_x fits_y same =
    let front = spelling_front_is_same (bytes_high_first count x) (bytes_high_first count y) r s
    (length-bytes_high_first count x ∙ sym (length-bytes_high_first count y)) same in (
      sym (big_number-reads_back count x r fits_x) ∙ ap (big_from 0 count) same ∙ big_number-reads_back count y s fits_y,
      front.1,
    )

-- the first value of a list, and what follows it
pub spelling_starts_with_first : {A : Type 0} (spell : A → List ℕ) (x : A) (xs : List A) (r : List ℕ)
    → flat_map spell (x ∷ xs) ++ r ≡ spell x ++ (flat_map spell xs ++ r)
spelling_starts_with_first spell x xs r = ap (λ (l : List ℕ). l ++ r) (flat_map-cons spell x xs) ∙ append_assoc (spell x) (flat_map spell xs) r

-- lists of equal length
pub joined_spellings_are_apart : {A : Type 0} (spell : A → List ℕ) (Fits : A → Type 0) → SpellingsAreApart spell Fits
    → (xs ys : List A) (r s : List ℕ) → length xs ≡ length ys → All Fits xs → All Fits ys
    → flat_map spell xs ++ r ≡ flat_map spell ys ++ s → (xs ≡ ys) × (r ≡ s)
joined_spellings_are_apart spell Fits apart [] [] r s long fit_x fit_y same = (refl, same)
joined_spellings_are_apart spell Fits apart [] (y ∷ ys) r s long fit_x fit_y same = absurd (omega (arith, long))
joined_spellings_are_apart spell Fits apart (x ∷ xs) [] r s long fit_x fit_y same = absurd (omega (arith, long))
joined_spellings_are_apart {A = A} spell Fits apart (x ∷ xs) (y ∷ ys) r s long fit_x fit_y same =
    let grouped : spell x ++ (flat_map spell xs ++ r) ≡ spell y ++ (flat_map spell ys ++ s) =
    sym (spelling_starts_with_first spell x xs r) ∙ same ∙ spelling_starts_with_first spell y ys s in
    let heads = apart x y (flat_map spell xs ++ r) (flat_map spell ys ++ s)
    (All-head Fits x xs fit_x) (All-head Fits y ys fit_y) grouped in
    let tails = joined_spellings_are_apart spell Fits apart xs ys r s (omega (arith, long)) (All-tail Fits x xs fit_x) (All-tail Fits y ys fit_y) heads.1 in
    (ap (λ (h : A). h ∷ xs) heads.0 ∙ ap (λ (t : List A). y ∷ t) tails.0, tails.1)
