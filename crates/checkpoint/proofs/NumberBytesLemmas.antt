-- Numbers that are read from bytes, and spelled again.
use Rattle.std.proofs.Common.{◌≡◌, ℕ, ◌<◌, ◌≤◌, List, ◌++◌, length, take, drop, get_or, sym, ap, ◌∙◌, arith, inl, inr}
use Rattle.std.specs.Int.{w32, w64, from_be_bytes}
use Rattle.std.proofs.lemmas.Bool.{cases_lt}
use Rattle.std.proofs.lemmas.List.{take-append-drop, length-take, get_or-take, get_or_past}
use Rattle.std.proofs.lemmas.Nat.{be_bytes_4, be_bytes_8}
use Rattle.byteorder.specs.Endian.{big_from}
use Rattle.byteorder.specs.Numbers.{length-bytes_high_first}
use Rattle.checkpoint.specs.Numbers.{number_bytes}

-- a list of numbers below 256
abbrev pub AreNumberBytes : List ℕ → Type 0
AreNumberBytes bytes = (i : ℕ) → get_or bytes i 0 < 256

AreNumberBytes-take : (n : ℕ) (bytes : List ℕ) → AreNumberBytes bytes → AreNumberBytes (take n bytes)
AreNumberBytes-take n bytes are i =
    elim (cases_lt i n) [
      | inl lt ↦ rw (get_or-take n bytes i 0 lt) (are i)
      | inr le ↦ rw (get_or_past (take n bytes) i 0 (omega (arith, length-take n bytes))) (omega arith)
    ]

-- numbers have as many bytes as is asked
pub length-number_bytes : (count number : ℕ) → length (number_bytes count number) ≡ count
unfolding number_bytes
length-number_bytes count number = length-bytes_high_first count number

-- the number in the first 8 bytes is spelled by them
pub number_bytes_in_front : (bytes front rest : List ℕ) (number : ℕ) → AreNumberBytes bytes → 8 ≤ length bytes
    → front ≡ take 8 bytes → rest ≡ drop 8 bytes → number ≡ big_from 0 8 front → bytes ≡ number_bytes 8 number ++ rest
unfolding number_bytes
number_bytes_in_front bytes front rest number are long is_front is_rest is =
    let read : number ≡ from_be_bytes w64 (take 8 bytes) = is ∙ ap (λ (l : List ℕ). big_from 0 8 l) is_front ∙ omega arith in
    let spelled : number_bytes 8 number ≡ take 8 bytes =
    be_bytes_8 (take 8 bytes) number (omega (arith, length-take 8 bytes)) (AreNumberBytes-take 8 bytes are) read in
    sym (take-append-drop 8 bytes) ∙ ap (λ (l : List ℕ). l ++ drop 8 bytes) (sym spelled)
    ∙ ap (λ (l : List ℕ). number_bytes 8 number ++ l) (sym is_rest)

-- the number in the first 4 bytes is spelled by them
pub number_bytes_of_count : (bytes front rest : List ℕ) (number : ℕ) → AreNumberBytes bytes → 4 ≤ length bytes
    → front ≡ take 4 bytes → rest ≡ drop 4 bytes → number ≡ big_from 0 4 front → bytes ≡ number_bytes 4 number ++ rest
unfolding number_bytes
number_bytes_of_count bytes front rest number are long is_front is_rest is =
    let read : number ≡ from_be_bytes w32 (take 4 bytes) = is ∙ ap (λ (l : List ℕ). big_from 0 4 l) is_front ∙ omega arith in
    let spelled : number_bytes 4 number ≡ take 4 bytes =
    be_bytes_4 (take 4 bytes) number (omega (arith, length-take 4 bytes)) (AreNumberBytes-take 4 bytes are) read in
    sym (take-append-drop 4 bytes) ∙ ap (λ (l : List ℕ). l ++ drop 4 bytes) (sym spelled)
    ∙ ap (λ (l : List ℕ). number_bytes 4 number ++ l) (sym is_rest)
