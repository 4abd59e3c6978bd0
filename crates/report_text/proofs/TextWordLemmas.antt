-- Words and the bytes that end them.
use Rattle.std.proofs.Common.{◌≡◌, ℕ, ◌+◌, ◌/◌, ◌%◌, ◌^◌, ◌<◌, ◌≤◌, List, [], ◌∷◌, ◌++◌, length, get_or, drop}
use Rattle.std.proofs.Common.{zero, suc, ◌==◌, Bool, true, false, decimal, refl, sym, subst, ap, ◌∙◌, arith, append_assoc}
use Rattle.std.specs.Prelude.{if◌then◌else◌}
use Rattle.std.specs.Fmt.{digit_glyph, digits, digits_onto}
use Rattle.std.specs.List.{flat_map, AllByRecursion}
use Rattle.std.proofs.lemmas.Bool.{lt-ltb}
use Rattle.std.proofs.lemmas.Fmt.{decimal_injective}
use Rattle.prefix_lattice.specs.{address_of, address_text, side_text}
use Rattle.report_text.proofs.TextPartLemmas.{spaced_text_part}

-- each byte is 46 or more, as are the dot, the slash and the digits, but not the space and the line feed
abbrev pub IsTextWord : List ℕ → Type 0
IsTextWord word = AllByRecursion (λ byte. 46 ≤ byte) word

-- what follows a word begins with no byte of a word
abbrev pub EndsTextWord : List ℕ → Type 0
EndsTextWord rest = get_or rest 0 0 < 46

-- texts that begin with different bytes differ
pub text_words_begin_unlike : (byte another : ℕ) (rest other : List ℕ) → byte < another
    → byte ∷ rest ≡ another ∷ other → ⊥
text_words_begin_unlike byte another rest other below same =
    let head : byte ≡ another = ap (λ l. get_or l 0 0) same in
    omega arith

-- a word, and what follows its end, are determined
pub text_words_told_apart : (word another rest other : List ℕ) → IsTextWord word → IsTextWord another
    → EndsTextWord rest → EndsTextWord other
    → word ++ rest ≡ another ++ other → (word ≡ another) × (rest ≡ other)
text_words_told_apart [] [] rest other is another_is ends other_ends same = (refl, same)
text_words_told_apart [] (byte ∷ another) rest other is another_is ends other_ends same =
    let head : get_or rest 0 0 ≡ byte = ap (λ l. get_or l 0 0) same in
    let great : 46 ≤ byte = another_is.0 in
    absurd (omega arith)
text_words_told_apart (byte ∷ word) [] rest other is another_is ends other_ends same =
    let head : byte ≡ get_or other 0 0 = ap (λ l. get_or l 0 0) same in
    let great : 46 ≤ byte = is.0 in
    absurd (omega arith)
text_words_told_apart (byte ∷ word) (first ∷ another) rest other is another_is ends other_ends same =
    let head : byte ≡ first = ap (λ l. get_or l 0 0) same in
    let both = text_words_told_apart word another rest other is.1 another_is.1 ends other_ends (ap (drop 1) same) in
    (ap (λ b. b ∷ word) head ∙ ap (λ l. first ∷ l) both.0, both.1)

IsTextWord-append : (word another : List ℕ) → IsTextWord word → IsTextWord another → IsTextWord (word ++ another)
IsTextWord-append [] another is another_is = another_is
IsTextWord-append (byte ∷ word) another is another_is = (is.0, IsTextWord-append word another is.1 another_is)

text_word_of_either : (b : Bool) (word another : List ℕ) → IsTextWord word → IsTextWord another
    → IsTextWord (if b then word else another)
text_word_of_either true word another is another_is = is
text_word_of_either false word another is another_is = another_is

text_word_digit : (digit : ℕ) → digit < 10 → 46 ≤ digit_glyph false digit
text_word_digit digit below =
    subst (λ b. 46 ≤ (if b then 48 + digit else 87 + digit)) (sym (lt-ltb digit 10 below)) (omega arith)

text_word_digits : (count number : ℕ) (word : List ℕ) → IsTextWord word
    → IsTextWord (digits_onto count 10 false number word)
text_word_digits zero number word is = is
text_word_digits (suc count) number word is =
    let longer : List ℕ = digit_glyph false (number % 10) ∷ word in
    let more : IsTextWord longer = (text_word_digit (number % 10) (omega arith), is) in
    text_word_of_either (number / 10 == 0) longer (digits_onto count 10 false (number / 10) longer) more
    (text_word_digits count (number / 10) longer more)

-- a number is a word
pub decimal_is_text_word : (number : ℕ) → IsTextWord (decimal number)
unfolding digits
decimal_is_text_word number = text_word_digits 64 number [] tt

-- a number, and what follows it, are determined
pub text_word_numbers_apart : (number another : ℕ) (rest other : List ℕ) → number < 2 ^ 64 → another < 2 ^ 64
    → EndsTextWord rest
    → EndsTextWord other
    → decimal number ++ rest ≡ decimal another ++ other → (number ≡ another) × (rest ≡ other)
text_word_numbers_apart number another rest other small another_small ends other_ends same =
    let both =
    text_words_told_apart (decimal number) (decimal another) rest other (decimal_is_text_word number)
    (decimal_is_text_word another) ends other_ends same in
    (decimal_injective number another small another_small both.0, both.1)

address_is_text_word : (address : ℕ) → IsTextWord (address_text address)
address_is_text_word address =
    let a = address / 256 / 256 / 256 % 256 in
    let b = address / 256 / 256 % 256 in
    let c = address / 256 % 256 in
    let d = address % 256 in
    let behind : (word : List ℕ) → IsTextWord word → IsTextWord (46 ∷ word) = λ word is. (omega arith, is) in
    IsTextWord-append (decimal a) (46 ∷ (decimal b ++ 46 ∷ (decimal c ++ 46 ∷ decimal d))) (decimal_is_text_word a)
    (behind _
    (IsTextWord-append (decimal b) (46 ∷ (decimal c ++ 46 ∷ decimal d)) (decimal_is_text_word b) (behind _
    (IsTextWord-append (decimal c) (46 ∷ decimal d) (decimal_is_text_word c)
    (behind _ (decimal_is_text_word d))))))

-- a side of a prefix is a word
pub side_is_text_word : (front : List ℕ) → IsTextWord (side_text front)
side_is_text_word front =
    IsTextWord-append (address_text (address_of front)) (47 ∷ decimal (length front)) (address_is_text_word (address_of front))
    (omega arith, decimal_is_text_word (length front))

-- positions before a line feed end a word
positions_end_text_word : (numbers rest : List ℕ) → EndsTextWord (flat_map spaced_text_part numbers ++ 10 ∷ rest)
positions_end_text_word [] rest = omega arith
positions_end_text_word (number ∷ numbers) rest = omega arith

-- positions before a line feed, and what follows it, are determined
pub text_word_positions_apart : (numbers others rest other : List ℕ) → AllByRecursion (λ n. n < 2 ^ 64) numbers
    → AllByRecursion (λ n. n < 2 ^ 64) others
    → flat_map spaced_text_part numbers ++ 10 ∷ rest ≡ flat_map spaced_text_part others ++ 10 ∷ other
    → (numbers ≡ others) × (rest ≡ other)
text_word_positions_apart [] [] rest other small others_small same = (refl, ap (drop 1) same)
text_word_positions_apart [] (n ∷ others) rest other small others_small same = absurd (text_words_begin_unlike 10 32 rest _ (omega arith) same)
text_word_positions_apart (m ∷ numbers) [] rest other small others_small same =
    absurd (text_words_begin_unlike 10 32 other _ (omega arith) (sym same))
text_word_positions_apart (m ∷ numbers) (n ∷ others) rest other small others_small same =
    let behind : decimal m ++ (flat_map spaced_text_part numbers ++ 10 ∷ rest)
    ≡ decimal n ++ (flat_map spaced_text_part others ++ 10 ∷ other) =
    sym (append_assoc (decimal m) (flat_map spaced_text_part numbers) (10 ∷ rest)) ∙ ap (drop 1) same
    ∙ append_assoc (decimal n) (flat_map spaced_text_part others) (10 ∷ other) in
    let first =
    text_word_numbers_apart m n _ _ small.0 others_small.0 (positions_end_text_word numbers rest) (positions_end_text_word others other)
    behind in
    let others_same = text_word_positions_apart numbers others rest other small.1 others_small.1 first.1 in
    (ap (λ k. k ∷ numbers) first.0 ∙ ap (λ l. n ∷ l) others_same.0, others_same.1)
