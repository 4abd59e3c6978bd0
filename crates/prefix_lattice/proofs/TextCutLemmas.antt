-- A text cut at a byte.
use Rattle.std.proofs.Common.{◌≡◌, ℕ, ◌+◌, ◌^◌, ◌<◌, eqb, false, zero, suc, Some, position, List, [], ◌∷◌, ◌++◌}
use Rattle.std.proofs.Common.{length, take, drop, get_or, decimal, refl, sym, ap, ◌∙◌, arith, take-append-drop}
use Rattle.std.proofs.Common.{drop-cons, length-append, append_assoc}
use Rattle.std.specs.List.{before_first, after_first, position_or_len}
use Rattle.std.proofs.Math.Seq.{take-append_seam, get_or-append_seam}
use Rattle.std.proofs.Math.ListN.{get_or-append}
use Rattle.std.proofs.lemmas.Bool.{eqb-true, eq-eqb, ne_eqb}
use Rattle.std.proofs.lemmas.List.{drop-drop, drop_at, append_cancel_left}
use Rattle.std.proofs.lemmas.List.Sums.{position_or_len_is}
use Rattle.std.proofs.lemmas.List.Quantifiers.{position-Some}
use Rattle.std.proofs.lemmas.Fmt.{decimal_is_IsNumeral, decimal_injective}
use Rattle.std.proofs.lemmas.Str.Parse.{digit_at}

-- no byte of the text is this one
pub record TextLacksCutByte (byte : ℕ) (text : List ℕ) : Type 0 where
  pub each : (place : ℕ) → place < length text → eqb (get_or text place 0) byte ≡ false

-- a text is the part before the first such byte, the byte and the part after it
pub text_cut-joined : (byte place : ℕ) (text : List ℕ) → position (λ b. eqb b byte) text ≡ Some place
    → text ≡ take place text ++ byte ∷ drop 1 (drop place text)
text_cut-joined byte place text found =
    let at = position-Some (λ b. eqb b byte) text place 0 found in
    let byte_is : get_or text place 0 ≡ byte = eqb-true (get_or text place 0) byte at.1 in
    let within : place < length text = at.0 in
    let one_more : suc place ≡ place + 1 = omega arith in
    let behind : drop (suc place) text ≡ drop 1 (drop place text) =
    ap (λ k. drop k text) one_more ∙ sym (drop-drop 1 place text) in
    sym (take-append-drop place text)
    ∙ ap (λ l. take place text ++ l)
    (drop-cons text place 0 within ∙ ap (λ b. b ∷ drop (suc place) text) byte_is ∙ ap (λ l. byte ∷ l) behind)

-- the first such byte of a text is the one that follows a front that lacks it
first_text_cut-place : (byte : ℕ) (front rest : List ℕ) → TextLacksCutByte byte front
    → position_or_len (λ b. eqb b byte) (front ++ byte ∷ rest) ≡ length front
first_text_cut-place byte front rest lacks =
    position_or_len_is (λ b. eqb b byte) (front ++ byte ∷ rest) (length front) 0
    (omega (arith, length-append front (byte ∷ rest)))
    (λ k before. ap (λ b. eqb b byte) (get_or-append front (byte ∷ rest) 0 k before) ∙ lacks.each k before)
    (λ _. ap (λ b. eqb b byte) (get_or-append_seam front byte rest 0) ∙ eq-eqb byte byte refl)

-- the part before it is that front
pub first_text_cut : (byte : ℕ) (front rest : List ℕ) → TextLacksCutByte byte front
    → before_first (λ b. eqb b byte) (front ++ byte ∷ rest) ≡ front
first_text_cut byte front rest lacks =
    ap (λ k. take k (front ++ byte ∷ rest)) (first_text_cut-place byte front rest lacks) ∙ take-append_seam front (byte ∷ rest)

-- and the part after it is the rest
pub first_text_cut_behind : (byte : ℕ) (front rest : List ℕ) → TextLacksCutByte byte front
    → after_first (λ b. eqb b byte) (front ++ byte ∷ rest) ≡ rest
first_text_cut_behind byte front rest lacks =
    let place : position_or_len (λ b. eqb b byte) (front ++ byte ∷ rest) + 1 ≡ length (front ++ byte ∷ []) =
    omega (arith, first_text_cut-place byte front rest lacks, length-append front (byte ∷ [])) in
    ap (λ k. drop k (front ++ byte ∷ rest)) place
    ∙ ap (drop (length (front ++ byte ∷ []))) (sym (append_assoc front (byte ∷ []) rest))
    ∙ drop_at (front ++ byte ∷ []) rest (length (front ++ byte ∷ [])) refl

-- there is only one way to cut a text at its first such byte
pub same_text_cut : (byte : ℕ) (text before after front rest : List ℕ) → before ≡ before_first (λ b. eqb b byte) text
    → text ≡ before ++ byte ∷ after
    → text ≡ front ++ byte ∷ rest → TextLacksCutByte byte front → (before ≡ front) × (after ≡ rest)
same_text_cut byte text before after front rest is_before joined spelled lacks =
    let same_front : before ≡ front =
    is_before ∙ ap (before_first (λ b. eqb b byte)) spelled ∙ first_text_cut byte front rest lacks in
    let same_rest : front ++ byte ∷ after ≡ front ++ byte ∷ rest =
    ap (λ l. l ++ byte ∷ after) (sym same_front) ∙ sym joined ∙ spelled in
    let text_cut-same_behind : byte ∷ after ≡ byte ∷ rest = append_cancel_left front (byte ∷ after) (byte ∷ rest) same_rest in
    (same_front, cc)

-- a text that isn't cut has no such byte
pub no_text_cut : (byte : ℕ) (text front rest : List ℕ) → before_first (λ b. eqb b byte) text ≡ text
    → text ≡ front ++ byte ∷ rest → TextLacksCutByte byte front → ⊥
no_text_cut byte text front rest whole spelled lacks =
    let same_front : text ≡ front =
    sym whole ∙ ap (before_first (λ b. eqb b byte)) spelled ∙ first_text_cut byte front rest lacks in
    absurd (omega (arith, ap length same_front, ap length spelled, length-append front (byte ∷ rest)))

-- a number in decimal consists of digits only
pub decimal_lacks_text_cut : (byte number : ℕ) → byte < 48 → number < 2 ^ 64 → TextLacksCutByte byte (decimal number)
decimal_lacks_text_cut byte number low small = record {
  each = λ place within. ne_eqb (get_or (decimal number) place 0) byte
      (λ same. let digit = digit_at (decimal number) place (decimal_is_IsNumeral number small).0.1 within in
      omega (arith, digit.0, same, low));
}

-- a text spells at most one number
pub cut_text-tells_number : (text : List ℕ) (number other : ℕ) → number < 2 ^ 64 → other < 2 ^ 64 → text ≡ decimal number
    → text ≡ decimal other → number ≡ other
cut_text-tells_number text number other small other_small spelled other_spelled =
    decimal_injective number other small other_small (sym spelled ∙ other_spelled)

-- the next number of a text whose numbers are joined by dots
pub text_cut-next_number : (text before after rest : List ℕ) (number : ℕ) → number < 256
    → before ≡ before_first (λ b. eqb b 46) text → text ≡ before ++ 46 ∷ after
    → text ≡ decimal number ++ 46 ∷ rest → (before ≡ decimal number) × (after ≡ rest)
text_cut-next_number text before after rest number small is_before joined spelled =
    same_text_cut 46 text before after (decimal number) rest is_before joined spelled
    (decimal_lacks_text_cut 46 number (omega arith) (omega arith))

-- a text with no dot isn't such a text
pub text_cut-no_next_number : (text rest : List ℕ) (number : ℕ) → number < 256 → before_first (λ b. eqb b 46) text ≡ text
    → text ≡ decimal number ++ 46 ∷ rest → ⊥
text_cut-no_next_number text rest number small whole spelled =
    no_text_cut 46 text (decimal number) rest whole spelled (decimal_lacks_text_cut 46 number (omega arith) (omega arith))

pub lacks_text_cut-cons : (byte first : ℕ) (rest : List ℕ) → eqb first byte ≡ false → TextLacksCutByte byte rest → TextLacksCutByte byte (first ∷ rest)
lacks_text_cut-cons byte first rest other lacks = record { each = lacks_at byte first rest other lacks }
  where
    lacks_at : (byte first : ℕ) (rest : List ℕ) → eqb first byte ≡ false → TextLacksCutByte byte rest → (place : ℕ)
        → place < length (first ∷ rest) → eqb (get_or (first ∷ rest) place 0) byte ≡ false
    lacks_at byte first rest other lacks zero within = other
    lacks_at byte first rest other lacks (suc place) within = lacks.each place (omega arith)

pub lacks_text_cut-append : (byte : ℕ) (front rest : List ℕ) → TextLacksCutByte byte front → TextLacksCutByte byte rest → TextLacksCutByte byte (front ++ rest)
lacks_text_cut-append byte [] rest front_lacks lacks = lacks
lacks_text_cut-append byte (first ∷ front) rest front_lacks lacks =
    lacks_text_cut-cons byte first (front ++ rest) (front_lacks.each 0 (omega arith))
    (lacks_text_cut-append byte front rest (record { each = λ place within. front_lacks.each (suc place) (omega arith) }) lacks)

-- two splits of a text with the same front and the same byte have the same rest
pub text_cut-same_behind : (byte : ℕ) (text front after rest : List ℕ) → text ≡ front ++ byte ∷ after
    → text ≡ front ++ byte ∷ rest → after ≡ rest
text_cut-same_behind byte text front after rest spelled respelled =
    let both : byte ∷ after ≡ byte ∷ rest =
    append_cancel_left front (byte ∷ after) (byte ∷ rest) (sym spelled ∙ respelled) in
    cc
