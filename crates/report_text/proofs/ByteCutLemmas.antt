-- Texts cut at the first such byte.
use Rattle.std.proofs.Common.{◌≡◌, ℕ, ◌+◌, ◌<◌, ◌≤◌, eqb, ltb, Bool, false, true, cond, zero, suc, Some, None, inl, inr}
use Rattle.std.proofs.Common.{position, List, [], ◌∷◌, ◌++◌, length, take, drop, get_or, refl, sym, ap, ◌∙◌, arith}
use Rattle.std.proofs.Common.{take-append-drop, drop-cons, take_all}
use Rattle.std.specs.List.{position_or_len, AllByRecursion}
use Rattle.std.proofs.lemmas.Bool.{eqb-true, lt-ltb, cases_lt}
use Rattle.std.proofs.lemmas.List.{drop-drop}
use Rattle.std.proofs.lemmas.List.Sums.{fails_before_first}
use Rattle.std.proofs.lemmas.List.Quantifiers.{position-Some}
use Rattle.std.proofs.lemmas.List.Splits.{slice_split_at, slice_split_none}
use Rattle.std.proofs.lemmas.List.Elements.{All-from_recursion}
use Rattle.report_text.specs.Stages.{words_in}

-- no byte of the text is this one
abbrev pub LacksCutByte : ℕ → List ℕ → Type 0
LacksCutByte byte text = AllByRecursion (λ b. eqb b byte ≡ false) text

-- a text is what comes before such a byte, the byte and what comes after it
pub record IsByteCut (byte at : ℕ) (text : List ℕ) : Type 0 where
  pub within : at < length text
  pub joined : text ≡ take at text ++ byte ∷ drop 1 (drop at text)
  pub lacks : LacksCutByte byte (take at text)

LacksCutByte-take : (byte : ℕ) (text : List ℕ) (count : ℕ) → ((k : ℕ) → k < count → eqb (get_or text k 0) byte ≡ false)
    → count ≤ length text → LacksCutByte byte (take count text)
LacksCutByte-take byte text zero none within = tt
LacksCutByte-take byte [] (suc count) none within = tt
LacksCutByte-take byte (b ∷ text) (suc count) none within =
    (none 0 (omega arith), LacksCutByte-take byte text count (λ k less. none (suc k) (omega arith)) (omega arith))

-- the first such byte cuts the text
pub byte_cut_at_first : (byte at : ℕ) (text : List ℕ) → position (λ b. eqb b byte) text ≡ Some at
    → IsByteCut byte at text
byte_cut_at_first byte at text found =
    let place = position-Some (λ b. eqb b byte) text at 0 found in
    let is : get_or text at 0 ≡ byte = eqb-true (get_or text at 0) byte place.1 in
    let within : at < length text = place.0 in
    let one_more : suc at ≡ at + 1 = omega arith in
    let behind : drop (suc at) text ≡ drop 1 (drop at text) =
    ap (λ k. drop k text) one_more ∙ sym (drop-drop 1 at text) in
    record {
      within = within;
      joined =
          sym (take-append-drop at text)
          ∙ ap (λ l. take at text ++ l)
          (drop-cons text at 0 within ∙ ap (λ b. b ∷ drop (suc at) text) is ∙ ap (λ l. byte ∷ l) behind);
      lacks = LacksCutByte-take byte text at place.2 (omega arith);
    }

byte_cut_is_found : (place : ℕ) (b : Bool) → b ≡ true → cond b (Some place) None ≡ None → ⊥
byte_cut_is_found place b is_true is_none =
    let found : Some place ≡ None = ap (λ t. cond t (Some place) None) (sym is_true) ∙ is_none in cc

-- where there is none, the text lacks it
pub no_byte_cut : (byte : ℕ) (text : List ℕ) → position (λ b. eqb b byte) text ≡ None → LacksCutByte byte text
no_byte_cut byte text none =
    let all = LacksCutByte-take byte text (length text) each (omega arith) in
    rw (take_all (length text) text (omega arith)) at all
  where
    each : (k : ℕ) → k < length text → eqb (get_or text k 0) byte ≡ false
    each k less = elim (cases_lt (position_or_len (λ b. eqb b byte) text) (length text)) [
      | inl within ↦
          let found : ltb (position_or_len (λ b. eqb b byte) text) (length text) ≡ true = lt-ltb _ _ within in
          absurd (byte_cut_is_found (position_or_len (λ b. eqb b byte) text) (ltb (position_or_len (λ b. eqb b byte) text)
          (length text)) found none)
      | inr past ↦ fails_before_first (λ b. eqb b byte) text k 0 (omega arith)
    ]

-- a text cut at its first space
pub words_at_byte_cut : (at : ℕ) (text : List ℕ) → position (λ b. eqb b 32) text ≡ Some at
    → words_in text ≡ take at text ∷ words_in (drop 1 (drop at text))
words_at_byte_cut at text found =
    let cut = byte_cut_at_first 32 at text found in
    ap words_in cut.joined
    ∙ slice_split_at (λ b. eqb b 32) (take at text) 32 (drop 1 (drop at text))
    (All-from_recursion (λ b. eqb b 32 ≡ false) (take at text) cut.lacks) refl

-- a text without a space
pub words_without_byte_cut : (text : List ℕ) → position (λ b. eqb b 32) text ≡ None → words_in text ≡ text ∷ []
words_without_byte_cut text none =
    slice_split_none (λ b. eqb b 32) text (All-from_recursion (λ b. eqb b 32 ≡ false) text (no_byte_cut 32 text none))
