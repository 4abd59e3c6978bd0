-- The first words of lines, and the numbers after them.
use Rattle.std.proofs.Common.{◌≡◌, ◌≢◌, ℕ, ◌≤◌, Bool, eqb, true, false, List, [], ◌∷◌, ◌++◌, map, length}
use Rattle.std.proofs.Common.{Option, None, Some, IfSome, sym, ◌∙◌, subst}
use Rattle.std.specs.Option.{MatchOption, IsSomeAnd}
use Rattle.std.proofs.Common.{drop, codes, decimal, ap, arith}
use Rattle.std.specs.List.{AllByRecursion}
use Rattle.std.specs.Cmp.Lexicographic.{pointwise}
use Rattle.std.proofs.lemmas.Bool.{both_ways}
use Rattle.std.proofs.lemmas.Bool.Decides.{Decides-eqb}
use Rattle.std.proofs.lemmas.Slice.Eq.{slice_eq-Decides}
use Rattle.std.proofs.lemmas.List.Splits.{length-slice_split}
use Rattle.std.proofs.lemmas.List.Elements.{recursion_from_All}
use Rattle.prefix_lattice.specs.declared.grain.Grain.{Grain}
use Rattle.report_text.specs.Printing.{ShowsPositions}
use Rattle.report_text.specs.Session.{IsSessionLine, line_words}
use Rattle.report_text.specs.Stages.{words_in}
use Rattle.report_text.specs.declared.session_line.SessionLine.{SessionLine}
use Rattle.report_text.specs.declared.session_line.SessionLine.TheVariants.{Opened, Report, At, Total, Threshold, Line}
use Rattle.report_text.specs.declared.session_line.SessionLine.TheVariants.{Done, Saved, Frames, Skipped, Cut, End}

-- texts that are unequal by a test differ
pub named_line_texts_unlike : (text other : List ℕ) (b : Bool) → b ≡ pointwise eqb text other → b ≡ false → text ≢ other
named_line_texts_unlike text other b tested is_false same =
    both_ways b is_false ((slice_eq-Decides Decides-eqb text other b tested).1 same)

-- and texts that are equal by a test are the same
named_line_texts_alike : (text other : List ℕ) (b : Bool) → b ≡ pointwise eqb text other → b ≡ true → text ≡ other
named_line_texts_alike text other b tested is_true = (slice_eq-Decides Decides-eqb text other b tested).0 is_true

-- a line that is made of what its words tell, if they tell something
named_line_made : {A : Type 0} (make : A → SessionLine) (told : Option A) (made : Option SessionLine)
    (Told : A → Type 0) (Made : SessionLine → Type 0)
    → MatchOption told (made ≡ None) (λ x. IsSomeAnd made (λ line. line ≡ make x)) → IfSome told Told
    → ((x : A) → Told x → Made (make x)) → IfSome made Made
named_line_made make None None Told Made cases is then = tt
named_line_made make None (Some line) Told Made cases is then = cc
named_line_made make (Some x) None Told Made cases is then = absurd cases
named_line_made make (Some x) (Some line) Told Made cases is then = subst Made (sym cases) (then x is)

-- two facts of what is told, if something is
pub named_line_fits : {A : Type 0} (P Q : A → Type 0) (told : Option A) → IfSome told P → IfSome told Q
    → IfSome told (λ x. P x × Q x)
named_line_fits P Q None fits is = tt
named_line_fits P Q (Some x) fits is = (fits, is)

-- the words of a line with a name, whose other words tell what it holds
pub named_line_words : {A : Type 0} (grain : Grain) (make : A → SessionLine) (spell : A → List (List ℕ)) (Told : A → Type 0)
    (name other : List ℕ) (b : Bool) (words : List (List ℕ)) (told : Option A) (made : Option SessionLine)
    → b ≡ pointwise eqb name other → b ≡ true
    → ((x : A) → Told x → IsSessionLine grain (make x)) → ((x : A) → line_words (make x) ≡ other ∷ spell x)
    → MatchOption told (made ≡ None) (λ x. IsSomeAnd made (λ line. line ≡ make x))
    → IfSome told (λ x. Told x × (words ≡ spell x))
    → IfSome made (λ line. IsSessionLine grain line × (name ∷ words ≡ line_words line))
named_line_words grain make spell Told name other b words told made tested is_true fits spelled cases is =
    named_line_made make told made (λ x. Told x × (words ≡ spell x))
    (λ line. IsSessionLine grain line × (name ∷ words ≡ line_words line)) cases is
    (λ x is. (
      fits x is.0,
      ap (λ n. n ∷ words) (named_line_texts_alike name other b tested is_true) ∙ ap (λ l. other ∷ l) is.1 ∙ sym (spelled x),
    ))

-- a text has a word
pub named_line_has_words : (text : List ℕ) → 1 ≤ length (words_in text)
named_line_has_words text = omega (arith, length-slice_split (λ b. eqb b 32) text)

-- the first element of a list of texts
abbrev name_of_named_line : List (List ℕ) → List ℕ
name_of_named_line [] = []
name_of_named_line (text ∷ texts) = text

-- the name is none of those of lines with more words
pub record IsNoNamedLine (name : List ℕ) : Type 0 where
  pub line : name ≢ codes "line"
  pub at : name ≢ codes "at"
  pub opened : name ≢ codes "opened"
  pub saved : name ≢ codes "saved"
  pub total : name ≢ codes "total"
  pub threshold : name ≢ codes "threshold"
  pub frames : name ≢ codes "frames"
  pub skipped : name ≢ codes "skipped"
  pub cut : name ≢ codes "cut"

pub no_named_line_with_words : (name : List ℕ) (words : List (List ℕ)) → IsNoNamedLine name → 1 ≤ length words
    → (line : SessionLine)
    → name ∷ words ≡ line_words line → ⊥
no_named_line_with_words name words none some (Opened positions) same = none.opened (ap name_of_named_line same)
no_named_line_with_words name words none some Report same = absurd (omega (arith, ap length same))
no_named_line_with_words name words none some (At positions) same = none.at (ap name_of_named_line same)
no_named_line_with_words name words none some (Total total) same = none.total (ap name_of_named_line same)
no_named_line_with_words name words none some (Threshold threshold) same = none.threshold (ap name_of_named_line same)
no_named_line_with_words name words none some (Line line) same = none.line (ap name_of_named_line same)
no_named_line_with_words name words none some Done same = absurd (omega (arith, ap length same))
no_named_line_with_words name words none some (Saved positions) same = none.saved (ap name_of_named_line same)
no_named_line_with_words name words none some (Frames frames) same = none.frames (ap name_of_named_line same)
no_named_line_with_words name words none some (Skipped skips) same = none.skipped (ap name_of_named_line same)
no_named_line_with_words name words none some (Cut place) same = none.cut (ap name_of_named_line same)
no_named_line_with_words name words none some End same = absurd (omega (arith, ap length same))

-- a word that spells a position; so does the next word after some numbers, if all the words spell positions
pub record IsNamedLinePosition (word : List ℕ) : Type 0 where
  pub position : ℕ
  pub within : position ≤ 16777216
  pub spelled : word ≡ decimal position

pub named_line_next_position : (before : List ℕ) (word : List ℕ) (words : List (List ℕ)) (positions : List ℕ)
    → AllByRecursion (λ p. p ≤ 16777216) positions → map decimal before ++ word ∷ words ≡ map decimal positions
    → IsNamedLinePosition word
named_line_next_position [] word words [] all same = cc
named_line_next_position [] word words (position ∷ positions) all same =
    record { position = position; within = all.0; spelled = ap name_of_named_line same }
named_line_next_position (number ∷ before) word words [] all same = cc
named_line_next_position (number ∷ before) word words (position ∷ positions) all same =
    named_line_next_position before word words positions all.1 (ap (drop 1) same)

-- the positions that words spell
pub named_line_positions_within : (positions : List ℕ) → ShowsPositions positions
    → AllByRecursion (λ p. p ≤ 16777216) positions
named_line_positions_within positions are = recursion_from_All (λ (p : ℕ). p ≤ 16777216) positions are.within
