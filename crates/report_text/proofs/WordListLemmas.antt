-- Lines cut into words.
use Rattle.std.proofs.Common.{◌≡◌, ℕ, ◌+◌, ◌*◌, ◌^◌, ◌<◌, ◌≤◌, eqb, false, List, [], ◌∷◌, ◌++◌, map, length, All}
use Rattle.std.proofs.Common.{get_or}
use Rattle.std.proofs.Common.{decimal, refl, sym, ap, ap₂, ◌∙◌, arith, rules}
use Rattle.std.specs.List.{join_with_byte, AllByRecursion}
use Rattle.std.proofs.lemmas.Bool.{ne_eqb}
use Rattle.std.proofs.lemmas.List.{append_cancel_right}
use Rattle.std.proofs.lemmas.List.Elements.{All-from_recursion, recursion_from_All}
use Rattle.std.proofs.lemmas.List.Splits.{slice_split_at, slice_split_none, join_with_byte-slice_split}
use Rattle.std.proofs.lemmas.Fmt.{decimal_injective}
use Rattle.hhh_report.specs.declared.line.Line.{Line as LineValue}
use Rattle.report_text.specs.Printing.{ShowsPositions}
use Rattle.report_text.specs.Session.{IsSessionLine, line_words, words_text}
use Rattle.report_text.specs.Stages.{words_in}
use Rattle.report_text.specs.declared.session_line.Skips.{Skips}
use Rattle.report_text.specs.declared.session_line.SessionLine.{SessionLine}
use Rattle.report_text.specs.declared.session_line.SessionLine.TheVariants.{Opened, Report, At, Total, Threshold, Line}
use Rattle.report_text.specs.declared.session_line.SessionLine.TheVariants.{Done, Saved, Frames, Skipped, Cut, End}
use Rattle.prefix_lattice.specs.{PrefixValue, IsPrefix, finest_grain, prefix_text, side_text}
use Rattle.prefix_lattice.specs.declared.grain.Grain.{Grain}
use Rattle.prefix_lattice.proofs.GrainLemmas.{grain_numbers}
use Rattle.report_text.proofs.ReportApartLemmas.{ReportPrefixesAreApart}
use Rattle.report_text.proofs.TextWordLemmas.{IsTextWord, decimal_is_text_word, side_is_text_word}

-- a word has no space
no_space_in_word_list : (word : List ℕ) → IsTextWord word → AllByRecursion (λ byte. eqb byte 32 ≡ false) word
no_space_in_word_list [] is = tt
no_space_in_word_list (byte ∷ word) is = (ne_eqb byte 32 (λ same. let great : 46 ≤ byte = is.0 in omega arith), no_space_in_word_list word is.1)

word_list_without_space : (word : List ℕ) → IsTextWord word → All (λ byte. eqb byte 32 ≡ false) word
word_list_without_space word is = All-from_recursion (λ byte. eqb byte 32 ≡ false) word (no_space_in_word_list word is)

-- a word is the only word in it
pub word_list_of_word : (word : List ℕ) → IsTextWord word → words_in word ≡ word ∷ []
word_list_of_word word is = slice_split_none (λ byte. eqb byte 32) word (word_list_without_space word is)

-- words that are joined by spaces are the words in the text
pub word_list_of_joined_words : (first : List ℕ) (others : List (List ℕ)) → IsTextWord first
    → AllByRecursion IsTextWord others
    → words_in (join_with_byte 32 (first ∷ others)) ≡ first ∷ others
word_list_of_joined_words first [] is all = word_list_of_word first is
word_list_of_joined_words first (second ∷ others) is all =
    slice_split_at (λ byte. eqb byte 32) first 32 (join_with_byte 32 (second ∷ others)) (word_list_without_space first is) refl
    ∙ ap (λ l. first ∷ l) (word_list_of_joined_words second others all.0 all.1)

-- the words in a text, joined by spaces, are the text
pub word_list_joins_to_text : (text : List ℕ) → join_with_byte 32 (words_in text) ≡ text
word_list_joins_to_text text = join_with_byte-slice_split 32 text

-- numbers are words
pub word_list_of_numbers : (numbers : List ℕ) → AllByRecursion IsTextWord (map decimal numbers)
word_list_of_numbers [] = tt
word_list_of_numbers (number ∷ numbers) = (decimal_is_text_word number, word_list_of_numbers numbers)

-- positions are numbers of 64 bits
word_list_small_numbers : (positions : List ℕ) → AllByRecursion (λ n. n ≤ 16777216) positions
    → AllByRecursion (λ n. n < 2 ^ 64) positions
word_list_small_numbers [] all = tt
word_list_small_numbers (position ∷ positions) all = (let few : position ≤ 16777216 = all.0 in omega arith, word_list_small_numbers positions all.1)

pub word_list_small_positions : (positions : List ℕ) → ShowsPositions positions
    → AllByRecursion (λ n. n < 2 ^ 64) positions
word_list_small_positions positions are =
    word_list_small_numbers positions (recursion_from_All (λ (n : ℕ). n ≤ 16777216) positions are.within)

-- the words of a line
pub word_list_of_line : (line : SessionLine) → AllByRecursion IsTextWord (line_words line)
word_list_of_line (Opened positions) = (search rules, word_list_of_numbers positions)
word_list_of_line Report = (search rules, tt)
word_list_of_line (At positions) = (search rules, word_list_of_numbers positions)
word_list_of_line (Total total) = (search rules, (decimal_is_text_word total, tt))
word_list_of_line (Threshold threshold) = (search rules, (decimal_is_text_word threshold, tt))
word_list_of_line (Line line) = (
  search rules,
  (
    side_is_text_word line.prefix.source,
    (side_is_text_word line.prefix.dest, (decimal_is_text_word line.lo, (decimal_is_text_word line.hi, tt))),
  ),
)
word_list_of_line Done = (search rules, tt)
word_list_of_line (Saved positions) = (search rules, word_list_of_numbers positions)
word_list_of_line (Frames frames) = (search rules, (decimal_is_text_word frames, tt))
word_list_of_line (Skipped skips) = (
  search rules,
  (decimal_is_text_word skips.not_ipv4, (decimal_is_text_word skips.short, (decimal_is_text_word skips.bad_header, tt))),
)
word_list_of_line (Cut place) = (search rules, (decimal_is_text_word place, tt))
word_list_of_line End = (search rules, tt)

-- the words in joined words, if there is at least one
word_list_of_some_words : (words : List (List ℕ)) → 1 ≤ length words → AllByRecursion IsTextWord words
    → words_in (join_with_byte 32 words) ≡ words
word_list_of_some_words [] some all = absurd (omega arith)
word_list_of_some_words (word ∷ words) some all = word_list_of_joined_words word words all.0 all.1

-- a line has at least one word
word_list_is_not_empty : (line : SessionLine) → 1 ≤ length (line_words line)
word_list_is_not_empty (Opened positions) = omega arith
word_list_is_not_empty (At positions) = omega arith
word_list_is_not_empty (Saved positions) = omega arith
word_list_is_not_empty _ = omega arith

-- the words in the text of a line are its words
pub word_list_in_line_text : (line : SessionLine) (text : List ℕ) → words_text line ≡ text ++ 10 ∷ []
    → words_in text ≡ line_words line
word_list_in_line_text line text same =
    ap words_in (sym (append_cancel_right (join_with_byte 32 (line_words line)) text (10 ∷ []) same))
    ∙ word_list_of_some_words (line_words line) (word_list_is_not_empty line) (word_list_of_line line)

-- a text that has the words of a line is its text, but for the line feed
pub word_list_tells_line_text : (line : SessionLine) (text : List ℕ) → words_in text ≡ line_words line
    → words_text line ≡ text ++ 10 ∷ []
word_list_tells_line_text line text same =
    ap (λ words. join_with_byte 32 words ++ 10 ∷ []) (sym same) ∙ ap (λ l. l ++ 10 ∷ []) (word_list_joins_to_text text)

-- lists of numbers with the same digits are the same
word_list_same_numbers : (numbers others : List ℕ) → AllByRecursion (λ n. n < 2 ^ 64) numbers
    → AllByRecursion (λ n. n < 2 ^ 64) others → map decimal numbers ≡ map decimal others → numbers ≡ others
word_list_same_numbers [] [] small others_small same = refl
word_list_same_numbers [] (other ∷ others) small others_small same = cc
word_list_same_numbers (number ∷ numbers) [] small others_small same = cc
word_list_same_numbers (number ∷ numbers) (other ∷ others) small others_small same =
    let head : decimal number ≡ decimal other = cc in
    let rest : map decimal numbers ≡ map decimal others = cc in
    let first = decimal_injective number other small.0 others_small.0 head in
    let behind = word_list_same_numbers numbers others small.1 others_small.1 rest in
    cc

-- the first two letters of the first word
abbrev word_list_initials : List (List ℕ) → ℕ
word_list_initials [] = 0
word_list_initials (word ∷ words) = 256 * get_or word 0 0 + get_or word 1 0

word_list_same_lines : (line other : LineValue) → line.prefix ≡ other.prefix → line.lo ≡ other.lo → line.hi ≡ other.hi
    → line ≡ other
word_list_same_lines line other one two three =
    ap (λ p. record { prefix = p; lo = line.lo; hi = line.hi }) one
    ∙ ap (λ n. record { prefix = other.prefix; lo = n; hi = line.hi }) two
    ∙ ap (λ n. record { prefix = other.prefix; lo = other.lo; hi = n }) three

word_list_same_skips : (skips other : Skips) → skips.not_ipv4 ≡ other.not_ipv4 → skips.short ≡ other.short
    → skips.bad_header ≡ other.bad_header → skips ≡ other
word_list_same_skips skips other one two three =
    ap (λ n. record { not_ipv4 = n; short = skips.short; bad_header = skips.bad_header }) one
    ∙ ap (λ n. record { not_ipv4 = other.not_ipv4; short = n; bad_header = skips.bad_header }) two
    ∙ ap (λ n. record { not_ipv4 = other.not_ipv4; short = other.short; bad_header = n }) three

-- a prefix of a grain is one of the finest grain
IsPrefix-word_list : {grain : Grain} (prefix : PrefixValue) → IsPrefix grain prefix → IsPrefix finest_grain prefix
IsPrefix-word_list {grain} prefix is = record {
  source = is.source;
  dest = is.dest;
  source_steps = (grain_numbers grain).refines (length prefix.source) is.source_steps;
  dest_steps = (grain_numbers grain).refines (length prefix.dest) is.dest_steps;
}

-- lines with the same words are the same
pub word_list_tells_line : (grain : Grain) → ReportPrefixesAreApart → (line other : SessionLine)
    → IsSessionLine grain line → IsSessionLine grain other
    → line_words line ≡ line_words other
    → line ≡ other
word_list_tells_line grain law (Opened positions) (Opened others) is other_is same =
    let rest : map decimal positions ≡ map decimal others = cc in
    ap Opened (word_list_same_numbers positions others (word_list_small_positions positions is) (word_list_small_positions others other_is) rest)
word_list_tells_line grain law Report Report is other_is same = refl
word_list_tells_line grain law (At positions) (At others) is other_is same =
    let rest : map decimal positions ≡ map decimal others = cc in
    ap At (word_list_same_numbers positions others (word_list_small_positions positions is) (word_list_small_positions others other_is) rest)
word_list_tells_line grain law (Total total) (Total other) is other_is same =
    let rest : decimal total ≡ decimal other = cc in ap Total (decimal_injective total other is other_is rest)
word_list_tells_line grain law (Threshold threshold) (Threshold other) is other_is same =
    let rest : decimal threshold ≡ decimal other = cc in
    ap Threshold (decimal_injective threshold other is.1 other_is.1 rest)
word_list_tells_line grain law (Line line) (Line other) is other_is same =
    let source : side_text line.prefix.source ≡ side_text other.prefix.source = cc in
    let dest : side_text line.prefix.dest ≡ side_text other.prefix.dest = cc in
    let low : decimal line.lo ≡ decimal other.lo = cc in
    let high : decimal line.hi ≡ decimal other.hi = cc in
    let texts : prefix_text line.prefix ≡ prefix_text other.prefix =
    ap₂ (λ front behind. front ++ 32 ∷ behind) source dest in
    let prefixes = law line.prefix other.prefix (IsPrefix-word_list line.prefix is.showable.is_prefix)
    (IsPrefix-word_list other.prefix other_is.showable.is_prefix) texts in
    let lows = decimal_injective line.lo other.lo is.showable.low other_is.showable.low low in
    let highs = decimal_injective line.hi other.hi is.showable.high other_is.showable.high high in
    ap Line (word_list_same_lines line other prefixes lows highs)
word_list_tells_line grain law Done Done is other_is same = refl
word_list_tells_line grain law (Saved positions) (Saved others) is other_is same =
    let rest : map decimal positions ≡ map decimal others = cc in
    ap Saved (word_list_same_numbers positions others (word_list_small_positions positions is) (word_list_small_positions others other_is) rest)
word_list_tells_line grain law (Frames frames) (Frames other) is other_is same =
    let rest : decimal frames ≡ decimal other = cc in ap Frames (decimal_injective frames other is other_is rest)
word_list_tells_line grain law (Skipped skips) (Skipped other) is other_is same =
    let first : decimal skips.not_ipv4 ≡ decimal other.not_ipv4 = cc in
    let second : decimal skips.short ≡ decimal other.short = cc in
    let third : decimal skips.bad_header ≡ decimal other.bad_header = cc in
    let one = decimal_injective skips.not_ipv4 other.not_ipv4 is.not_ipv4 other_is.not_ipv4 first in
    let two = decimal_injective skips.short other.short is.short other_is.short second in
    let three = decimal_injective skips.bad_header other.bad_header is.bad_header other_is.bad_header third in
    ap Skipped (word_list_same_skips skips other one two three)
word_list_tells_line grain law (Cut place) (Cut other) is other_is same =
    let rest : decimal place ≡ decimal other = cc in ap Cut (decimal_injective place other is other_is rest)
word_list_tells_line grain law End End is other_is same = refl
word_list_tells_line grain law line other is other_is same =
    let kinds : word_list_initials (line_words line) ≡ word_list_initials (line_words other) = ap word_list_initials same in absurd
    (omega arith)
