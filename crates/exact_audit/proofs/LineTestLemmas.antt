-- Tests of lines: the first line that fails one.
use Rattle.std.proofs.Common.{◌≡◌, ◌≢◌, ℕ, ◌+◌, ◌<◌, ◌≤◌, List, take, length, get_or, All, slice_get, Some, refl, sym}
use Rattle.std.proofs.Common.{ap, ◌∙◌, subst, arith}
use Rattle.std.proofs.Common.{set, Option, ◌⊎◌, inl, inr, ⊎_elim}
use Rattle.std.proofs.lemmas.Bool.{cases_lt, cases_eq}
use Rattle.std.proofs.lemmas.List.{length-set, get_or-set_same, get_or-set_other}
use Rattle.std.proofs.lemmas.Option.{slice_get_read, slice_get-get_or, slice_get_within, get_or_from_slice_get}
use Rattle.std.proofs.lemmas.List.Elements.{All-more}
use Rattle.hhh_report.specs.declared.line.Line.{Line}
use Rattle.hhh_report.specs.{prefixes_of_lines}
use Rattle.prefix_lattice.specs.{RecordValue, node_index, node_of_prefix}
use Rattle.prefix_lattice.specs.declared.grain.Grain.{Grain}
use Rattle.exact_audit.specs.declared.node_sums.Sums.{Sums}
use Rattle.exact_audit.specs.NodeSums.{sums_of}
use Rattle.exact_audit.specs.LineTests.{FailsFirst}
use Rattle.exact_audit.specs.Findings.{AreSumsOf}

-- a line that fails after those that pass
pub line_test_fails_after_passes : (Passes : Line → Type 0) (lines : List Line) (place : ℕ) (line : Line)
    → place < length lines
    → line ≡ get_or lines place line → ¬ Passes line → All Passes (take place lines)
    → FailsFirst Passes lines (place + 1)
line_test_fails_after_passes Passes lines place line within at fails passed = record {
  before = place;
  counted = refl;
  line = line;
  is = slice_get_read lines (length lines) place line refl within at;
  fails = fails;
  passed = passed;
}

-- a line that passes after those that pass
pub line_test_passes_one_more : (Passes : Line → Type 0) (lines : List Line) (place : ℕ) (line : Line)
    → place < length lines
    → line ≡ get_or lines place line → Passes line → All Passes (take place lines) → All Passes (take (place + 1) lines)
line_test_passes_one_more Passes lines place line within at passes passed =
    All-more Passes lines place line within passed (subst Passes at passes)

-- the sums of a line
pub line_test_sums_at_place : (lines : List Line) (records : List RecordValue) (sums : List Sums) (place : ℕ) (line : Line)
    (d : Sums)
    → AreSumsOf lines records sums → place < length lines → line ≡ get_or lines place line
    → get_or sums place d ≡ sums_of (prefixes_of_lines lines) records line.prefix
line_test_sums_at_place lines records sums place line d are within at =
    get_or_from_slice_get sums place (sums_of (prefixes_of_lines lines) records line.prefix) d
    (are.each place line (slice_get_read lines (length lines) place line refl within at))

-- what is at an index, after one element is set
line_test_reads_set_place : {X : Type 0} (xs : List X) (place : ℕ) (x : X) → place < length xs
    → slice_get (set xs place x) place ≡ Some x
line_test_reads_set_place xs place x within =
    slice_get-get_or (set xs place x) place x (omega (arith, length-set xs place x, within))
    ∙ ap Some (get_or-set_same xs place x x within)

line_test_reads_other_place : {X : Type 0} (xs : List X) (place other : ℕ) (x : X) → other ≢ place → other < length xs
    → slice_get (set xs place x) other ≡ slice_get xs other
line_test_reads_other_place xs place other x apart within =
    slice_get-get_or (set xs place x) other x (omega (arith, length-set xs place x, within))
    ∙ ap Some (get_or-set_other xs place other x x apart) ∙ sym (slice_get-get_or xs other x within)

-- one more line, of the node
pub line_test_notes_line : (grain : Grain) (index place : ℕ) (lines : List Line) (records : List RecordValue) (sums : List Sums) (line : Line)
    (own : Sums) → length sums ≡ length lines → place < length lines → line ≡ get_or lines place line
    → own ≡ sums_of (prefixes_of_lines lines) records line.prefix
    → ((other : ℕ) (line : Line) → slice_get lines other ≡ Some line
    → (node_index (node_of_prefix grain line.prefix) < index) ⊎ ((node_index (node_of_prefix grain line.prefix) ≡ index) × (other < place))
    → slice_get sums other ≡ Some (sums_of (prefixes_of_lines lines) records line.prefix))
    → (other : ℕ) (line : Line) → slice_get lines other ≡ Some line
    → (node_index (node_of_prefix grain line.prefix) < index) ⊎ ((node_index (node_of_prefix grain line.prefix) ≡ index) × (other < place + 1))
    → slice_get (set sums place own) other ≡ Some (sums_of (prefixes_of_lines lines) records line.prefix)
line_test_notes_line grain index place lines records sums line own same within at is before other its there when =
    ⊎_elim (λ (here : other ≡ place).
    let one : its ≡ line = some-line its line
    (sym there ∙ ap (slice_get lines) here ∙ slice_get_read lines (length lines) place line refl within at) in
    ap (slice_get (set sums place own)) here
    ∙ line_test_reads_set_place sums place own (omega (arith, same, within)) ∙ ap Some (is ∙ ap Of (sym one)))
    (λ (apart : other ≢ place).
    line_test_reads_other_place sums place other own apart (omega (arith, same, slice_get_within lines other its there))
    ∙ before other its there
    (⊎_elim (λ (less : node_index (node_of_prefix grain its.prefix) < index). inl less)
    (λ (equal : (node_index (node_of_prefix grain its.prefix) ≡ index) × (other < place + 1)).
    inr (equal.0, less_than apart equal.1)) when))
    (cases_eq other place)
  where
    some-line : (x y : Line) → ◌≡◌ {A = Option Line} (Some x) (Some y) → x ≡ y
    some-line x y same = cc

    Of : Line → Sums
    Of line = sums_of (prefixes_of_lines lines) records line.prefix

    less_than : {a b : ℕ} → a ≢ b → a < b + 1 → a < b
    less_than {a} {b} apart less = ⊎_elim (λ (is : a < b). is) (λ (not : b ≤ a). absurd (apart (omega arith)))
        (cases_lt a b)

-- one more line, of another node
pub line_test_skips_other_node : (grain : Grain) (index place : ℕ) (lines : List Line) (records : List RecordValue) (sums : List Sums) (line : Line)
    → place < length lines → line ≡ get_or lines place line → node_index (node_of_prefix grain line.prefix) ≢ index
    → ((other : ℕ) (line : Line) → slice_get lines other ≡ Some line
    → (node_index (node_of_prefix grain line.prefix) < index) ⊎ ((node_index (node_of_prefix grain line.prefix) ≡ index) × (other < place))
    → slice_get sums other ≡ Some (sums_of (prefixes_of_lines lines) records line.prefix))
    → (other : ℕ) (line : Line) → slice_get lines other ≡ Some line
    → (node_index (node_of_prefix grain line.prefix) < index) ⊎ ((node_index (node_of_prefix grain line.prefix) ≡ index) × (other < place + 1))
    → slice_get sums other ≡ Some (sums_of (prefixes_of_lines lines) records line.prefix)
line_test_skips_other_node grain index place lines records sums line within at differs before other its there when =
    before other its there
    (⊎_elim (λ (less : node_index (node_of_prefix grain its.prefix) < index). inl less)
    (λ (equal : (node_index (node_of_prefix grain its.prefix) ≡ index) × (other < place + 1)).
    ⊎_elim (λ (less : other < place). inr (equal.0, less))
    (λ (not_less : place ≤ other).
    let here : other ≡ place = omega (arith, not_less, equal.1) in
    let one : its ≡ line = some-line its line
    (sym there ∙ ap (slice_get lines) here ∙ slice_get_read lines (length lines) place line refl within at) in
    absurd (differs (sym (ap (λ (l : Line). node_index (node_of_prefix grain l.prefix)) one) ∙ equal.0)))
    (cases_lt other place)) when)
  where
    some-line : (x y : Line) → ◌≡◌ {A = Option Line} (Some x) (Some y) → x ≡ y
    some-line x y same = cc
