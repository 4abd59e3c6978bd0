-- What reports say is determined by their texts.
use Rattle.std.proofs.Common.{◌≡◌, ℕ, List, [], ◌∷◌, ◌++◌, All, drop, codes, decimal, refl, sym, ap, ◌∙◌, arith}
use Rattle.std.proofs.Common.{append_assoc}
use Rattle.std.specs.List.{flat_map, AllByRecursion}
use Rattle.std.proofs.lemmas.List.Elements.{All-head, All-tail}
use Rattle.prefix_lattice.specs.{PrefixValue, IsPrefix, finest_grain, side_text, prefix_text}
use Rattle.hhh_report.specs.declared.line.Line.{Line}
use Rattle.hhh_report.specs.declared.report.Report.{Report}
use Rattle.hhh_report.specs.{IsSameReport}
use Rattle.report_text.specs.Printing.{line_text, lines_text, report_text, ShowsLine}
use Rattle.report_text.specs.Printing.{Shows}
use Rattle.report_text.proofs.TextPartLemmas.{spaced_text_part, spaced_text_parts_join}
use Rattle.report_text.proofs.TextWordLemmas.{text_words_begin_unlike, text_words_told_apart, text_word_numbers_apart}
use Rattle.report_text.proofs.TextWordLemmas.{side_is_text_word, text_word_positions_apart}

-- different prefixes have different texts
abbrev pub ReportPrefixesAreApart : Type 0
ReportPrefixesAreApart =
    (prefix other : PrefixValue) → IsPrefix finest_grain prefix → IsPrefix finest_grain other → prefix_text prefix ≡ prefix_text other
    → prefix ≡ other

-- what holds at each index holds for all elements by recursion
report_apart_by_recursion : {X : Type 0} (P : X → Type 0) (xs : List X) → All P xs → AllByRecursion P xs
report_apart_by_recursion P [] all = tt
report_apart_by_recursion P (x ∷ xs) all = (All-head P x xs all, report_apart_by_recursion P xs (All-tail P x xs all))

-- the words of a line, one after another
report_apart_line_groups : (name source space dest lo hi end rest : List ℕ)
    → ((name ++ ((source ++ (space ++ dest)) ++ (space ++ (lo ++ (space ++ hi))))) ++ end) ++ rest
    ≡ name ++ (source ++ (space ++ (dest ++ (space ++ (lo ++ (space ++ (hi ++ (end ++ rest))))))))
report_apart_line_groups name source space dest lo hi end rest = simp append_assoc

-- a line without its first word, and what follows it
abbrev report_apart_line_tail : Line → List ℕ → List ℕ
report_apart_line_tail line rest =
    side_text line.prefix.source ++ 32
    ∷ (side_text line.prefix.dest ++ 32 ∷ (decimal line.lo ++ 32 ∷ (decimal line.hi ++ 10 ∷ rest)))

report_apart_line_opens : (line : Line) (rest : List ℕ)
    → line_text line ++ rest ≡ codes "line " ++ report_apart_line_tail line rest
report_apart_line_opens line rest =
    report_apart_line_groups (codes "line ") (side_text line.prefix.source) (codes " ") (side_text line.prefix.dest)
    (decimal line.lo) (decimal line.hi) (codes "\n") rest

-- a line, and what follows it, are determined
report_line_apart : ReportPrefixesAreApart → (line another : Line) (rest other : List ℕ) → ShowsLine finest_grain line
    → ShowsLine finest_grain another
    → line_text line ++ rest ≡ line_text another ++ other → (line ≡ another) × (rest ≡ other)
report_line_apart law line another rest other is another_is same =
    let behind : report_apart_line_tail line rest ≡ report_apart_line_tail another other =
    ap (drop 5) (sym (report_apart_line_opens line rest) ∙ same ∙ report_apart_line_opens another other) in
    let source = text_words_told_apart (side_text line.prefix.source) (side_text another.prefix.source) _ _
    (side_is_text_word line.prefix.source)
    (side_is_text_word another.prefix.source)
    (omega arith) (omega arith) behind in
    let dest = text_words_told_apart (side_text line.prefix.dest) (side_text another.prefix.dest) _ _
    (side_is_text_word line.prefix.dest) (side_is_text_word another.prefix.dest)
    (omega arith) (omega arith) (ap (drop 1) source.1) in
    let low =
    text_word_numbers_apart line.lo another.lo _ _ is.low another_is.low (omega arith) (omega arith) (ap (drop 1) dest.1) in
    let high =
    text_word_numbers_apart line.hi another.hi _ _ is.high another_is.high (omega arith) (omega arith) (ap (drop 1) low.1) in
    let texts : prefix_text line.prefix ≡ prefix_text another.prefix =
    ap (λ l. l ++ 32 ∷ side_text line.prefix.dest) source.0
    ∙ ap (λ l. side_text another.prefix.source ++ 32 ∷ l) dest.0 in
    let prefixes = law line.prefix another.prefix is.is_prefix another_is.is_prefix texts in
    let lines : line ≡ another =
    ap (λ p. record { prefix = p; lo = line.lo; hi = line.hi }) prefixes
    ∙ ap (λ n. record { prefix = another.prefix; lo = n; hi = line.hi }) low.0
    ∙ ap (λ n. record { prefix = another.prefix; lo = another.lo; hi = n }) high.0 in
    (lines, ap (drop 1) high.1)

-- lines before `done` are determined
report_lines_apart : ReportPrefixesAreApart → (lines others : List Line) → AllByRecursion (ShowsLine finest_grain) lines
    → AllByRecursion (ShowsLine finest_grain) others
    → lines_text lines ++ codes "done\n" ≡ lines_text others ++ codes "done\n" → lines ≡ others
report_lines_apart law [] [] all others_all same = refl
report_lines_apart law [] (another ∷ others) all others_all same =
    absurd (text_words_begin_unlike 100 108 _ _ (omega arith)
    (same ∙ append_assoc (line_text another) (lines_text others) (codes "done\n")
    ∙ report_apart_line_opens another (lines_text others ++ codes "done\n")))
report_lines_apart law (line ∷ lines) [] all others_all same =
    absurd (text_words_begin_unlike 100 108 _ _ (omega arith)
    (sym same ∙ append_assoc (line_text line) (lines_text lines) (codes "done\n")
    ∙ report_apart_line_opens line (lines_text lines ++ codes "done\n")))
report_lines_apart law (line ∷ lines) (another ∷ others) all others_all same =
    let first = report_line_apart law line another (lines_text lines ++ codes "done\n")
    (lines_text others ++ codes "done\n") all.0 others_all.0
    (sym (append_assoc (line_text line) (lines_text lines) (codes "done\n")) ∙ same
    ∙ append_assoc (line_text another) (lines_text others) (codes "done\n")) in
    let rest = report_lines_apart law lines others all.1 others_all.1 first.1 in
    ap (λ l. l ∷ lines) first.0 ∙ ap (λ l. another ∷ l) rest

-- the words of a report, one after another
report_apart_groups : (report at positions end total t threshold h lines done : List ℕ)
    → ((((report ++ ((at ++ positions) ++ end)) ++ ((total ++ t) ++ end)) ++ ((threshold ++ h) ++ end)) ++ lines)
    ++ done
    ≡ report
    ++ (at ++ (positions ++ (end ++ (total ++ (t ++ (end ++ (threshold ++ (h ++ (end ++ (lines ++ done))))))))))
report_apart_groups report at positions end total t threshold h lines done = simp append_assoc

report_apart_opens : (report : Report) → report_text report
    ≡ codes "report\nat"
    ++ (flat_map spaced_text_part report.positions ++ 10
    ∷ (codes "total "
    ++ (decimal report.total ++ 10
    ∷ (codes "threshold "
    ++ (decimal report.threshold ++ 10 ∷ (lines_text report.lines ++ codes "done\n"))))))
report_apart_opens report =
    ap (λ l.
    ((((codes "report\n" ++ (l ++ 10 ∷ [])) ++ ((codes "total " ++ decimal report.total) ++ 10 ∷ []))
    ++ ((codes "threshold " ++ decimal report.threshold) ++ 10 ∷ [])) ++ lines_text report.lines)
    ++ codes "done\n")
    (sym (spaced_text_parts_join (codes "at") report.positions))
    ∙ report_apart_groups (codes "report\n") (codes "at") (flat_map spaced_text_part report.positions) (codes "\n") (codes "total ")
    (decimal report.total) (codes "threshold ") (decimal report.threshold) (lines_text report.lines)
    (codes "done\n")

-- reports that have the same text say the same
pub report-apart : ReportPrefixesAreApart → (report other : Report) → Shows report → Shows other
    → report_text report ≡ report_text other → IsSameReport report other
report-apart law report other is other_is same =
    let positions = text_word_positions_apart report.positions other.positions _ _
    (report_apart_by_recursion _ report.positions is.positions) (report_apart_by_recursion _ other.positions other_is.positions)
    (ap (drop 9) (sym (report_apart_opens report) ∙ same ∙ report_apart_opens other)) in
    let total =
    text_word_numbers_apart report.total other.total _ _ is.total other_is.total (omega arith) (omega arith)
    (ap (drop 6) positions.1) in
    let threshold =
    text_word_numbers_apart report.threshold other.threshold _ _ is.threshold other_is.threshold (omega arith)
    (omega arith) (ap (drop 11) total.1) in
    record {
      positions = positions.0;
      total = total.0;
      threshold = threshold.0;
      lines =
          report_lines_apart law report.lines other.lines (report_apart_by_recursion _ report.lines is.lines)
          (report_apart_by_recursion _ other.lines other_is.lines) (ap (drop 1) threshold.1);
    }
