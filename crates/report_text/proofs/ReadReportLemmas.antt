-- Reading the reports of a session.
use Rattle.std.proofs.Common.{◌≡◌, ℕ, ◌+◌, ◌-◌, ◌<◌, ◌≤◌, List, [], ◌∷◌, ◌++◌, map, length, take, sym, ap, ◌∙◌, subst}
use Rattle.std.proofs.Common.{Option, arith, append_assoc, append-nil, length-append}
use Rattle.std.specs.List.{flat_map, join_with_byte}
use Rattle.std.proofs.Math.Seq.{length-take-le}
use Rattle.std.proofs.lemmas.List.Concat.{flat_map-append}
use Rattle.prefix_lattice.specs.declared.grain.Grain.{Grain}
use Rattle.hhh_report.specs.declared.report.Report.{Report as ReportValue}
use Rattle.hhh_report.specs.declared.reports.Reported.{Reported}
use Rattle.report_text.specs.Session.{words_text, line_words, reported_lines}
use Rattle.report_text.specs.Session.{saved_lines}
use Rattle.report_text.specs.Stages.{Stage, opened, begun, done, line_after_report, after_report}
use Rattle.report_text.specs.Stages.{body_lines}
use Rattle.report_text.specs.LineCursor.{ReadsLines}
use Rattle.report_text.specs.declared.line_cursor.LineCursor.{LineCursor}
use Rattle.report_text.specs.declared.session_line.SessionLine.{SessionLine}
use Rattle.report_text.specs.declared.session_line.SessionLine.TheVariants.{Report, At, Total, Threshold, Line, Done}
use Rattle.report_text.proofs.LineCursorLemmas.{line_reading_goes_on}

-- reading lines moves a cursor by their bytes
read_report_takes_bytes : (grain : Grain) (old new : LineCursor) (lines : List SessionLine) (stage last : Stage)
    → ReadsLines grain old new lines stage last
    → new.at ≡ old.at + length (flat_map words_text lines)
read_report_takes_bytes grain old new lines stage last reads =
    let text : length (take new.at new.text.now) ≡ length (take old.at old.text.now ++ flat_map words_text lines) =
    ap length reads.text in
    omega (
      arith,
      text,
      length-append (take old.at old.text.now) (flat_map words_text lines),
      length-take-le new.at new.text.now new.within,
      length-take-le old.at old.text.now old.within,
    )

-- and a line has at least one
read_report_has_bytes : (line : SessionLine) (lines : List SessionLine)
    → 1 ≤ length (flat_map words_text (line ∷ lines))
read_report_has_bytes line lines =
    omega (
      arith,
      length-append (words_text line) (flat_map words_text lines),
      length-append (join_with_byte 32 (line_words line)) (10 ∷ []),
    )

-- so fewer bytes remain after a report
pub read_report_leaves_fewer : (grain : Grain) (old middle new : LineCursor) (report : ReportValue) (others : List SessionLine)
    (stage next last : Stage) → ReadsLines grain old middle (body_lines report) stage next → ReadsLines grain middle new others next last
    → length new.text.now - new.at < length old.text.now - old.at
read_report_leaves_fewer grain old middle new report others stage next last one two =
    let first = read_report_takes_bytes grain old middle (body_lines report) stage next one in
    let second = read_report_takes_bytes grain middle new others next last two in
    let same : length new.text.now ≡ length old.text.now = ap (λ t. length t.now) (two.same ∙ one.same) in
    let some = read_report_has_bytes (At report.positions)
    (Total report.total ∷ Threshold report.threshold ∷ (map Line report.lines ++ Done ∷ [])) in
    omega (arith, first, second, same, some, new.within)

read_report_groups : (reports head body mark after : List SessionLine)
    → ((reports ++ head) ++ body) ++ (mark ++ after) ≡ (reports ++ (((head ++ body) ++ mark) ++ [])) ++ after
read_report_groups reports head body mark after = simp (append_assoc, append-nil)

-- one more report, and what follows it
pub one_more_read_report : (grain : Grain) (start cursor middle new : LineCursor) (n : ℕ) (reports : List Reported) (report : ReportValue)
    (positions : Option (List ℕ)) (frames : Option ℕ)
    → ReadsLines grain start cursor (flat_map reported_lines reports ++ Report ∷ []) (opened n) (begun n)
    → ReadsLines grain cursor middle (body_lines report) (begun n) (done n)
    → ReadsLines grain middle new (saved_lines positions ++ line_after_report frames ∷ []) (done n) (after_report n frames)
    → ReadsLines grain start new
    (flat_map reported_lines (reports ++ record { report = report; saved = positions } ∷ []) ++ line_after_report frames ∷ [])
    (opened n) (after_report n frames)
one_more_read_report grain start cursor middle new n reports report positions frames one two three =
    let reported : Reported = record { report = report; saved = positions } in
    subst (λ l. ReadsLines grain start new l (opened n) (after_report n frames))
    (read_report_groups (flat_map reported_lines reports) (Report ∷ []) (body_lines report) (saved_lines positions)
    (line_after_report frames ∷ [])
    ∙ ap (λ l. l ++ line_after_report frames ∷ []) (sym (flat_map-append reported_lines reports (reported ∷ []))))
    (line_reading_goes_on grain start middle new ((flat_map reported_lines reports ++ Report ∷ []) ++ body_lines report)
    (saved_lines positions ++ line_after_report frames ∷ []) (opened n) (done n) (after_report n frames)
    (line_reading_goes_on grain start cursor middle (flat_map reported_lines reports ++ Report ∷ []) (body_lines report) (opened n)
    (begun n) (done n) one two)
    three)
