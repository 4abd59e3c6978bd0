-- The text of a session as it is printed, and as it is read back.
use Rattle.std.proofs.Common.{◌≡◌, ℕ, List, [], ◌∷◌, ◌++◌, map, Option, Some, None, codes, decimal, refl, sym, ap, ap₂}
use Rattle.std.proofs.Common.{◌∙◌, append_assoc, append-nil}
use Rattle.std.specs.List.{flat_map}
use Rattle.std.proofs.lemmas.List.Concat.{flat_map-append}
use Rattle.prefix_lattice.specs.{side_text}
use Rattle.prefix_lattice.specs.declared.grain.Grain.{Grain}
use Rattle.hhh_report.specs.declared.line.Line.{Line as LineValue}
use Rattle.hhh_report.specs.declared.report.Report.{Report as ReportValue}
use Rattle.hhh_report.specs.declared.reports.Reported.{Reported}
use Rattle.report_text.specs.Printing.{cut_text, line_text, lines_text, report_text}
use Rattle.report_text.specs.Session.{words_text, report_lines, saved_lines, cut_lines}
use Rattle.report_text.specs.Session.{saved_text, reported_lines, reported_text}
use Rattle.report_text.specs.Session.{session_lines, session_text, printed_text, whole_lines}
use Rattle.report_text.specs.Session.{IsTextSession, IsSessionText}
use Rattle.report_text.specs.Session.{AreSameSessions}
use Rattle.report_text.specs.declared.session.Session.{Session}
use Rattle.report_text.specs.declared.session_line.SessionLine.TheVariants.{Opened, Report, At, Total, Threshold, Line}
use Rattle.report_text.specs.declared.session_line.SessionLine.TheVariants.{Done, Saved, Frames, Skipped, Cut, End}
use Rattle.report_text.proofs.WholeLineLemmas.{whole_lines-lines}
use Rattle.report_text.proofs.WholeSessionLemmas.{whole_session_lines, whole_sessions_apart, whole_session_skips}
use Rattle.report_text.proofs.FirstLineLemmas.{FirstLineLaws, first_lines_told_by_texts}

-- the text of a line of a report
printed_session_line : (line : LineValue) → words_text (Line line) ≡ line_text line
printed_session_line line =
    ap (λ l. (codes "line" ++ 32 ∷ l) ++ codes "\n")
    (sym (append_assoc (side_text line.prefix.source) (32 ∷ side_text line.prefix.dest)
    (32 ∷ (decimal line.lo ++ 32 ∷ decimal line.hi))))

printed_session_lines : (lines : List LineValue) → flat_map words_text (map Line lines) ≡ lines_text lines
printed_session_lines [] = refl
printed_session_lines (line ∷ lines) = ap₂ (λ front behind. front ++ behind) (printed_session_line line) (printed_session_lines lines)

printed_session_report_groups : (a b c d lines done : List ℕ)
    → a ++ (b ++ (c ++ (d ++ (lines ++ (done ++ []))))) ≡ ((((a ++ b) ++ c) ++ d) ++ lines) ++ done
printed_session_report_groups a b c d lines done = simp (append_assoc, append-nil)

-- the text of a report is that of its lines
pub printed_session_report : (report : ReportValue) → flat_map words_text (report_lines report) ≡ report_text report
printed_session_report report =
    ap
    (λ l. words_text Report ++ (words_text (At report.positions) ++ (words_text (Total report.total)
    ++ (words_text (Threshold report.threshold) ++ l))))
    (flat_map-append words_text (map Line report.lines) (Done ∷ [])
    ∙ ap (λ l. l ++ (words_text Done ++ [])) (printed_session_lines report.lines))
    ∙ printed_session_report_groups (words_text Report) (words_text (At report.positions)) (words_text (Total report.total))
    (words_text (Threshold report.threshold)) (lines_text report.lines) (words_text Done)

printed_session_saved_line : (positions : Option (List ℕ))
    → flat_map words_text (saved_lines positions) ≡ saved_text positions
printed_session_saved_line None = refl
printed_session_saved_line (Some positions) = append-nil (words_text (Saved positions))

printed_session_whole_report : (reported : Reported)
    → flat_map words_text (reported_lines reported) ≡ reported_text reported
printed_session_whole_report reported =
    flat_map-append words_text (report_lines reported.report) (saved_lines reported.saved)
    ∙ ap₂ (λ front behind. front ++ behind) (printed_session_report reported.report) (printed_session_saved_line reported.saved)

printed_session_reports : (reports : List Reported)
    → flat_map words_text (flat_map reported_lines reports) ≡ flat_map reported_text reports
printed_session_reports [] = refl
printed_session_reports (reported ∷ reports) =
    flat_map-append words_text (reported_lines reported) (flat_map reported_lines reports)
    ∙ ap₂ (λ front behind. front ++ behind) (printed_session_whole_report reported) (printed_session_reports reports)

printed_session_cut_line : (place : Option ℕ) → flat_map words_text (cut_lines place) ≡ cut_text place
printed_session_cut_line None = refl
printed_session_cut_line (Some place) = append-nil (words_text (Cut place))

printed_session_count_groups : (a b c d : List ℕ) → a ++ (b ++ (c ++ (d ++ []))) ≡ ((a ++ b) ++ c) ++ d
printed_session_count_groups a b c d = simp (append_assoc, append-nil)

-- two lines, the place of a cut frame, and the end
pub printed_session_counts : (a b : List ℕ) (place : Option ℕ)
    → a ++ (b ++ flat_map words_text (cut_lines place ++ End ∷ [])) ≡ ((a ++ b) ++ cut_text place) ++ words_text End
printed_session_counts a b place =
    ap (λ l. a ++ (b ++ l))
    (flat_map-append words_text (cut_lines place) (End ∷ [])
    ∙ ap (λ l. l ++ (words_text End ++ [])) (printed_session_cut_line place))
    ∙ printed_session_count_groups a b (cut_text place) (words_text End)

-- a session is printed as its text
pub session-printed : (session : Session) → printed_text session ≡ session_text session
session-printed session =
    let frames = words_text (Frames session.frames) in
    let skipped_text = words_text (Skipped (whole_session_skips session)) in
    sym
    (ap (λ l. words_text (Opened session.opened) ++ l)
    (flat_map-append words_text (flat_map reported_lines session.reports)
    (Frames session.frames ∷ Skipped (whole_session_skips session) ∷ (cut_lines session.cut ++ End ∷ []))
    ∙ ap₂ (λ front behind. front ++ behind) (printed_session_reports session.reports)
    (printed_session_counts frames skipped_text session.cut)))

-- the whole lines of the text of a session are its lines
pub printed_session_has_its_lines : (grain : Grain) (session : Session) → IsTextSession grain session
    → whole_lines (session_text session) ≡ map words_text (session_lines session)
printed_session_has_its_lines grain session is =
    ap whole_lines (sym (append-nil (session_text session)))
    ∙ whole_lines-lines (session_lines session) []
    ∙ append-nil (map words_text (session_lines session))

-- sessions with one text say the same
pub printed_sessions_told_apart : (grain : Grain) → FirstLineLaws → (text : List ℕ) (session other : Session)
    → IsSessionText grain text session
    → IsSessionText grain text other → AreSameSessions session other
printed_sessions_told_apart grain laws text session other is other_is =
    whole_sessions_apart session other
    (first_lines_told_by_texts grain laws (session_lines session) (session_lines other) (whole_session_lines grain session is.is_session)
    (whole_session_lines grain other other_is.is_session)
    (sym (printed_session_has_its_lines grain session is.is_session) ∙ ap whole_lines (sym is.spelled ∙ other_is.spelled)
    ∙ printed_session_has_its_lines grain other other_is.is_session))
