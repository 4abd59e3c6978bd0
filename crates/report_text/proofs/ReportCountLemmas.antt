-- A session has no more reports than its text has bytes.
use Rattle.std.proofs.Common.{◌≡◌, ℕ, ◌≤◌, List, [], ◌∷◌, ◌++◌, length, ap, arith, codes}
use Rattle.std.proofs.Common.{length-append}
use Rattle.std.specs.List.{flat_map, join_with_byte}
use Rattle.prefix_lattice.specs.{text_space}
use Rattle.prefix_lattice.specs.declared.grain.Grain.{Grain}
use Rattle.hhh_report.specs.declared.reports.Reported.{Reported}
use Rattle.report_text.specs.Session.{IsSessionText, cut_lines, line_words, reported_lines, saved_lines, session_lines, words_text}
use Rattle.report_text.specs.Session.{report_lines}
use Rattle.report_text.specs.declared.session.Session.{Session}
use Rattle.report_text.specs.declared.session_line.SessionLine.{SessionLine}

-- parts that aren't empty have at least as many elements as there are parts
report_count_of_parts : {A B : Type 0} (part : A → List B) → ((x : A) → 1 ≤ length (part x)) → (xs : List A)
    → length xs ≤ length (flat_map part xs)
report_count_of_parts part some [] = omega arith
report_count_of_parts part some (x ∷ xs) =
    omega (arith, some x, report_count_of_parts part some xs, length-append (part x) (flat_map part xs))

report_count_in_line : (line : SessionLine) → 1 ≤ length (words_text line)
report_count_in_line line = omega (arith, length-append (join_with_byte text_space (line_words line)) (codes "\n"))

report_count_in_reported : (reported : Reported) → 1 ≤ length (reported_lines reported)
report_count_in_reported reported = omega (arith, length-append (report_lines reported.report) (saved_lines reported.saved))

report_count_in_session : (session : Session) → length session.reports ≤ length (session_lines session)
report_count_in_session session =
    let reports = flat_map reported_lines session.reports in
    let tail : List SessionLine =
    SessionLine.Frames session.frames
    ∷ SessionLine.Skipped (record { not_ipv4 = session.not_ipv4; short = session.short; bad_header = session.bad_header })
    ∷ (cut_lines session.cut ++ SessionLine.End ∷ []) in
    omega (arith, report_count_of_parts reported_lines report_count_in_reported session.reports, length-append reports tail)

pub report_count_fits : (grain : Grain) (text : List ℕ) (session : Session) → IsSessionText grain text session
    → length session.reports ≤ length text
report_count_fits grain text session is =
    let lines = session_lines session in
    let bytes : length text ≡ length (flat_map words_text lines) = ap length is.spelled in
    omega (arith, bytes, report_count_of_parts words_text report_count_in_line lines, report_count_in_session session)
