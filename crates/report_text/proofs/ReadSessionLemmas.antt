-- Reading a session whole.
use Rattle.std.proofs.Common.{◌≡◌, ℕ, List, [], ◌∷◌, ◌++◌, length, sym, ap, ◌∙◌, arith, append_assoc}
use Rattle.std.proofs.Common.{take_all, All}
use Rattle.std.specs.List.{flat_map}
use Rattle.std.specs.Cmp.{IsTotalOrder}
use Rattle.prefix_lattice.specs.{report_order}
use Rattle.prefix_lattice.specs.declared.grain.Grain.{Grain}
use Rattle.hhh_report.specs.{AreOfGrain}
use Rattle.hhh_report.specs.declared.reports.Reported.{Reported}
use Rattle.report_text.specs.Session.{IsTextSession, IsSessionText, words_text, session_lines}
use Rattle.report_text.specs.Stages.{Stage, nothing, ended}
use Rattle.report_text.specs.LineCursor.{HasReadLines, ReadsLines}
use Rattle.report_text.specs.declared.line_cursor.LineCursor.{LineCursor}
use Rattle.report_text.specs.declared.session.Session.{Session}
use Rattle.report_text.specs.declared.session_line.SessionLine.{SessionLine}
use Rattle.report_text.proofs.SessionPartLemmas.{session_parts_make_session}
use Rattle.report_text.proofs.WholeSessionLemmas.{whole_sessions_apart, whole_session_same}

-- a cursor that went on from the start has read these lines
pub read_session_from_start : (grain : Grain) (old new : LineCursor) (lines : List SessionLine) (stage last : Stage)
    → HasReadLines grain old []
    → ReadsLines grain old new lines stage last → HasReadLines grain new lines
read_session_from_start grain old new lines stage last start reads = record {
  are_lines = reads.are_lines;
  text = reads.text ∙ ap (λ l. l ++ flat_map words_text lines) start.text;
  count = omega (arith, reads.count, start.count);
}

-- what says these lines is a session
pub read_session_is_session : (grain : Grain) → IsTotalOrder report_order → (old new : LineCursor) (session : Session)
    → ReadsLines grain old new (session_lines session) nothing ended → IsTextSession grain session
read_session_is_session grain order old new session reads =
    let whole = session_parts_make_session grain order (session_lines session) reads.leads reads.are_lines in
    whole_session_same grain whole.session session whole.is_session (whole_sessions_apart whole.session session (sym whole.spelled))

-- the whole text was read
pub read_session_has_its_text : (grain : Grain) (text : List ℕ) (cursor : LineCursor) (session : Session)
    → IsTextSession grain session
    → HasReadLines grain cursor (session_lines session) → cursor.text.now ≡ text → cursor.at ≡ length cursor.text.now
    → IsSessionText grain text session
read_session_has_its_text grain text cursor session is has same all = record {
  is_session = is;
  spelled =
      sym same ∙ sym (take_all cursor.at cursor.text.now (omega arith)) ∙ has.text;
}

-- the lines of each report of a session of a grain are of the grain
pub read_session_is_of_grain : (grain : Grain) (session : Session) → IsTextSession grain session
    → All (λ (reported : Reported). AreOfGrain grain reported.report.lines) session.reports
read_session_is_of_grain grain session is = λ place default within.
    let lines = (is.reports place default within).lines in
    λ number line inside. (lines number line inside).is_prefix

-- the lines of a session, as they are read
pub read_session_line_groups : (opened frames skips : SessionLine) (reports end : List SessionLine)
    → ((opened ∷ (reports ++ frames ∷ [])) ++ skips ∷ []) ++ end ≡ opened ∷ (reports ++ frames ∷ skips ∷ end)
read_session_line_groups opened frames skips reports end =
    ap (λ l. opened ∷ l)
    (ap (λ l. l ++ end) (append_assoc reports (frames ∷ []) (skips ∷ []))
    ∙ append_assoc reports (frames ∷ skips ∷ []) end)
