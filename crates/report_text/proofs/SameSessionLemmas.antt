-- Sessions that say the same.
use Rattle.std.proofs.Common.{◌≡◌, ◌∙◌, ℕ, List, Option, sym, ap, subst}
use Rattle.std.proofs.Props.{props}
use Rattle.std.proofs.lemmas.List.Elements.{same_from_all_zip}
use Rattle.hhh_report.specs.{AreReportLines, IsSameReport}
use Rattle.hhh_report.specs.declared.line.Line.{Line}
use Rattle.hhh_report.specs.declared.report.Report.{Report}
use Rattle.hhh_report.specs.declared.reports.Reported.{Reported}
use Rattle.report_text.specs.Session.{AreSameSessions}
use Rattle.report_text.specs.declared.session.Session.{Session}

-- a report of these parts
abbrev same_session_report : (positions : List ℕ) (total threshold : ℕ) (lines : List Line) → AreReportLines lines → Report
same_session_report positions total threshold lines are = record {
  positions = positions;
  total = total;
  threshold = threshold;
  lines = lines;
  are_lines = are;
}

-- that lines are those of a report is one fact
same_session_line_proofs_agree : (lines : List Line) → IsProp (AreReportLines lines)
same_session_line_proofs_agree lines = hlevel props

same_session_lines_give_report : (positions : List ℕ) (total threshold : ℕ) (lines others : List Line) (are : AreReportLines lines)
    (others_are : AreReportLines others) → lines ≡ others
    → same_session_report positions total threshold lines are ≡ same_session_report positions total threshold others others_are
same_session_lines_give_report positions total threshold lines others are others_are same =
    subst
    (λ l. (a : AreReportLines l) → same_session_report positions total threshold lines are ≡ same_session_report positions total threshold l a)
    same (λ a. ap (same_session_report positions total threshold lines) (same_session_line_proofs_agree lines are a)) others_are

-- reports that show the same are equal
same_session_reports_are_equal : (report other : Report) → IsSameReport report other → report ≡ other
same_session_reports_are_equal report other same =
    ap (λ p. same_session_report p report.total report.threshold report.lines report.are_lines) same.positions
    ∙ ap (λ t. same_session_report other.positions t report.threshold report.lines report.are_lines) same.total
    ∙ ap (λ t. same_session_report other.positions other.total t report.lines report.are_lines) same.threshold
    ∙ same_session_lines_give_report other.positions other.total other.threshold report.lines other.lines report.are_lines other.are_lines
    same.lines

-- so are reports that are saved alike
same_session_reported_is_equal : (reported another : Reported)
    → IsSameReport reported.report another.report × (reported.saved ≡ another.saved) → another ≡ reported
same_session_reported_is_equal reported another same =
    sym
    (ap (λ (r : Report). record reported { report = r }) (same_session_reports_are_equal reported.report another.report same.0)
    ∙ ap (λ (s : Option (List ℕ)). record another { saved = s }) same.1)

-- sessions that say the same have one list of reports
pub same_session_reports_are_one : (session other : Session) → AreSameSessions session other → other.reports ≡ session.reports
same_session_reports_are_one session other same =
    same_from_all_zip
    (λ (reported another : Reported). IsSameReport reported.report another.report × (reported.saved ≡ another.saved))
    session.reports other.reports same.reports same_session_reported_is_equal
