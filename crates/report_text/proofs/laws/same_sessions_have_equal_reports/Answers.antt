use Rattle.report_text.proofs.SameSessionLemmas.{same_session_reports_are_one}
use Rattle.report_text.proofs.laws.same_sessions_have_equal_reports.Goals as goal

pub returns : goal.returns
returns c = same_session_reports_are_one
