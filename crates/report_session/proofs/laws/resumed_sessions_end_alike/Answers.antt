use Rattle.report_session.proofs.SavedStoreLemmas.{saved_store_sessions_end_alike}
use Rattle.report_session.proofs.laws.resumed_sessions_end_alike.Goals as goal

pub returns : goal.returns
returns c =
    saved_store_sessions_end_alike c.standing_cuts_have_one_report.ensures c.reported_cuts_represent.ensures
    c.same_reports_have_one_text.ensures
