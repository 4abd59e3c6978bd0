use Rattle.report_session.proofs.SavedStoreLemmas.{saved_store_of_session_belongs}
use Rattle.report_session.proofs.laws.saves_belong.Goals as goal

pub returns : goal.returns
returns c = saved_store_of_session_belongs c.reported_cuts_represent.ensures
