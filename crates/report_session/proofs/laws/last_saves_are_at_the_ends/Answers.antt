use Rattle.report_session.proofs.SavedStoreLemmas.{saved_store_stands_at_ends}
use Rattle.report_session.proofs.laws.last_saves_are_at_the_ends.Goals as goal

pub returns : goal.returns
returns c = saved_store_stands_at_ends
