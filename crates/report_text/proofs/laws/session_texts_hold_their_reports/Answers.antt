use Rattle.report_text.proofs.ReportCountLemmas.{report_count_fits}
use Rattle.report_text.proofs.laws.session_texts_hold_their_reports.Goals as goal

pub returns : goal.returns
returns c = report_count_fits
