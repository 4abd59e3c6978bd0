use Rattle.report_session.proofs.LastReportLemmas.{last_report_stands_alone}
use Rattle.report_session.proofs.laws.sessions_without_rounds_have_one_report.Goals as goal

pub returns : goal.returns
returns c = λ opening settings reports tail none are. last_report_stands_alone opening settings reports tail none are
