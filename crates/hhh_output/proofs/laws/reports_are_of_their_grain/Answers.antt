use Rattle.hhh_output.proofs.SoundReportLemmas.{sound_report_is_of_grain}
use Rattle.hhh_output.proofs.laws.reports_are_of_their_grain.Goals as goal

pub returns : goal.returns
returns c = λ cut phi report is. sound_report_is_of_grain cut phi report is
