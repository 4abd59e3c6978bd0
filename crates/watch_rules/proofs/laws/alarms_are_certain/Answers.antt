use Rattle.watch_rules.proofs.CertainLemmas.{alarms_of_reports_are_certain}
use Rattle.watch_rules.proofs.laws.alarms_are_certain.Goals as goal

pub returns : goal.returns
returns g c = alarms_of_reports_are_certain _
