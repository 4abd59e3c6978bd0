use Rattle.watch_rules.proofs.OnceLemmas.{alarms_are_once}
use Rattle.watch_rules.proofs.laws.pairs_are_alarmed_once.Goals as goal

pub returns : goal.returns
returns g c = alarms_are_once c.prefixes_are_ordered.ensures.antisymmetric c.report_order_is_total.ensures.total _
