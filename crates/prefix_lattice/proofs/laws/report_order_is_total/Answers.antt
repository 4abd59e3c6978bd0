use Rattle.prefix_lattice.proofs.ReportOrderLemmas.{report_order-total, report_order-apart}
use Rattle.prefix_lattice.proofs.laws.report_order_is_total.Goals as goal

pub returns-clause-total : goal.returns-clause-total
returns-clause-total c = report_order-total

pub returns-clause-apart : goal.returns-clause-apart
returns-clause-apart c = report_order-apart
