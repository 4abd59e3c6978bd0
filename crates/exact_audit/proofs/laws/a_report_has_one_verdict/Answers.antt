use Rattle.exact_audit.proofs.OneVerdictLemmas.{one_verdict}
use Rattle.exact_audit.proofs.laws.a_report_has_one_verdict.Goals as goal

pub returns : goal.returns
returns c = one_verdict c.report_order_is_total.ensures.total
    (λ prefix other is other_is same. (c.report_order_is_total.ensures.apart prefix other is other_is).0 same)
