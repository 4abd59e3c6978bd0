use Rattle.std.proofs.Common.{ap}
use Rattle.report_session.specs.Session.{new_shards, asked_shape}
use Rattle.report_session.proofs.WholeReportLemmas.{whole_reports_agree}
use Rattle.report_session.proofs.OpeningShardLemmas.{opening_shards_have_same_shape}
use Rattle.report_session.proofs.laws.whole_reports_are_one.Goals as goal

pub returns : goal.returns
returns c = λ settings other lists report others grain capacity phi is is_other.
    whole_reports_agree c.a_cut_has_one_report.ensures (new_shards (asked_shape settings) lists)
    (new_shards (asked_shape other) lists) settings.phi other.phi report others (ap (λ shape. new_shards shape lists)
    (opening_shards_have_same_shape settings other grain capacity)) phi
    is.is_report is.at_ends is_other.is_report is_other.at_ends
