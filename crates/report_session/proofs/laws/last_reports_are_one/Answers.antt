use Rattle.std.proofs.Common.{subst, sym}
use Rattle.report_session.specs.Session.{AreReports, new_shards, asked_shape}
use Rattle.report_session.proofs.LastReportLemmas.{last_reports_agree}
use Rattle.report_session.proofs.OpeningShardLemmas.{opening_shards_have_same_shape}
use Rattle.report_session.proofs.laws.last_reports_are_one.Goals as goal

pub returns : goal.returns
returns c = λ lists settings other reports others grain capacity phi are are_other.
    last_reports_agree c.a_cut_has_one_report.ensures c.same_reports_have_one_text.ensures
    (new_shards (asked_shape settings) lists) settings other reports others phi are
    (subst (λ shape. AreReports (new_shards shape lists) other others) (sym (opening_shards_have_same_shape settings other grain capacity)) are_other)
