use Rattle.std.proofs.Common.{◌∙◌, ap}
use Rattle.shard_state.specs.{core_shape}
use Rattle.report_session.proofs.WholeReportLemmas.{whole_report_counts_all_records}
use Rattle.report_session.proofs.whole_report.report_all.Goals as goal

pub returns : goal.returns
returns g c =
    whole_report_counts_all_records c.args.settings.now c.args.dealt c.in_ok-opened.opened.board.opening c.in_ok-report.report
    c.in_ok-opened.ensures.opening (ap core_shape c.in_ok-opened.ensures.opening ∙ c.openings_stand.ensures.alike)
    (c.openings_stand.ensures.represents tt) c.in_ok-report.ensures.shown c.in_ok-report.ensures.at_ends
