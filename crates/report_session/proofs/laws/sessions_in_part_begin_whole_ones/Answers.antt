use Rattle.report_session.proofs.FinalReportLemmas.{FinalReportLaws}
use Rattle.report_session.proofs.WholeSessionLemmas.{whole_session_exists}
use Rattle.report_session.proofs.laws.sessions_in_part_begin_whole_ones.Goals as goal

pub returns : goal.returns
returns g c = λ old new settings store file front wide is.
    let laws : FinalReportLaws = record {
      exists = c.each_cut_has_a_report.ensures;
      sound = c.reports_are_sound.ensures;
      represent = c.reported_cuts_represent.ensures;
      goes_on = c.shards_keep_their_limits.ensures.goes_on;
    } in
    whole_session_exists laws settings _ _ store file front wide is
