use Rattle.hhh_output.proofs.SoundReportLemmas.{SoundReportLawsHold, report_is_sound}
use Rattle.hhh_output.proofs.laws.reports_are_sound.Goals as goal

pub returns : goal.returns
returns c = λ cut lists phi report kept stands weighed wide are_lines is.
    let holds : SoundReportLawsHold cut lists = record {
      order = c.report_order_is_total.ensures.total;
      stands = stands;
      intervals = λ prefix is_prefix.
          c.merged_intervals_hold_weights.ensures cut lists prefix kept stands weighed is_prefix;
      light = λ prefix is_prefix missing. c.merged_intervals_are_narrow.ensures.light cut prefix kept is_prefix missing;
      total = c.snapshots_hold_weights.ensures.cut_total cut lists kept stands;
      asked = c.only_prefixes_are_asked.ensures cut.shape.grain;
      at_least = c.bounds_hold.ensures.at_least;
      reached = c.bounds_hold.ensures.reached;
    } in
    report_is_sound cut lists phi report (record { holds = holds; kept = are_lines; wide = wide; is_report = is })
