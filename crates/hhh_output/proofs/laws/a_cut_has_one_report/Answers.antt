use Rattle.std.proofs.Common.{◌≡◌, sym, subst, ◌∙◌}
use Rattle.hhh_report.specs.{IsThreshold}
use Rattle.hhh_output.proofs.OneReportLemmas.{MakesOneReport, one_report_has_one_list, one_report_has_one_threshold}
use Rattle.hhh_output.proofs.laws.a_cut_has_one_report.Goals as goal

pub returns : goal.returns
returns c = λ cut phi report other kept other_kept is other_is.
    let total : report.total ≡ other.total = is.total ∙ sym other_is.total in
    let threshold : report.threshold ≡ other.threshold =
    one_report_has_one_threshold phi report.total report.threshold other.threshold is.threshold
    (subst (λ total. IsThreshold phi total other.threshold) (sym total) other_is.threshold) in
    let other_makes : MakesOneReport cut report.threshold other.lines =
    subst (λ t. MakesOneReport cut t other.lines) (sym threshold) (record { kept = other_kept; asked = other_is.lines }) in
    record {
      positions = is.positions ∙ sym other_is.positions;
      total = total;
      threshold = threshold;
      lines =
          one_report_has_one_list cut report.threshold report.lines other.lines c.report_order_is_total.ensures.total
          (record { falls = c.prefixes_are_ordered.ensures.level })
          (record { kept = kept; asked = is.lines }) other_makes;
    }
