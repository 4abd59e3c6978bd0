use Rattle.std.proofs.Common.{◌≡◌, sym, subst}
use Rattle.hhh_output.specs.Reporting.{IsReportOf}
use Rattle.hhh_output.proofs.laws.standing_cuts_have_one_report.Goals as goal

pub returns : goal.returns
returns c = λ cut other_cut lists phi report other capacity positions stands other_stands kept other_kept is other_is.
    let same : cut ≡ other_cut =
    c.standing_cuts_are_equal.ensures cut other_cut lists capacity positions stands other_stands in
    c.a_cut_has_one_report.ensures cut phi report other kept other_kept is
    (subst (λ one. IsReportOf one phi other) (sym same) other_is)
