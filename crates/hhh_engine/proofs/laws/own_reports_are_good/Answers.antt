use Rattle.std.proofs.Common.{get_or}
use Rattle.exact_audit.specs.declared.verdict.Verdict.TheVariants.{Good}
use Rattle.report_session.specs.{reports_in}
use Rattle.hhh_engine.proofs.laws.own_reports_are_good.Goals as goal

pub returns : goal.returns
returns g c = λ formula before now settings store file text is verdict represents.
    let sound = c.own_reports_are_sound.ensures formula before now settings store file text is represents in
    λ k d lt found.
    c.a_report_has_one_verdict.ensures settings.grain is.lists settings.capacity settings.phi (get_or (reports_in is.spelled.reports) k d).report
    verdict Good found (sound k d lt)
