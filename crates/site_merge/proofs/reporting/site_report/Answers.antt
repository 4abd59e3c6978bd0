use Rattle.std.proofs.Common.{ℕ, List, Option, IfOk, IfErr, subst}
use Rattle.checkpoint.specs.{SavedValue}
use Rattle.site_merge.specs.Sites.{RefusesSites, SitesReadAs}
use Rattle.site_merge.specs.Reporting.{IsSiteReport}
use Rattle.site_merge.proofs.DecidedSiteLemmas.{decided_sites_must_refuse, decided_sites_must_report}
use Rattle.site_merge.proofs.reporting.site_report.Goals as goal

pub returns-clause-must_report : goal.returns-clause-must_report
returns-clause-must_report g c = λ images known.
    let settings = c.args.settings.now in
    decided_sites_must_report settings images c.args.phi _ (c.site_reports_are_decided.ensures settings images c.requires.settings)
    (subst (λ (reads : List (Option (List ℕ))). IfOk c.report_sites.result (λ made. (sites : List (Option SavedValue))
    × SitesReadAs settings reads sites × IsSiteReport settings sites c.args.phi made)) known c.report_sites.ensures.made)
    (subst (λ (reads : List (Option (List ℕ))). IfErr c.report_sites.result (RefusesSites settings reads)) known
    c.report_sites.ensures.refused)

pub returns-clause-must_refuse : goal.returns-clause-must_refuse
returns-clause-must_refuse g c = λ images known.
    let settings = c.args.settings.now in
    decided_sites_must_refuse settings images c.args.phi _ (c.site_reports_are_decided.ensures settings images c.requires.settings)
    (subst (λ (reads : List (Option (List ℕ))). IfOk c.report_sites.result (λ made. (sites : List (Option SavedValue))
    × SitesReadAs settings reads sites × IsSiteReport settings sites c.args.phi made)) known c.report_sites.ensures.made)
    (subst (λ (reads : List (Option (List ℕ))). IfErr c.report_sites.result (RefusesSites settings reads)) known
    c.report_sites.ensures.refused)
