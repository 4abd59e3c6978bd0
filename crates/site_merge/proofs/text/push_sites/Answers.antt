use Rattle.site_merge.specs.SiteText.{site_text_line}
use Rattle.site_merge.proofs.SiteTextLemmas.{site_text_one_more}
use Rattle.site_merge.proofs.text.push_sites.Goals as goal

pub loop-place-preserved : goal.loop-place-preserved
loop-place-preserved c =
    site_text_one_more (site_text_line c.args.made.now) c.args.text.now.items c.loop-place.text.items c.push_site.new.text.items
    c.loop-place.place c.loop-place.invariant c.in_ok-push_site.ensures
