use Rattle.std.proofs.Common.{◌+◌, ◌∙◌, ◌++◌, ap, arith, codes, decimal}
use Rattle.site_merge.proofs.SiteTextLemmas.{site_text_name_is_short}
use Rattle.site_merge.proofs.text.push_site.Goals as goal

pub print_named_positions-requires-clause-short : goal.print_named_positions-requires-clause-short
print_named_positions-requires-clause-short c =
    site_text_name_is_short c.new-name.result.items c.deref.result.now (c.args.place + 1) c.new-name.ensures.items
    (omega (arith, c.requires.showable.few_sites, c.requires.within))
    (c.deref.ensures.value ∙ c.in_ok-push_number.ensures.appended
    ∙ ap (λ n. c.new-name.result.items ++ codes "site " ++ decimal n) c.from.ensures)
