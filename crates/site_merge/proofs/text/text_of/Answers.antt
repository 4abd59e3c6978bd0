use Rattle.std.proofs.Common.{◌∙◌, ◌++◌, ap, codes, decimal}
use Rattle.site_merge.proofs.SiteTextLemmas.{site_text_parts}
use Rattle.site_merge.proofs.text.text_of.Goals as goal

pub returns : goal.returns
returns c =
    site_text_parts c.args.made.now c.push_number.new.text.items c.extend_from_slice.new.self.items c.push_sites.new.text.items
    c.push_number-2.new.text.items c.push_number-3.new.text.items c.extend_from_slice-2.new.self.items c.print_lines.new.into.items
    c.extend_from_slice-3.new.self.items
    (c.in_ok-push_number.ensures.appended ∙ ap (λ n. c.new-text.result.items ++ codes "sites " ++ decimal n) c.from.ensures
    ∙ ap (λ l. l ++ codes "sites " ++ decimal c.args.made.now.sites) c.new-text.ensures.items)
    c.in_ok-extend_from_slice.ensures.items c.in_ok-push_sites.ensures c.in_ok-push_number-2.ensures.appended
    c.in_ok-push_number-3.ensures.appended c.in_ok-extend_from_slice-2.ensures.items c.in_ok-print_lines.ensures.ok
    c.in_ok-extend_from_slice-3.ensures.items
