use Rattle.std.proofs.Common.{◌∙◌, ℕ, ◌*◌, ◌<◌, ◌++◌, ◌∷◌, [], option_map, ap, sym, subst}
use Rattle.prefix_lattice.specs.{total_limit}
use Rattle.checkpoint.specs.{saved_value}
use Rattle.site_merge.specs.Taking.{cut_with_site}
use Rattle.site_merge.specs.declared.taking.SiteMark.{SiteMark}
use Rattle.site_merge.proofs.TakenLemmas.{taken_site_has_room, taken_site_more}
use Rattle.site_merge.proofs.taking.add_site.Goals as goal

pub put_site-mark-requires : goal.put_site-mark-requires
put_site-mark-requires c =
    let has = c.requires.taken in
    taken_site_has_room c.args.settings.now has.0 has.1 c.args.place c.args.read c.args.taken.now c.requires.settings.few has.2
    c.requires.read has.3

pub returns : goal.returns
returns c = λ sites left many has.
    let site = option_map saved_value c.args.read in
    taken_site_more c.args.settings.now sites left site c.args.taken.now _ has c.requires.read
    (subst (λ (m : SiteMark). m.weight < total_limit) c.put_site-mark.ensures.mark c.put_site-mark.ensures.bounded)
    (c.put_site-mark.ensures.cut
    ∙ ap (λ (n : ℕ). cut_with_site (n * c.args.settings.now.shards) site c.args.taken.now.cut) (sym many))
    (c.in_ok-push.ensures.items ∙ ap (λ (m : SiteMark). c.args.taken.now.marks.items ++ m ∷ []) c.put_site-mark.ensures.mark)
