use Rattle.std.proofs.Common.{◌≡◌, true, set, subst, ap, ◌∙◌, ◌<◌, length, arith}
use Rattle.cut_merge.specs.SeenHomes.{SeesKey, seen_home}
use Rattle.cut_merge.proofs.SeenHomeLemmas.{seen_home_marked}
use Rattle.cut_merge.proofs.seen_homes.SeenHomes.note.Goals as goal

pub returns : goal.returns
returns c =
    let homes = c.self.inside.homes.items in
    let long : c.len.result ≡ length homes = omega (arith, c.len.ensures) in
    let within : c.home_of-home.result < length homes = omega (arith, c.home_of-home.ensures.within, long) in
    subst (λ old. SeesKey old (set homes c.home_of-home.result true) c.args.key) c.self.view_is
    (seen_home_marked homes c.args.key c.home_of-home.result
    (c.home_of-home.ensures.value ∙ ap (λ count. seen_home count c.args.key) long) within)
