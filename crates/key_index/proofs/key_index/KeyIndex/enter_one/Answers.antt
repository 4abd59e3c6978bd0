use Rattle.std.proofs.Common.{◌<◌, get_or, ap, sym, subst, arith, rules, map}
use Rattle.key_index.specs.Entries.{KeyEntries, AreEntered}
use Rattle.key_index.proofs.HomeLemmas.{home_of_mixed}
use Rattle.key_index.proofs.EntryLemmas.{entry_parts, entry_linked}
use Rattle.key_index.proofs.key_index.KeyIndex.enter_one.Goals as goal

pub returns-then-is_short-clause-entered : goal.returns-then-is_short-clause-entered
returns-then-is_short-clause-entered g c =
    let keys = map g.T.Keyed.key_of c.args.slots.now in
    λ end below was.
    let i = c.self.inside in
    let entered : AreEntered end c.args.place keys (entry_parts i.room i.chains.links i.chains.backs i.turned i.listed.items) =
    subst (λ (e : KeyEntries). AreEntered end c.args.place keys e) (sym c.self.view_is) was in
    let low : c.args.place < i.room = omega (arith, c.requires.within, c.requires.few, ap (λ (e : KeyEntries). e.room) c.self.view_is) in
    let at = home_of_mixed i.room 0 (get_or keys c.args.place 0) c.key_at.result c.mix.result c.home_of-home.result c.key_at.ensures c.mix.ensures
    c.home_of-home.ensures.home in
    entry_linked end c.args.place i.room 0 c.home_of-home.result keys i.chains c.link.new.self i.turned i.turned i.listed.items
    c.self.invariant.shape c.self.invariant.roomy below low (omega arith) c.home_of-home.ensures.within at
    (λ rank home_of chains. omega (arith, c.is_short.ensures rank home_of chains (search (rules, c.if-is_short.true))))
    c.link.ensures.links c.link.ensures.backs entered (λ earlier before. absurd (omega arith)) (λ other marked. marked)
