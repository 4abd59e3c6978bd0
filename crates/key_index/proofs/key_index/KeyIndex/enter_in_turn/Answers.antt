use Rattle.std.proofs.Common.{◌+◌, ◌<◌, ◌∙◌, ap, sym, subst, arith, map}
use Rattle.key_index.specs.HomeMarks.{IsMarked}
use Rattle.key_index.specs.Homes.{home_at}
use Rattle.key_index.specs.Entries.{KeyEntries, AreEntered}
use Rattle.key_index.proofs.EntryLemmas.{entry_parts, entry_linked, entry_in_list}
use Rattle.key_index.proofs.key_index.KeyIndex.enter_in_turn.Goals as goal

pub returns-in-Some-clause-entered : goal.returns-in-Some-clause-entered
returns-in-Some-clause-entered g c =
    let keys = map g.T.Keyed.key_of c.args.slots.now in
    λ end below was.
    let i = c.self.inside in
    let entered : AreEntered end c.args.place keys (entry_parts i.room i.chains.links i.chains.backs i.turned i.listed.items) =
    subst (λ (e : KeyEntries). AreEntered end c.args.place keys e) (sym c.self.view_is) was in
    let roomy = c.self.invariant.roomy in
    let low : c.args.place < i.room = omega (arith, c.requires.within, c.requires.few, ap (λ (e : KeyEntries). e.room) c.self.view_is) in
    entry_linked end c.args.place i.room c.in-Some.free.turn c.in-Some.free.home keys i.chains c.link.new.self i.turned c.free_home.new.turned
    i.listed.items c.self.invariant.shape roomy below low c.in-Some.ensures.turns c.in-Some.ensures.within
    (c.in-Some.ensures.home ∙ ap (home_at i.room c.in-Some.free.turn) c.key_at.ensures)
    (λ rank home_of chains. subst (λ n. rank (n + c.in-Some.free.home) < 4) (sym roomy) (c.in-Some.ensures.roomy rank home_of chains))
    c.link.ensures.links c.link.ensures.backs entered
    (λ earlier before early. subst (λ key. IsMarked c.free_home.new.turned (home_at i.room earlier key)) c.key_at.ensures
    (c.in-Some.ensures.passed earlier before)) c.in-Some.ensures.kept

pub returns-in-None-clause-entered : goal.returns-in-None-clause-entered
returns-in-None-clause-entered g c =
    let keys = map g.T.Keyed.key_of c.args.slots.now in
    λ end below was.
    let i = c.self.inside in
    let entered : AreEntered end c.args.place keys (entry_parts i.room i.chains.links i.chains.backs i.turned i.listed.items) =
    subst (λ (e : KeyEntries). AreEntered end c.args.place keys e) (sym c.self.view_is) was in
    entry_in_list end c.args.place i.room keys i.chains.links i.chains.backs i.listed.items i.turned c.free_home.new.turned
    c.insert.new.listed.items below entered c.insert.ensures.more
    (λ earlier before early. subst (λ key. IsMarked c.free_home.new.turned (home_at i.room earlier key)) c.key_at.ensures
    (c.in-None.ensures.passed_all earlier early)) c.in-None.ensures.kept
