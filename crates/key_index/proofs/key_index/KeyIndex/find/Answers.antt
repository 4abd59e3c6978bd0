use Rattle.std.proofs.Common.{◌≡◌, ◌≢◌, ◌<◌, ℕ, length, map, refl, get_or, sym, subst, arith, rules}
use Rattle.key_index.specs.Entries.{KeyEntries, AreEntered, HaveTurnedAway, IsNotBefore}
use Rattle.key_index.proofs.HomeLemmas.{home_of_mixed, home_marked_on}
use Rattle.key_index.proofs.EntryLemmas.{entry_parts, EntryMissing, entry_turn_is_last, entry_turns_on}
use Rattle.key_index.proofs.KeyLemmas.{key_missing}
use Rattle.key_index.proofs.key_index.KeyIndex.find.Goals as goal

pub returns-then-not-has-clause-missing : goal.returns-then-not-has-clause-missing
returns-then-not-has-clause-missing g c =
    let i = c.self.inside in
    let keys = map g.T.Keyed.key_of c.args.slots.now in
    let end = length keys in
    let entered : AreEntered end end keys (entry_parts i.room i.chains.links i.chains.backs i.turned i.listed.items) =
    subst (λ (e : KeyEntries). AreEntered end end keys e) (sym c.self.view_is) c.requires.holds.entered in
    let at = home_of_mixed i.room 0 c.args.key c.args.key c.mix-number.result c.home_of-home.result refl c.mix-number.ensures c.home_of-home.ensures.home in
    let missing : EntryMissing i.room i.chains.links i.chains.backs keys c.home_of-home.result c.args.key =
    subst (λ room. EntryMissing room i.chains.links i.chains.backs keys c.home_of-home.result c.args.key) c.self.invariant.roomy
    c.in_default.ensures.missing in
    key_missing keys c.args.key (λ (place : ℕ). λ (below : place < end). λ (has : get_or keys place 0 ≡ c.args.key).
    let apart : place ≢ end = λ same. omega arith in
    entry_turn_is_last end end i.room place 0 c.home_of-home.result c.args.key keys i.chains.links i.chains.backs i.listed.items
    i.turned entered below apart has (omega arith) (omega arith) at missing
    (λ marked. search (rules, c.has.ensures, marked)))

pub find_further-requires-clause-further : goal.find_further-requires-clause-further
find_further-requires-clause-further g c =
    let i = c.self.inside in
    let keys = map g.T.Keyed.key_of c.args.slots.now in
    let at = home_of_mixed i.room 0 c.args.key c.args.key c.mix-number.result c.home_of-home.result refl c.mix-number.ensures c.home_of-home.ensures.home in
    let missing : EntryMissing i.room i.chains.links i.chains.backs keys c.home_of-home.result c.args.key =
    subst (λ room. EntryMissing room i.chains.links i.chains.backs keys c.home_of-home.result c.args.key) c.self.invariant.roomy
    c.in_default.ensures.missing in
    subst (λ (e : KeyEntries). IsNotBefore 1 c.args.key keys e) c.self.view_is
    (λ end but entered place below apart has.
    entry_turns_on end but i.room place 0 c.home_of-home.result c.args.key keys i.chains.links i.chains.backs i.listed.items
    i.turned entered below apart has (omega arith) (omega arith) at missing)

pub find_further-requires-clause-seen : goal.find_further-requires-clause-seen
find_further-requires-clause-seen g c =
    let i = c.self.inside in
    let at = home_of_mixed i.room 0 c.args.key c.args.key c.mix-number.result c.home_of-home.result refl c.mix-number.ensures c.home_of-home.ensures.home in
    subst (λ (e : KeyEntries). HaveTurnedAway 1 c.args.key e) c.self.view_is
    (home_marked_on i.room 0 c.args.key c.home_of-home.result i.turned at (search (rules, c.has.ensures)) (λ turn low early. absurd (omega arith)))
