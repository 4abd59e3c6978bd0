use Rattle.std.proofs.Common.{◌≡◌, ◌≢◌, ◌<◌, ◌≤◌, ℕ, List, length, map, get_or, ap, sym, ◌∙◌, subst, arith, rules}
use Rattle.std.specs.Prelude.{Some}
use Rattle.std.proofs.lemmas.List.{length-map}
use Rattle.std.proofs.lemmas.Option.{slice_get-get_or}
use Rattle.key_index.specs.SortedPlaces.{Rises, IsListed}
use Rattle.key_index.specs.Entries.{KeyEntries, AreEntered, HaveTurnedAway, IsNotBefore}
use Rattle.key_index.proofs.HomeLemmas.{home_mixed_on, home_of_mixed, home_marked_on}
use Rattle.key_index.proofs.EntryLemmas.{entry_parts, EntryMissing, entry_turns_on, entry_turn_is_last}
use Rattle.key_index.proofs.KeyLemmas.{key_missing}
use Rattle.key_index.proofs.key_index.KeyIndex.find_further.Goals as goal

pub loop-turn-init : goal.loop-turn-init
loop-turn-init g c =
    let i = c.self.inside in
    record {
      number = c.requires.number;
      seen = subst (λ (e : KeyEntries). HaveTurnedAway 1 c.args.key e) (sym c.self.view_is) c.requires.seen;
      further = subst (λ (e : KeyEntries). IsNotBefore 1 c.args.key (map g.T.Keyed.key_of c.args.slots.now) e) (sym c.self.view_is) c.requires.further;
    }

pub loop-turn-preserved : goal.loop-turn-preserved
loop-turn-preserved g c =
    let keys = map g.T.Keyed.key_of c.args.slots.now in
    let i = c.self.inside in
    let at = home_of_mixed i.room c.loop-turn.turn c.args.key c.loop-turn.number c.mix-number.result c.home_of-home.result
    c.loop-turn.invariant.number c.mix-number.ensures c.home_of-home.ensures.home in
    let missing : EntryMissing i.room i.chains.links i.chains.backs keys c.home_of-home.result c.args.key =
    subst (λ room. EntryMissing room i.chains.links i.chains.backs keys c.home_of-home.result c.args.key) c.self.invariant.roomy
    c.in_default.ensures.missing in
    record {
      number = home_mixed_on c.loop-turn.turn c.args.key c.loop-turn.number c.mix-number.result c.loop-turn.invariant.number c.mix-number.ensures;
      seen = home_marked_on i.room c.loop-turn.turn c.args.key c.home_of-home.result i.turned at (search (rules, c.has.ensures))
          c.loop-turn.invariant.seen;
      further = λ end but entered place below apart has.
          entry_turns_on end but i.room place c.loop-turn.turn c.home_of-home.result c.args.key keys i.chains.links i.chains.backs i.listed.items
          i.turned entered below apart has (c.loop-turn.invariant.further end but entered place below apart has) (omega arith) at missing;
    }

pub returns-in-Some-clause-found : goal.returns-in-Some-clause-found
returns-in-Some-clause-found g c =
    let keys = map g.T.Keyed.key_of c.args.slots.now in
    let within : c.in-Some.place < length keys = omega (arith, c.in-Some.ensures.within, length-map c.args.slots.now g.T.Keyed.key_of) in
    slice_get-get_or keys c.in-Some.place 0 within ∙ ap Some c.in-Some.ensures.found

pub returns-then-not-has-clause-missing : goal.returns-then-not-has-clause-missing
returns-then-not-has-clause-missing g c =
    let i = c.self.inside in
    let keys = map g.T.Keyed.key_of c.args.slots.now in
    let end = length keys in
    let entered : AreEntered end end keys (entry_parts i.room i.chains.links i.chains.backs i.turned i.listed.items) =
    subst (λ (e : KeyEntries). AreEntered end end keys e) (sym c.self.view_is) c.requires.holds.entered in
    let at = home_of_mixed i.room c.loop-turn.turn c.args.key c.loop-turn.number c.mix-number.result c.home_of-home.result
    c.loop-turn.invariant.number c.mix-number.ensures c.home_of-home.ensures.home in
    let missing : EntryMissing i.room i.chains.links i.chains.backs keys c.home_of-home.result c.args.key =
    subst (λ room. EntryMissing room i.chains.links i.chains.backs keys c.home_of-home.result c.args.key) c.self.invariant.roomy
    c.in_default.ensures.missing in
    key_missing keys c.args.key (λ (place : ℕ). λ (below : place < end). λ (has : get_or keys place 0 ≡ c.args.key).
    let apart : place ≢ end = λ same. omega arith in
    entry_turn_is_last end end i.room place c.loop-turn.turn c.home_of-home.result c.args.key keys i.chains.links i.chains.backs i.listed.items
    i.turned entered below apart has (c.loop-turn.invariant.further end end entered place below apart has) (omega arith) at missing
    (λ marked. search (rules, c.has.ensures, marked)))

pub returns-in-Ok-clause-found : goal.returns-in-Ok-clause-found
returns-in-Ok-clause-found g c =
    let keys = map g.T.Keyed.key_of c.args.slots.now in
    let within : c.in-Ok.place < length keys = omega (arith, c.in-Ok.ensures.within, length-map c.args.slots.now g.T.Keyed.key_of) in
    slice_get-get_or keys c.in-Ok.place 0 within ∙ ap Some c.in-Ok.ensures.found

pub returns-in-Err-clause-missing : goal.returns-in-Err-clause-missing
returns-in-Err-clause-missing g c =
    let i = c.self.inside in
    let keys = map g.T.Keyed.key_of c.args.slots.now in
    let end = length keys in
    let entered : AreEntered end end keys (entry_parts i.room i.chains.links i.chains.backs i.turned i.listed.items) =
    subst (λ (e : KeyEntries). AreEntered end end keys e) (sym c.self.view_is) c.requires.holds.entered in
    key_missing keys c.args.key (λ (place : ℕ). λ (below : place < end). λ (has : get_or keys place 0 ≡ c.args.key).
    let apart : place ≢ end = λ same. omega arith in
    let late : 8 ≤ entered.turn place = omega (arith, c.loop-turn.invariant.further end end entered place below apart has) in
    subst (λ (xs : List ℕ). Rises keys xs → (place : ℕ) → IsListed xs place → get_or keys place 0 ≢ c.args.key) c.deref.ensures.value
    c.in-Err.ensures.missing entered.rises place (entered.ended place below apart late) has)

pub returns-then-not-has-clause-seen : goal.returns-then-not-has-clause-seen
returns-then-not-has-clause-seen g c = subst (λ (e : KeyEntries). HaveTurnedAway c.loop-turn.turn c.args.key e) c.self.view_is c.loop-turn.invariant.seen

pub returns-in-Err-clause-seen : goal.returns-in-Err-clause-seen
returns-in-Err-clause-seen g c = λ turn low early.
    subst (λ (e : KeyEntries). HaveTurnedAway c.loop-turn.turn c.args.key e) c.self.view_is c.loop-turn.invariant.seen turn (omega arith) early
