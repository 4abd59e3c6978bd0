use Rattle.std.proofs.Common.{◌≡◌, ◌+◌, ◌-◌, ◌<◌, ◌≤◌, ℕ, List, length, map, get_or, set, sym, subst, arith, rules}
use Rattle.std.specs.List.{All}
use Rattle.std.proofs.lemmas.List.{length-map}
use Rattle.std.proofs.lemmas.List.Elements.{All-set}
use Rattle.key_index.specs.Chains.{AreChains}
use Rattle.key_index.specs.Entries.{AreEntered, LeadBelow}
use Rattle.key_index.specs.KeyIndex.{HoldsKeys, HoldsKeysButOne}
use Rattle.key_index.proofs.LeaveLemmas.{Leaves}
use Rattle.key_index.proofs.EntryLemmas.{entry_parts, entry_ranks_without, entry_leaves, entry_out_of_chain}
use Rattle.key_index.proofs.EntryLemmas.{entry_out_of_list, entry_is_listed}
use Rattle.key_index.proofs.KeyLemmas.{key_of_replaced}
use Rattle.key_index.proofs.key_index.KeyIndex.leave.Goals as goal

pub remove-requires-clause-rises : goal.remove-requires-clause-rises
remove-requires-clause-rises g c =
    let i = c.self.inside in
    let keys = map g.T.Keyed.key_of c.args.slots.now in
    let holds : HoldsKeys keys (entry_parts i.room i.chains.links i.chains.backs i.turned i.listed.items) =
    subst (HoldsKeys keys) (sym c.self.view_is) c.requires.holds in
    holds.entered.rises

pub remove-requires-clause-listed : goal.remove-requires-clause-listed
remove-requires-clause-listed g c =
    let i = c.self.inside in
    let keys = map g.T.Keyed.key_of c.args.slots.now in
    let holds : HoldsKeys keys (entry_parts i.room i.chains.links i.chains.backs i.turned i.listed.items) =
    subst (HoldsKeys keys) (sym c.self.view_is) c.requires.holds in
    entry_is_listed (length keys) c.args.place i.room keys i.chains.links i.chains.backs i.listed.items i.turned
    (omega (arith, c.requires.within, length-map c.args.slots.now g.T.Keyed.key_of)) holds.entered (search rules)

pub returns-then-has-clause-others : goal.returns-then-has-clause-others
returns-then-has-clause-others g c = λ key.
    let i = c.self.inside in
    let keys = map g.T.Keyed.key_of c.args.slots.now in
    let end = length keys in
    let parts = entry_parts i.room i.chains.links i.chains.backs i.turned i.listed.items in
    let holds : HoldsKeys keys parts = subst (HoldsKeys keys) (sym c.self.view_is) c.requires.holds in
    let entered : AreEntered end end keys parts = holds.entered in
    let shape = c.self.invariant.shape in
    let roomy : i.chains.room ≡ i.room = c.self.invariant.roomy in
    let chains : AreChains i.chains.room i.chains.links i.chains.backs entered.rank entered.home =
    subst (λ room. AreChains room i.chains.links i.chains.backs entered.rank entered.home) (sym roomy) entered.chains in
    let leaves = entry_leaves i.chains.room i.chains.links i.chains.backs entered.rank entered.home c.args.place chains
    shape.cells shape.places shape.marks (search rules) in
    let front = get_or i.chains.backs (c.args.place + 1) 0 - 1 in
    let next = get_or i.chains.links c.args.place 0 in
    let after = set i.chains.links front next in
    let ways = set (set i.chains.backs next (get_or i.chains.backs (c.args.place + 1) 0)) (c.args.place + 1) 0 in
    let within : c.args.place < length i.chains.links =
    omega (arith, c.requires.within, length-map c.args.slots.now g.T.Keyed.key_of, holds.few, roomy, shape.cells) in
    let leads : LeadBelow end after i.listed.items = record {
      marks = All-set (λ mark. mark ≤ end) i.chains.links front next (holds.leads.marks c.args.place 0 within) holds.leads.marks;
      places = holds.leads.places;
    } in
    let left : AreEntered end c.args.place keys (entry_parts i.room after ways i.turned i.listed.items) =
    entry_out_of_chain end c.args.place i.room front keys i.chains.links i.chains.backs i.listed.items i.turned after ways
    (entry_ranks_without entered.rank entered.home c.args.place) entered
    (subst (λ room. Leaves room i.chains.links i.chains.backs entered.rank entered.home after ways
    (entry_ranks_without entered.rank entered.home c.args.place) c.args.place front) roomy leaves) in
    subst (λ (links : List ℕ). HoldsKeysButOne c.args.place (set keys c.args.place key)
    (entry_parts i.room links c.unlink.new.self.backs i.turned i.listed.items)) (sym c.unlink.ensures.links)
    (subst (λ (backs : List ℕ). HoldsKeysButOne c.args.place (set keys c.args.place key)
    (entry_parts i.room after backs i.turned i.listed.items)) (sym c.unlink.ensures.backs)
    (key_of_replaced c.args.place key keys (entry_parts i.room after ways i.turned i.listed.items) holds.few leads left))

pub returns-else-has-clause-others : goal.returns-else-has-clause-others
returns-else-has-clause-others g c = λ key.
    let i = c.self.inside in
    let keys = map g.T.Keyed.key_of c.args.slots.now in
    let end = length keys in
    let holds : HoldsKeys keys (entry_parts i.room i.chains.links i.chains.backs i.turned i.listed.items) =
    subst (HoldsKeys keys) (sym c.self.view_is) c.requires.holds in
    let long : end ≡ length c.args.slots.now = length-map c.args.slots.now g.T.Keyed.key_of in
    key_of_replaced c.args.place key keys (entry_parts i.room i.chains.links i.chains.backs i.turned c.remove.new.listed.items) holds.few
    (record {
      marks = holds.leads.marks;
      places = subst (λ n. All (λ place. place < n) c.remove.new.listed.items) (sym long) c.remove.ensures.places;
    })
    (entry_out_of_list end c.args.place i.room keys i.chains.links i.chains.backs i.listed.items i.turned c.remove.new.listed.items
    holds.entered (search rules) c.remove.ensures.less)
