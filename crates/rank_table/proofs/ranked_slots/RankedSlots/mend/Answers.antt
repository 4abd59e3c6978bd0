use Rattle.std.proofs.Common.{◌≡◌, ◌<◌, length, get_or, sym, subst}
use Rattle.rank_table.specs.Slot.{Slots}
use Rattle.rank_table.proofs.LeafLemmas.{least_leaf_is_mended_to_word}
use Rattle.rank_table.proofs.ranked_slots.RankedSlots.mend.Goals as goal

pub invariant_of-self : goal.invariant_of-self
invariant_of-self c =
    let base = c.self.inside.base in
    let items = c.self.inside.slots.items in
    let place = c.args.place in
    let within : place < length items = subst (λ (r : Slots). place < length r.slots) (sym c.self.view_is) c.requires.within in
    let at : c.args.slot.now ≡ get_or items place c.args.slot.now = subst (λ (r : Slots). c.args.slot.now ≡ get_or r.slots place c.args.slot.now)
    (sym c.self.view_is) (sym (c.requires.slot c.args.slot.now)) in
    record {
      some = c.self.invariant.some;
      has_room = c.self.invariant.has_room;
      has_leaves = least_leaf_is_mended_to_word c.self.inside.capacity base c.least.result place c.word_of-word.result c.self.inside.tree
          c.replace_least.new.self items c.args.slot.now c.self.invariant.has_leaves within c.if-least-place.true c.least.ensures.present
          c.least.ensures.least at c.word_of-word.ensures c.replace_least.ensures.leaves;
      unbased = c.self.invariant.unbased;
    }
