use Rattle.std.proofs.Common.{◌≡◌, ◌<◌, ◌++◌, ◌∷◌, [], List, length, sym, subst, arith}
use Rattle.rank_table.specs.declared.slot.Slot.{Slot}
use Rattle.rank_table.specs.Slot.{Slots}
use Rattle.rank_table.specs.Ranks.{AreRanked}
use Rattle.rank_table.proofs.LeafLemmas.{leaf_stays_after_push}
use Rattle.rank_table.proofs.ranked_slots.RankedSlots.push.Goals as goal

pub invariant_of-self : goal.invariant_of-self
invariant_of-self c =
    let has = c.self.invariant.has_leaves in
    let items = c.self.inside.slots.items in
    let room : length items < c.self.inside.capacity = subst (λ (r : Slots). length r.slots < r.capacity) (sym c.self.view_is) c.requires.room in
    let pushed : c.push.new.self.items ≡ items ++ c.args.slot ∷ [] = rw c.unwrap.ensures at c.push.ensures.items in
    subst (λ (slots : List Slot). AreRanked c.self.inside.capacity c.push.new.self.cap c.self.inside.base c.self.inside.tree slots) (sym pushed)
    (record {
      some = c.self.invariant.some;
      has_room = omega (arith, c.self.invariant.has_room, c.push.ensures.capacity);
      has_leaves = record {
        leaves = has.leaves;
        in_tree = has.in_tree;
        are_leaves = leaf_stays_after_push c.self.inside.capacity c.self.inside.base has.leaves items c.args.slot has.are_leaves room
            (c.self.invariant.unbased room) c.requires.early;
      };
      unbased = λ _. c.self.invariant.unbased room;
    })
