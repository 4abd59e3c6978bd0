use Rattle.std.proofs.Common.{◌<◌, ◌≤◌, length, get_or, length-set, sym, subst, arith}
use Rattle.rank_table.specs.Slot.{Slots}
use Rattle.rank_table.proofs.LeafLemmas.{leaf_stays_below_raised_slot}
use Rattle.rank_table.proofs.ranked_slots.RankedSlots.raise.Goals as goal

pub invariant_of-self : goal.invariant_of-self
invariant_of-self c =
    let has = c.self.invariant.has_leaves in
    let items = c.self.inside.slots.items in
    let within : c.args.place < length items = subst (λ (r : Slots). c.args.place < length r.slots) (sym c.self.view_is) c.requires.within in
    let more = subst (λ (r : Slots). (get_or r.slots c.args.place c.args.slot).entry.count ≤ c.args.slot.entry.count) (sym c.self.view_is)
    (c.requires.count c.args.slot) in
    let later = subst (λ (r : Slots). (get_or r.slots c.args.place c.args.slot).time ≤ c.args.slot.time) (sym c.self.view_is) (c.requires.time c.args.slot) in
    record {
      some = c.self.invariant.some;
      has_room = c.self.invariant.has_room;
      has_leaves = record {
        leaves = has.leaves;
        in_tree = has.in_tree;
        are_leaves = leaf_stays_below_raised_slot c.self.inside.capacity c.self.inside.base has.leaves items c.args.place c.args.slot has.are_leaves within
            more later c.requires.early;
      };
      unbased = λ room. c.self.invariant.unbased (omega (arith, length-set items c.args.place c.args.slot));
    }
