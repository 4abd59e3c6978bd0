use Rattle.std.proofs.Common.{[], List, sym, subst, refl, arith}
use Rattle.std.specs.List.{range_with_len}
use Rattle.rank_table.specs.declared.slot.Slot.{Slot}
use Rattle.rank_table.specs.Ranks.{AreRanked}
use Rattle.rank_table.proofs.LeafLemmas.{leaf_starts_as_its_place}
use Rattle.rank_table.proofs.ranked_slots.RankedSlots.with_capacity.Goals as goal

pub invariant_of-result : goal.invariant_of-result
invariant_of-result c =
    subst (λ (slots : List Slot). AreRanked c.args.capacity c.in_ok-with_capacity.field-0.cap 0 c.in_ok-with_leaves.field-0 slots)
    (sym c.in_ok-with_capacity.ensures.items)
    (record {
      some = omega arith;
      has_room = omega (arith, c.in_ok-with_capacity.ensures.exact);
      has_leaves = record {
        leaves = range_with_len 0 c.args.capacity;
        in_tree = c.in_ok-with_leaves.ensures;
        are_leaves = leaf_starts_as_its_place c.args.capacity 0 [] (omega arith) (omega arith) (λ place d within. absurd (omega arith))
            (λ place d within. absurd (omega arith));
      };
      unbased = λ room. refl;
    })
