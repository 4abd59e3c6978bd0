use Rattle.std.proofs.Common.{◌^◌, List, slice_get, sym, ap, ◌∙◌, subst, arith}
use Rattle.std.proofs.lemmas.Option.{slice_get-map}
use Rattle.std.specs.Option.{option_map}
use Rattle.space_saving.specs.{TableValue}
use Rattle.rank_table.specs.declared.slot.Slot.{Slot}
use Rattle.rank_table.specs.SlotOrder.{in_rank_order, AreOrdered}
use Rattle.rank_table.proofs.RankedSlotLemmas.{ranked_slot_entry}
use Rattle.rank_table.proofs.RankTableLemmas.{rank_table_length_as_seen, rank_table_times_are_small}
use Rattle.rank_table.proofs.rank_table.RankTableSummary.entry.Goals as goal

pub slot_at-requires-clause-within : goal.slot_at-requires-clause-within
slot_at-requires-clause-within c =
    omega (
      arith,
      c.requires,
      rank_table_length_as_seen c.self.inside.capacity c.slots.result.now c.self.inside.ranked.slots c.args.self.now c.slots.ensures.slots
          c.self.view_is,
    )

pub slot_at-requires-clause-slots : goal.slot_at-requires-clause-slots
slot_at-requires-clause-slots c =
    subst (AreOrdered (2 ^ 64)) (sym c.slots.ensures.slots)
    (rank_table_times_are_small c.self.inside.capacity c.self.inside.clock c.self.inside.total c.self.inside.index c.self.inside.ranked c.self.invariant)

pub returns : goal.returns
returns c =
    ap (λ (t : TableValue). slice_get t.entries c.args.place) (sym c.self.view_is)
    ∙ slice_get-map ranked_slot_entry (in_rank_order c.self.inside.ranked.slots) c.args.place
    ∙ ap (λ (l : List Slot). option_map ranked_slot_entry (slice_get (in_rank_order l) c.args.place)) (sym c.slots.ensures.slots)
    ∙ ap (option_map ranked_slot_entry) c.slot_at.ensures
