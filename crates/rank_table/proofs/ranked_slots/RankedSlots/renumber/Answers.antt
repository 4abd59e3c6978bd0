use Rattle.std.proofs.Common.{◌≡◌, ◌++◌, ◌^◌, List, length, take, drop, sym, ap, subst, ◌∙◌}
use Rattle.std.proofs.Math.Seq.{take-append_seam}
use Rattle.std.proofs.lemmas.List.{length-map}
use Rattle.rank_table.specs.declared.slot.Slot.{Slot}
use Rattle.rank_table.specs.Slot.{Slots}
use Rattle.rank_table.specs.SlotOrder.{AreOrdered}
use Rattle.rank_table.specs.Ranks.{AreRanked}
use Rattle.rank_table.specs.Times.{renumbered_slot, renumbered_slots}
use Rattle.rank_table.proofs.LeafLemmas.{leaf_restarts_when_renumbered}
use Rattle.rank_table.proofs.ranked_slots.RankedSlots.renumber.Goals as goal

pub invariant_of-self : goal.invariant_of-self
invariant_of-self c =
    let items = c.self.inside.slots.items in
    let was = c.deref_mut.result.now in
    let now = c.renumber_slots.new.slots in
    let behind = drop (length now) items in
    let many : length now ≡ c.self.inside.slots.len = ap length c.renumber_slots.ensures.slots ∙ length-map was (renumbered_slot was)
    ∙ c.deref_mut.ensures.len in
    let slots : take c.self.inside.slots.len (now ++ behind) ≡ renumbered_slots items = ap (λ n. take n (now ++ behind)) (sym many)
    ∙ take-append_seam now behind ∙ c.renumber_slots.ensures.slots ∙ ap renumbered_slots c.deref_mut.ensures.value in
    let ordered : AreOrdered (2 ^ 18) items = subst (λ (r : Slots). AreOrdered (2 ^ 18) r.slots) (sym c.self.view_is) c.requires in
    subst (λ (l : List Slot). AreRanked c.self.inside.capacity c.self.inside.slots.cap c.self.inside.base c.renumber_slots.new.tree l) (sym slots)
    (leaf_restarts_when_renumbered c.self.inside.capacity c.self.inside.slots.cap c.self.inside.base c.self.inside.tree c.renumber_slots.new.tree items
    c.self.invariant ordered c.renumber_slots.ensures.restarted)
