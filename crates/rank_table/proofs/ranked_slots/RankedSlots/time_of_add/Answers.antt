use Rattle.std.proofs.Common.{◌≡◌, ◌≤◌, length, map, sym, ap, subst, ◌∙◌, arith}
use Rattle.std.proofs.lemmas.List.{length-map}
use Rattle.rank_table.specs.Slot.{Slots}
use Rattle.rank_table.specs.SlotOrder.{AreOrdered, ordered_entries}
use Rattle.rank_table.specs.Times.{renumbered_slot}
use Rattle.rank_table.proofs.RenumberedSlotLemmas.{AreOrdered-renumbered_slots, keys-renumbered_slots, ordered_entries-renumbered_slots}
use Rattle.rank_table.proofs.SlotChangeLemmas.{slot_changes_are_early}
use Rattle.rank_table.proofs.SlotKeyLemmas.{slot_key}
use Rattle.rank_table.proofs.ranked_slots.RankedSlots.time_of_add.Goals as goal

pub returns-clause-keys : goal.returns-clause-keys
returns-clause-keys c = ap (λ (r : Slots). map slot_key r.slots) c.renumber.ensures.slots ∙ keys-renumbered_slots c.args.self.now.slots

pub returns-clause-entries : goal.returns-clause-entries
returns-clause-entries c =
    let slots = c.args.self.now.slots in
    let few : length c.renumber.new.self.slots ≤ 4096 = c.renumber.ensures.fits in
    let as_many : length c.renumber.new.self.slots ≡ length slots = ap (λ (r : Slots). length r.slots) c.renumber.ensures.slots
    ∙ length-map slots (renumbered_slot slots) in
    ap (λ (r : Slots). ordered_entries r.slots) c.renumber.ensures.slots
    ∙ ordered_entries-renumbered_slots slots (omega arith) (slot_changes_are_early c.args.clock slots (omega arith) c.requires.slots)

pub returns-clause-slots : goal.returns-clause-slots
returns-clause-slots c =
    let slots = c.args.self.now.slots in
    let as_many : length c.self.inside.slots.items ≡ length slots = ap (λ (r : Slots). length r.slots) (c.self.view_is ∙ c.renumber.ensures.slots)
    ∙ length-map slots (renumbered_slot slots) in
    let counted : c.len.result ≡ length slots = omega (arith, c.len.ensures, as_many) in
    subst (λ n. AreOrdered n c.renumber.new.self.slots) (sym counted)
    (subst (λ (r : Slots). AreOrdered (length slots) r.slots) (sym c.renumber.ensures.slots)
    (AreOrdered-renumbered_slots c.args.clock slots c.requires.slots))
