-- The parts of a table, which no public contract cites.
use Rattle.std.specs.Prelude.{ℕ, ◌≡◌, ◌≤◌, ◌^◌}
use Rattle.key_index.specs.{KeyEntries, HoldsKeys}
use Rattle.space_saving.specs.{table_total, AreTableEntries}
use Rattle.rank_table.specs.SlotOrder.{AreOrdered, ordered_entries}
use Rattle.rank_table.specs.Slot.{Slots, slot_keys}

-- an index of the keys of the slots, both with this capacity
pub record AreParts (capacity : ℕ) (index : KeyEntries) (ranked : Slots) : Type 0 where
  pub roomy : index.room ≡ capacity
  pub as_many : ranked.capacity ≡ capacity
  pub keyed : HoldsKeys (slot_keys ranked.slots) index

-- what always holds of a table: its capacity is allowed, its parts agree, its slots have different times before that of
-- the clock, these fit into a word, and its total is the sum of the counts
pub record IsRankTable (capacity clock total : ℕ) (index : KeyEntries) (ranked : Slots) : Type 0 where
  pub least : 2 ≤ capacity
  pub most : capacity ≤ 4096
  pub together : AreParts capacity index ranked
  pub slots : AreOrdered clock ranked.slots
  pub clocked : clock ≤ 2 ^ 18
  pub adds_up : total ≡ table_total (ordered_entries ranked.slots)
  pub are_entries : AreTableEntries capacity (ordered_entries ranked.slots)
