-- The slots that a step makes, which no public contract cites.
use Rattle.std.specs.Prelude.{ℕ, ◌≡◌, ◌+◌, slice_index_or, slice_set}
use Rattle.rank_table.specs.declared.slot.Slot.{Slot}
use Rattle.rank_table.specs.Ranks.{HasLeast}
use Rattle.rank_table.specs.Slot.{Slots}

-- the slot after this weight is added at this time
abbrev pub raised_slot : ℕ → ℕ → Slot → Slot
raised_slot weight now slot = record { entry = record slot.entry { count = slot.entry.count + weight }; time = now }

-- the slot of a key that takes free room
abbrev pub entered_slot : ℕ → ℕ → ℕ → Slot
entered_slot key weight now = record { entry = record { key = key; count = weight; error = 0 }; time = now }

-- the slot after a new key takes it over: its count becomes the error of the new entry
abbrev pub heir_slot : ℕ → ℕ → ℕ → Slot → Slot
heir_slot key weight now slot = record { entry = record { key = key; count = slot.entry.count + weight; error = slot.entry.count }; time = now }

-- the slot of the least rank was taken over by this key
pub record IsTakenOver (key weight now : ℕ) (ranked ranked_after : Slots) : Type 0 where
  pub place : ℕ
  pub least : HasLeast ranked.slots place
  pub taken : (d : Slot)
      → ranked_after ≡ record ranked { slots = slice_set ranked.slots place (heir_slot key weight now (slice_index_or ranked.slots place d)) }
