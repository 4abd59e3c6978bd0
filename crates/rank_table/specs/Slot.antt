-- Slots by place, which no public contract cites.
use Rattle.std.specs.Prelude.{ℕ, List, ◌≢◌, [], ◌∷◌, ⊤, map}
use Rattle.std.specs.List.{AllByRecursion}
use Rattle.rank_table.specs.declared.slot.Slot.{Slot}

-- the most slots that there can be, and the slots
pub record Slots : Type 0 where
  pub capacity : ℕ
  pub slots : List Slot

-- the keys of slots
abbrev pub slot_keys : List Slot → List ℕ
slot_keys slots = map (λ slot. slot.entry.key) slots

-- two slots with different keys and different times
abbrev pub AreApart : Slot → Slot → Type 0
AreApart slot other = (slot.entry.key ≢ other.entry.key) × (slot.time ≢ other.time)

-- no two slots have the same key or the same time
abbrev pub AreDistinct : List Slot → Type 0
AreDistinct [] = ⊤
AreDistinct (slot ∷ rest) = AllByRecursion (AreApart slot) rest × AreDistinct rest
