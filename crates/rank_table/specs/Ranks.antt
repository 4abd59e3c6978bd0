-- Slots, and a tree whose leaves are over them, which no public contract cites.
use Rattle.std.specs.Prelude.{ℕ, ◌≡◌, ◌%◌, ◌<◌, ◌≤◌, List, length, slice_index, slice_index_or, ◌+◌, ◌*◌, ◌^◌}
use Rattle.loser_tree.specs.{HasLeaves}
use Rattle.rank_table.specs.declared.slot.Slot.{Slot}
use Rattle.rank_table.specs.Words.{rank_word}

-- the count, and for equal counts the time
unfoldable pub slot_rank : Slot → ℕ
slot_rank slot = slot.entry.count * 2 ^ 64 + slot.time

-- the slot at this place comes before all others
pub record HasLeast (slots : List Slot) (place : ℕ) : Type 0 where
  pub within : place < length slots
  pub least : (other : ℕ) (d : Slot) → other < length slots → slot_rank (slice_index_or slots place d) ≤ slot_rank (slice_index_or slots other d)

-- each leaf names its place in its low 12 bits, and is a lower bound of the word of the slot at that place, whose time
-- fits into a word
pub record AreLeaves (capacity base : ℕ) (leaves : List ℕ) (slots : List Slot) : Type 0 where
  pub most : capacity ≤ 4096
  pub shape : length leaves ≡ capacity
  pub fits : length slots ≤ capacity
  pub placed : (place : ℕ) → place < capacity → slice_index leaves place % 4096 ≡ place
  pub early : (place : ℕ) → length slots ≤ place → place < capacity → slice_index leaves place ≡ place
  pub below : (place : ℕ) (d : Slot) → place < length slots → slice_index leaves place ≤ rank_word base (slice_index_or slots place d) place
  pub based : (place : ℕ) (d : Slot) → place < length slots → base ≤ (slice_index_or slots place d).entry.count
  pub timed : (place : ℕ) (d : Slot) → place < length slots → (slice_index_or slots place d).time < 2 ^ 18

-- a tree of such leaves
pub record HasRankLeaves (capacity base : ℕ) (tree : List ℕ) (slots : List Slot) : Type 0 where
  pub leaves : List ℕ
  pub in_tree : HasLeaves tree leaves
  pub are_leaves : AreLeaves capacity base leaves slots

-- memory for all slots, such a tree, and a base of 0 as long as there is room for one more slot
pub record AreRanked (capacity reserved base : ℕ) (tree : List ℕ) (slots : List Slot) : Type 0 where
  pub some : 1 ≤ capacity
  pub has_room : capacity ≤ reserved
  pub has_leaves : HasRankLeaves capacity base tree slots
  pub unbased : length slots < capacity → base ≡ 0
