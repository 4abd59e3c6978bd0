-- The rank of a slot in one word, which no public contract cites.
use Rattle.std.specs.Prelude.{ℕ, ◌+◌, ◌-◌, ◌*◌, ◌%◌, ◌^◌, ◌<◌, min, List, [], ◌∷◌, slice_index_or}
use Rattle.rank_table.specs.declared.slot.Slot.{Slot}
use Rattle.rank_table.specs.Marks.{without_mark}

-- the excess of the count over the base, capped at 34 bits, the time in 18 bits and the place in 12
unfoldable pub rank_word : ℕ → Slot → ℕ → ℕ
rank_word base slot place = min (slot.entry.count - base) (2 ^ 34 - 1) * 2 ^ 30 + slot.time * 4096 + place

-- the excess doesn't reach its cap
abbrev pub IsExactWord : ℕ → Slot → Type 0
IsExactWord base slot = slot.entry.count - base < 2 ^ 34 - 1

-- the words of slots at places from this one on, over a base of 0
abbrev pub words_from : ℕ → List Slot → List ℕ
words_from place [] = []
words_from place (slot ∷ rest) = rank_word 0 slot place ∷ words_from (place + 1) rest

-- the slot that a word names
abbrev pub slot_of_word : List Slot → ℕ → Slot
slot_of_word slots word = slice_index_or slots (word % 4096) without_mark
