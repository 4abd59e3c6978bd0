-- A filter of keys: homes, and in which of them a key was seen.
use Rattle.std.specs.Prelude.{ℕ, ◌≡◌, ◌*◌, ◌/◌, ◌%◌, ◌^◌, Bool, true, false, List, length, slice_index_or, take, is_some}
use Rattle.space_saving.specs.{TableValue, table_entry}

-- the home of a key among this many: the high half of its product with a multiplier, scaled to their number
abbrev pub seen_home : ℕ → ℕ → ℕ
seen_home count key = key * 0x9e3779b97f4a7c15 % 2 ^ 64 / 2 ^ 32 * count / 2 ^ 32

-- whether a key with the home of this one was seen
abbrev pub is_seen : List Bool → ℕ → Bool
is_seen homes key = slice_index_or homes (seen_home (length homes) key) false

-- a key was seen, and those seen before still are
pub record SeesKey (old new : List Bool) (key : ℕ) : Type 0 where
  pub now : is_seen new key ≡ true
  pub kept : (other : ℕ) → is_seen old other ≡ true → is_seen new other ≡ true

-- the keys of the first entries of a table, this many of them, were seen, and those seen before still are
pub record SeeEntries (table : TableValue) (old new : List Bool) (place : ℕ) : Type 0 where
  pub seen : (key : ℕ) → is_some (table_entry key (take place table.entries)) ≡ true → is_seen new key ≡ true
  pub kept : (key : ℕ) → is_seen old key ≡ true → is_seen new key ≡ true
