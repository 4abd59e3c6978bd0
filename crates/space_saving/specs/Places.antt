-- The index of an entry in a table, which no public contract cites.
use Rattle.std.specs.Prelude.{ℕ, ◌≡◌, ◌<◌, List, length, slice_get}
use Rattle.std.specs.List.{remove}
use Rattle.space_saving.specs.declared.entry.Entry.{Entry}
use Rattle.space_saving.specs.Summary.{table_entry, table_without}

-- the first entry of the key is at this index
pub record IsPlaceOf (key : ℕ) (entries : List Entry) (place : ℕ) : Type 0 where
  pub within : place < length entries
  pub found : table_entry key entries ≡ slice_get entries place
  pub rest : table_without key entries ≡ remove entries place
