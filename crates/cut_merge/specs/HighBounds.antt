-- Upper bounds on the highs of keys.
use Rattle.std.specs.Prelude.{ℕ, ◌≡◌, ◌+◌, ◌-◌, ◌*◌, ◌/◌, ◌%◌, ◌^◌, ◌≤◌, min, List, slice_index, sum_by}
use Rattle.std.specs.Prelude.{Option}
use Rattle.std.specs.Prelude.{None, Some, take}
use Rattle.space_saving.specs.{TableValue, table_entry}
use Rattle.space_saving.specs.declared.entry.Entry.{Entry}
use Rattle.cut_merge.specs.Run.{RunValue, run_interval, missing_high}

-- how many cells there are
abbrev pub cell_count : ℕ
cell_count = 4096

-- a bound is never above this, 2^64 - 1
abbrev pub greatest_bound : ℕ
greatest_bound = 2 ^ 64 - 1

-- the cells, and the sum of the highs of missing keys
pub record BoundsValue : Type 0 where
  pub cells : List ℕ
  pub missing : ℕ

-- the cell that is a key's home: the twelve highest bits of its product with a multiplier
unfoldable pub bound_home : ℕ → ℕ
bound_home key = key * 0x9e3779b97f4a7c15 % 2 ^ 64 / 2 ^ 52

-- what is counted in a key's home
abbrev pub bound_cell : BoundsValue → ℕ → ℕ
bound_cell bounds key = slice_index bounds.cells (bound_home key)

-- the bound on the high of a key
abbrev pub high_bound : BoundsValue → ℕ → ℕ
high_bound bounds key = min greatest_bound (bounds.missing + bound_cell bounds key)

-- one more entry was counted in its key's home
pub record NoteKey (old new : BoundsValue) (key excess : ℕ) : Type 0 where
  pub missing : new.missing ≡ old.missing
  pub raises : (other : ℕ) → bound_cell old other ≤ bound_cell new other
  pub noted : min greatest_bound (bound_cell old key + excess) ≤ bound_cell new key

-- one more table's high of a missing key was added
pub record AddMissing (old new : BoundsValue) (high : ℕ) : Type 0 where
  pub missing : new.missing ≡ min greatest_bound (old.missing + high)
  pub raises : old.missing ≤ new.missing
  pub cells : new.cells ≡ old.cells

-- what an entry counts in its key's home
abbrev pub counted_in : TableValue → Option Entry → ℕ
counted_in table None = 0
counted_in table (Some entry) = entry.count - missing_high table

-- the first entries of a table, this many of them, were counted
pub record NoteEntries (table : TableValue) (old new : BoundsValue) (place : ℕ) : Type 0 where
  pub missing : new.missing ≡ old.missing
  pub raises : (key : ℕ) → bound_cell old key ≤ bound_cell new key
  pub noted : (key : ℕ)
      → min greatest_bound (bound_cell old key + counted_in table (table_entry key (take place table.entries)))
      ≤ bound_cell new key

-- the bounds fit some runs: no key has a higher high
pub record AreBoundsOf (runs : List RunValue) (bounds : BoundsValue) : Type 0 where
  pub highs : (key : ℕ) → min greatest_bound (sum_by (λ run. (run_interval run key).high) runs)
      ≤ bounds.missing + bound_cell bounds key
