-- What always holds of a table, which no public contract cites.
use Rattle.std.specs.Prelude.{ℕ, ◌≡◌, ◌≤◌, length}
use Rattle.key_index.specs.{KeyEntries}
use Rattle.space_saving.specs.{table_total, AreTableEntries}
use Rattle.stream_summary.specs.declared.arena.Arena.{Arena}
use Rattle.stream_summary.specs.Arena.{AreParts, arena_entries}

-- its capacity is allowed, its parts agree, its entries are those of a table, and its total is the sum of the counts
pub record IsStreamTable (capacity total : ℕ) (index : KeyEntries) (arena : Arena) : Type 0 where
  pub least : 2 ≤ capacity
  pub most : capacity ≤ 4096
  pub as_many : length arena.buckets.items ≡ capacity
  pub together : AreParts index arena
  pub adds_up : total ≡ table_total (arena_entries arena)
  pub are_entries : AreTableEntries capacity (arena_entries arena)
