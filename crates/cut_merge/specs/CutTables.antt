-- What the tables of a cut say together: their keys, and the interval of each.
use Rattle.std.specs.Prelude.{ℕ, List, map, ◌==◌, not, [], ◌∷◌, filter, sum_by}
use Rattle.std.specs.List.{flat_map}
use Rattle.prefix_lattice.specs.{IsWithinTotal, NodeValue, PrefixValue, node_of_prefix, prefix_key}
use Rattle.space_saving.specs.{TableValue, interval_in}
pub use Rattle.space_saving.specs.{TableInterval}
use Rattle.shard_state.specs.{table_at, CutValue}

-- the keys of a list, each once, in the order in which they are first seen
abbrev pub first_seen : List ℕ → List ℕ
first_seen [] = []
first_seen (key ∷ keys) = key ∷ filter (λ other. not (key == other)) (first_seen keys)

-- the keys of a table, in the order of its entries
abbrev pub keys_of : TableValue → List ℕ
keys_of table = map (λ entry. entry.key) table.entries

-- the keys that some table monitors, each once, in the order in which they are first seen over tables and entries
abbrev pub monitored_in : List TableValue → List ℕ
monitored_in tables = first_seen (flat_map keys_of tables)

-- the merged interval of a key over some tables: the sum of its lows, and the sum of its highs
abbrev pub interval_over : List TableValue → ℕ → TableInterval
interval_over tables key = record {
  low = sum_by (λ table. (interval_in table key).low) tables;
  high = sum_by (λ table. (interval_in table key).high) tables;
}

-- the tables of a node, one for each shard of a cut
abbrev pub tables_at : NodeValue → CutValue → List TableValue
tables_at node cut = map (table_at node) cut.shards

-- the keys that some shard of a cut monitors at a node, each once, in the order in which they are first seen
abbrev pub monitored_in_cut : CutValue → NodeValue → List ℕ
monitored_in_cut cut node = monitored_in (tables_at node cut)

-- the merged interval of a prefix in a cut: the sums of the lows and of the highs of its key over the shards
abbrev pub interval_in_cut : CutValue → PrefixValue → TableInterval
interval_in_cut cut prefix =
    interval_over (tables_at (node_of_prefix cut.shape.grain prefix) cut) (prefix_key prefix)

-- an interval of tables is within a total
abbrev pub FitsTotal : ℕ → TableInterval → Type 0
FitsTotal total interval = IsWithinTotal interval.low interval.high total
