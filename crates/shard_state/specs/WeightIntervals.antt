-- What the interval of a prefix says of its weight.
use Rattle.std.specs.Prelude.{ℕ, List}
use Rattle.prefix_lattice.specs.{RecordValue, PrefixValue, node_of_prefix, prefix_key, prefix_weight, total_weight}
use Rattle.prefix_lattice.specs.{HoldsWeight, IsNarrow}
use Rattle.space_saving.specs.{TableInterval, interval_in, interval_after}
use Rattle.shard_state.specs.Snapshot.{adds_of, SnapshotValue, table_at, TableShape}

-- an interval holds a weight, and is no wider than a total divided by a capacity
pub record HoldsNarrowly (interval : TableInterval) (capacity weight total : ℕ) : Type 0 where
  pub holds : HoldsWeight interval.low interval.high weight
  pub narrow : IsNarrow interval.low interval.high capacity total

-- the interval of a prefix in the table of records at its node
abbrev pub interval_over : TableShape → PrefixValue → List RecordValue → TableInterval
interval_over shape prefix records =
    interval_after shape.capacity (adds_of (node_of_prefix shape.grain prefix) records) (prefix_key prefix)

-- the interval of a prefix in the table of a snapshot at its node
abbrev pub interval_of : PrefixValue → SnapshotValue → TableInterval
interval_of prefix snapshot =
    interval_in (table_at (node_of_prefix snapshot.shape.grain prefix) snapshot) (prefix_key prefix)

-- the interval of a prefix in the table of records holds the exact weight of the prefix over them, and is no wider than
-- their total weight divided by the capacity
abbrev pub HoldsNarrowlyOver : TableShape → PrefixValue → List RecordValue → Type 0
HoldsNarrowlyOver shape prefix records =
    HoldsNarrowly (interval_over shape prefix records) shape.capacity (prefix_weight prefix records)
    (total_weight records)
