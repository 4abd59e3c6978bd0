-- The tables of a shard at a position, one for each node of a grain.
use Rattle.std.specs.Prelude.{ℕ, ◌≡◌, ◌+◌, List, [], ◌∷◌, map, fold, All, ◌≤◌, length, slice_index_or, slice_get, Some}
use Rattle.std.specs.Prelude.{take}
use Rattle.prefix_lattice.specs.{RecordValue, NodeValue, node_at, IsNode, node_index, prefix_at, prefix_key}
use Rattle.prefix_lattice.specs.{IsPrefixKey, most_grain_capacity, node_count, record_limit}
use Rattle.space_saving.specs.declared.entry.Entry.{Entry}
use Rattle.space_saving.specs.{TableAdd, after_step, table_of, table_total, TableValue, AreTableEntries}
use Rattle.space_saving.specs.{least_capacity, most_capacity}
use Rattle.prefix_lattice.specs.declared.grain.Grain.{Grain}
use Rattle.std.proofs.Math.ListN.{replicate}

-- the shape of a shard's tables: the grain of their nodes, and the most entries of each
pub record TableShape : Type 0 where
  pub grain : Grain
  pub capacity : ℕ

-- what records add to a table at a node: for each record its weight, under the key of its prefix at the node
abbrev pub adds_of : NodeValue → List RecordValue → List TableAdd
adds_of node records = map (λ rec. record { key = prefix_key (prefix_at node rec); weight = rec.weight }) records

-- the entries of the table of these records at a node, started empty
abbrev pub records_table : ℕ → NodeValue → List RecordValue → List Entry
records_table capacity node records = table_of capacity (adds_of node records)

-- the entries of a table at a node after more records
abbrev pub fold_at : ℕ → NodeValue → List Entry → List RecordValue → List Entry
fold_at capacity node entries records = fold (after_step capacity) entries (adds_of node records)

-- a row of tables after more records; the first table is that of the node at this index
abbrev pub fold_from : ℕ → TableShape → List (List Entry) → List RecordValue → List (List Entry)
fold_from place shape [] records = []
fold_from place shape (entries ∷ rest) records =
    fold_at shape.capacity (node_at shape.grain place) entries records ∷ fold_from (place + 1) shape rest records

-- each entry has a key of the node
abbrev pub HasKeys : NodeValue → List Entry → Type 0
HasKeys node entries = All (λ entry. IsPrefixKey node entry.key) entries

-- the entries of a table of a node, whose counts add up to this total
pub record IsTableAt (capacity total : ℕ) (node : NodeValue) (entries : List Entry) : Type 0 where
  pub are_entries : AreTableEntries capacity entries
  pub counted : table_total entries ≡ total
  pub keyed : HasKeys node entries

-- the tables of a shard at a position: their shape, how many records they count, and the entries of each table, in the
-- order of the nodes' indexes
pub record SnapshotValue : Type 0 where
  pub shape : TableShape
  pub position : ℕ
  pub tables : List (List Entry)

-- the entries of the table at a node
abbrev pub entries_at : NodeValue → SnapshotValue → List Entry
entries_at node snapshot = slice_index_or snapshot.tables (node_index node) []

-- the table at a node
abbrev pub table_at : NodeValue → SnapshotValue → TableValue
table_at node snapshot = record { capacity = snapshot.shape.capacity; entries = entries_at node snapshot }

-- all tables of a snapshot, in the order of the nodes' indexes
abbrev pub tables_of : SnapshotValue → List TableValue
tables_of snapshot = map (λ entries. record { capacity = snapshot.shape.capacity; entries = entries }) snapshot.tables

-- the weight that each table of a snapshot counted
abbrev pub snapshot_total : SnapshotValue → ℕ
snapshot_total snapshot = table_total (slice_index_or snapshot.tables 0 [])

-- what always holds of a snapshot: a position within the limit, and one table for each node of its grain, all of one
-- allowed capacity and one total, each with keys of its node
pub record IsSnapshot (snapshot : SnapshotValue) : Type 0 where
  pub least : least_capacity ≤ snapshot.shape.capacity
  pub most : snapshot.shape.capacity ≤ most_capacity
  pub of_grain : snapshot.shape.capacity ≤ most_grain_capacity snapshot.shape.grain
  pub placed : snapshot.position ≤ record_limit
  pub as_many : length snapshot.tables ≡ node_count snapshot.shape.grain
  pub tables : (node : NodeValue) → IsNode snapshot.shape.grain node
      → IsTableAt snapshot.shape.capacity (snapshot_total snapshot) node (entries_at node snapshot)

-- one table without entries for each node of a grain
unfoldable pub no_entries : Grain → List (List Entry)
no_entries grain = replicate (node_count grain) []

-- the snapshot of no records
abbrev pub empty_snapshot : TableShape → SnapshotValue
empty_snapshot shape = record { shape = shape; position = 0; tables = no_entries shape.grain }

-- a table of this capacity and total, whose keys are those of the node
pub record IsLikeTable (capacity total : ℕ) (node : NodeValue) (table : TableValue) : Type 0 where
  pub same_capacity : table.capacity ≡ capacity
  pub same_total : table_total table.entries ≡ total
  pub keyed : HasKeys node table.entries

-- one table for each node of a grain, all of one capacity and one total, each with keys of the node at its index
pub record AreTablesOf (grain : Grain) (tables : List TableValue) : Type 0 where
  pub capacity : ℕ
  pub total : ℕ
  pub of_grain : capacity ≤ most_grain_capacity grain
  pub as_many : length tables ≡ node_count grain
  pub alike : (place : ℕ) (table : TableValue) → slice_get tables place ≡ Some table
      → IsLikeTable capacity total (node_at grain place) table

-- the parts of a snapshot: a position of at most 2^24, and such tables
pub record AreParts (grain : Grain) (position : ℕ) (tables : List TableValue) : Type 0 where
  pub placed : position ≤ record_limit
  pub are_tables : AreTablesOf grain tables

-- a table of a node after more records
abbrev pub table_after : NodeValue → List RecordValue → TableValue → TableValue
table_after node records table = record table { entries = fold_at table.capacity node table.entries records }

-- a row of tables of a grain after more records; the first table is that of the node at this index
abbrev pub tables_after : Grain → ℕ → List TableValue → List RecordValue → List TableValue
tables_after grain place [] records = []
tables_after grain place (table ∷ rest) records =
    table_after (node_at grain place) records table ∷ tables_after grain (place + 1) rest records

-- the snapshot of this shape, at this position, with the entries of these tables
abbrev pub copied_from : TableShape → ℕ → List TableValue → SnapshotValue
copied_from shape position tables =
    record { shape = shape; position = position; tables = map (λ table. table.entries) tables }

-- a snapshot represents a list of records: there is one table for each node of its grain, that of the list's first n
-- records, n being the snapshot's position
pub record SnapshotRepresents (snapshot : SnapshotValue) (list : List RecordValue) : Type 0 where
  pub within : snapshot.position ≤ length list
  pub as_many : length snapshot.tables ≡ node_count snapshot.shape.grain
  pub tables : (node : NodeValue) → IsNode snapshot.shape.grain node
      → entries_at node snapshot ≡ records_table snapshot.shape.capacity node (take snapshot.position list)
