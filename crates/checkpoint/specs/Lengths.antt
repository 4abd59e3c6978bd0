-- How many bytes a body of a store may have.
use Rattle.std.specs.Prelude.{ℕ, ◌+◌, ◌*◌}
use Rattle.prefix_lattice.specs.{node_count}
use Rattle.shard_state.specs.{TableShape}
use Rattle.checkpoint.specs.Header.{settings_shape}
use Rattle.checkpoint.specs.declared.settings.StoreSettings.{StoreSettings}

-- how many bytes an entry has: its key, its count and its error, 8 each
abbrev pub entry_span : ℕ
entry_span = 24

-- the most bytes of a table: its total in 8, the number of its entries in 4, and the entries
abbrev pub table_span : ℕ → ℕ
table_span capacity = 12 + entry_span * capacity

-- the most bytes of a snapshot: its position in 8, and its tables
abbrev pub snapshot_span : TableShape → ℕ
snapshot_span shape = 8 + node_count shape.grain * table_span shape.capacity

-- how many bytes precede the snapshots of a body: its length in 8, its sequence in 8, and its digest in 32
abbrev pub front_span : ℕ
front_span = 48

-- the most bytes of a body of this many shards and of tables of this shape
abbrev pub body_span : ℕ → TableShape → ℕ
body_span shards shape = front_span + shards * snapshot_span shape

-- the most bytes of a body under these settings
abbrev pub span_of : StoreSettings → ℕ
span_of settings = body_span settings.shards (settings_shape settings)
