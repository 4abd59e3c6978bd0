-- The state of a shard, as contracts see it.
use Rattle.std.specs.Prelude.{ℕ, ◌≡◌, ◌+◌, ◌^◌, ◌<◌, ◌≤◌, List, length, take, min, All}
use Rattle.std.specs.List.{slice_range}
use Rattle.prefix_lattice.specs.{RecordValue, total_weight, record_limit}
use Rattle.shard_state.specs.Snapshot.{fold_from, SnapshotValue, IsSnapshot, snapshot_total}

-- the state of a shard: its records, the snapshot that it started from, and how many of its records it counted
pub record ShardValue : Type 0 where
  pub list : List RecordValue
  pub base : SnapshotValue
  pub position : ℕ

-- a shard's state with another position
abbrev pub shard_state_at : ℕ → ShardValue → ShardValue
shard_state_at position shard = record shard { position = position }

-- the tables of a shard: those of its base, after the records from the base's position up to the shard's
abbrev pub snapshot_of : ShardValue → SnapshotValue
snapshot_of shard = record {
  shape = shard.base.shape;
  position = shard.position;
  tables = fold_from 0 shard.base.shape shard.base.tables (slice_range shard.list shard.base.position shard.position);
}

-- a shard after its next `block` records, or its remaining records if they are fewer
abbrev pub folded_shard : ℕ → ShardValue → ShardValue
folded_shard block shard = record shard { position = min (length shard.list) (shard.position + block) }

-- what always holds of a shard's state: its limits, and that each table counted the weight before its position
pub record IsShard (shard : ShardValue) : Type 0 where
  pub few : length shard.list ≤ record_limit
  pub begun : shard.base.position ≤ shard.position
  pub within : shard.position ≤ length shard.list
  pub weighed : All (λ rec. 1 ≤ rec.weight) shard.list
  pub bounded : All (λ rec. rec.weight < 2 ^ 32) shard.list
  pub counted : snapshot_total (snapshot_of shard) ≡ total_weight (take shard.position shard.list)
  pub tables : IsSnapshot (snapshot_of shard)
