-- A cut, as contracts see it.
use Rattle.std.specs.Prelude.{ℕ, ◌≡◌, ◌≤◌, List, length, map, sum_by, All}
use Rattle.std.proofs.Math.ListN.{replicate}
use Rattle.shard_state.specs.Snapshot.{SnapshotValue, IsSnapshot, empty_snapshot, snapshot_total, SnapshotRepresents}
use Rattle.shard_state.specs.Snapshot.{TableShape}
use Rattle.std.specs.List.{AllZip}
use Rattle.prefix_lattice.specs.{RecordValue}
use Rattle.space_saving.specs.{least_capacity, most_capacity}
use Rattle.prefix_lattice.specs.{most_grain_capacity}

-- one snapshot for each shard, all of one shape
pub record CutValue : Type 0 where
  pub shape : TableShape
  pub shards : List SnapshotValue

-- the positions of a cut, one for each shard
abbrev pub cut_positions : CutValue → List ℕ
cut_positions cut = map (λ snapshot. snapshot.position) cut.shards

-- the weight that the shards of a cut counted together
abbrev pub total_of_cut : CutValue → ℕ
total_of_cut cut = sum_by snapshot_total cut.shards

-- the most snapshots of a cut, eight times as many as a command may have shards
abbrev pub most_snapshots : ℕ
most_snapshots = 128

-- what always holds of a cut: an allowed shape, and 1 to 128 snapshots, each of that shape
pub record IsCut (cut : CutValue) : Type 0 where
  pub least : least_capacity ≤ cut.shape.capacity
  pub most : cut.shape.capacity ≤ most_capacity
  pub of_grain : cut.shape.capacity ≤ most_grain_capacity cut.shape.grain
  pub some : 1 ≤ length cut.shards
  pub few : length cut.shards ≤ most_snapshots
  pub alike : All (λ snapshot. snapshot.shape ≡ cut.shape) cut.shards
  pub kept : All IsSnapshot cut.shards

-- the cut of no record
abbrev pub empty_cut : ℕ → TableShape → CutValue
empty_cut shards shape = record { shape = shape; shards = replicate shards (empty_snapshot shape) }

-- a cut represents lists of records: each snapshot has the shape of the cut and represents the list of its shard
pub record CutRepresents (cut : CutValue) (lists : List (List RecordValue)) : Type 0 where
  pub alike : All (λ snapshot. snapshot.shape ≡ cut.shape) cut.shards
  pub shards : AllZip SnapshotRepresents cut.shards lists
