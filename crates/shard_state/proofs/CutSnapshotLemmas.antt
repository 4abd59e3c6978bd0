-- A cut with one snapshot replaced.
use Rattle.std.proofs.Common.{◌≡◌, ℕ, ◌-◌, ◌<◌, ◌≤◌, ◌^◌, length, slice_set, All, arith, length-set}
use Rattle.std.proofs.lemmas.List.Sums.{sum_by-le}
use Rattle.std.proofs.lemmas.List.Elements.{All-set, All-weaker}
use Rattle.shard_state.specs.Snapshot.{SnapshotValue, IsSnapshot, snapshot_total}
use Rattle.shard_state.specs.Cut.{CutValue, IsCut, total_of_cut}
use Rattle.prefix_lattice.specs.{node_at}
use Rattle.prefix_lattice.proofs.NodePlaceLemmas.{node_count-some, IsNode-node_at_place}

-- a cut stays one when a snapshot is replaced by one of the same shape
pub IsCut-set_snapshot : (cut : CutValue) (shard : ℕ) (snapshot : SnapshotValue) → IsCut cut → IsSnapshot snapshot → snapshot.shape ≡ cut.shape
    → IsCut (record cut { shards = slice_set cut.shards shard snapshot })
IsCut-set_snapshot cut shard snapshot is is_snapshot same = record {
  least = is.least;
  most = is.most;
  of_grain = is.of_grain;
  some = omega (arith, is.some, length-set cut.shards shard snapshot);
  few = omega (arith, is.few, length-set cut.shards shard snapshot);
  alike = All-set (λ (s : SnapshotValue). s.shape ≡ cut.shape) cut.shards shard snapshot same is.alike;
  kept = All-set IsSnapshot cut.shards shard snapshot is_snapshot is.kept;
}

-- a cut of at most 16 shards counted less than 2^60
pub total_of_cut-few_snapshots : (cut : CutValue) → IsCut cut → length cut.shards ≤ 16 → total_of_cut cut < 2 ^ 60
total_of_cut-few_snapshots cut is few =
    let each : All (λ (s : SnapshotValue). snapshot_total s ≤ 2 ^ 56 - 1) cut.shards =
    All-weaker IsSnapshot (λ (s : SnapshotValue). snapshot_total s ≤ 2 ^ 56 - 1)
    (λ s kept.
    let root = kept.tables (node_at s.shape.grain 0) (IsNode-node_at_place s.shape.grain 0 (node_count-some s.shape.grain)) in
    omega (arith, root.counted, root.are_entries.bounded)) cut.shards is.kept in
    let all = sum_by-le snapshot_total (2 ^ 56 - 1) cut.shards each in
    omega (arith, all, few)
