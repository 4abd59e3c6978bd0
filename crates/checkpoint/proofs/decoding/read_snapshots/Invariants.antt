use Rattle.std.proofs.Common.{◌≡◌, length, take}
use Rattle.std.specs.List.{flat_map}
use Rattle.checkpoint.specs.Header.{settings_shape}
use Rattle.checkpoint.specs.Body.{snapshot_bytes}
use Rattle.checkpoint.specs.Decoding.{ListFits, BeginsWith, SnapshotFits}
use Rattle.checkpoint.proofs.decoding.read_snapshots.Given as goal

abbrev pub invariant-loop-shard : goal.invariant-loop-shard
invariant-loop-shard l =
    (length l.cut.shards ≡ l.settings.shards) × (l.cut.shape ≡ settings_shape l.settings)
    × BeginsWith (flat_map snapshot_bytes) (ListFits (SnapshotFits (settings_shape l.settings)) l.shard) l.bytes
    (take l.shard l.cut.shards) l.rest
