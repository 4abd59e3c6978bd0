use Rattle.std.proofs.Common.{◌≡◌, ◌+◌, ◌*◌, ◌≤◌, length, take}
use Rattle.std.specs.List.{flat_map}
use Rattle.checkpoint.specs.Body.{snapshot_bytes}
use Rattle.checkpoint.proofs.lengths.body_length.Given as goal

abbrev pub invariant-loop-shard : goal.invariant-loop-shard
invariant-loop-shard l =
    (l.length ≡ 48 + length (flat_map snapshot_bytes (take l.shard l.cut.shards))) × (l.length ≤ 48 + l.shard * 7963604)
