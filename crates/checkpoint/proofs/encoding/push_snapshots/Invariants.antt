use Rattle.std.proofs.Common.{◌≡◌, ◌++◌, take}
use Rattle.std.specs.List.{flat_map}
use Rattle.std.specs.Prelude.{All}
use Rattle.checkpoint.specs.Body.{snapshot_bytes, KeysFit}
use Rattle.checkpoint.proofs.encoding.push_snapshots.Given as goal

abbrev pub invariant-loop-shard : goal.invariant-loop-shard
invariant-loop-shard l =
    (l.out.items ≡ l.fn.out.items ++ flat_map snapshot_bytes (take l.shard l.cut.shards))
    × All KeysFit (take l.shard l.cut.shards)
