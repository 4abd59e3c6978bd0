use Rattle.std.proofs.Common.{◌≡◌, replicate}
use Rattle.shard_state.specs.Snapshot.{empty_snapshot}
use Rattle.shard_state.proofs.cut.Cut.with_room.Given as goal

-- the snapshots so far are empty
abbrev pub invariant-loop-shard : goal.invariant-loop-shard
invariant-loop-shard l = l.snapshots.items ≡ replicate l._shard (empty_snapshot (record { grain = l.grain; capacity = l.capacity }))
