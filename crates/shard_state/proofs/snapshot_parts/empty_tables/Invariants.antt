use Rattle.std.proofs.Common.{◌≡◌, [], replicate}
use Rattle.shard_state.proofs.snapshot_parts.empty_tables.Given as goal

-- the tables so far are empty
abbrev pub invariant-loop-place : goal.invariant-loop-place
invariant-loop-place l = l.tables.items ≡ replicate l._place (record { capacity = l.capacity; entries = [] })
