use Rattle.std.proofs.Common.{◌≡◌, ℕ, ◌<◌, slice_get, Some}
use Rattle.prefix_lattice.specs.{node_at}
use Rattle.space_saving.specs.{TableValue, AreTableEntries}
use Rattle.shard_state.specs.Snapshot.{IsLikeTable}
use Rattle.shard_state.proofs.snapshot_parts.are_tables.Given as goal

-- the tables so far are alike
abbrev pub invariant-loop-place : goal.invariant-loop-place
invariant-loop-place l = record {
  alike : (k : ℕ) (t : TableValue) → k < l.place → slice_get l.tables k ≡ Some t → IsLikeTable l.capacity l.total (node_at l.grain k) t;
  kept : (k : ℕ) (t : TableValue) → k < l.place → slice_get l.tables k ≡ Some t → AreTableEntries t.capacity t.entries;
}
