use Rattle.std.proofs.Common.{◌≡◌, ◌<◌, ℕ, List, slice_get, Some}
use Rattle.prefix_lattice.specs.{RecordValue}
use Rattle.shard_state.specs.{SnapshotValue}
use Rattle.recovery.specs.Reopening.{ContinuesList}
use Rattle.recovery.proofs.belonging.continues_lists.Given as goal

abbrev pub invariant-loop-shard : goal.invariant-loop-shard
invariant-loop-shard l = (k : ℕ) (snapshot : SnapshotValue) (list : List RecordValue) → k < l.shard
    → slice_get l.cut.shards k ≡ Some snapshot → slice_get l.dealt k ≡ Some list → ContinuesList snapshot list
