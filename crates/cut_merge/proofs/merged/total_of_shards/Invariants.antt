use Rattle.std.proofs.Common.{◌≡◌, take, sum_by}
use Rattle.shard_state.specs.{snapshot_total}
use Rattle.cut_merge.proofs.merged.total_of_shards.Given as goal

abbrev pub invariant-loop-place : goal.invariant-loop-place
invariant-loop-place l = l.total ≡ sum_by snapshot_total (take l.place l.cut.shards)
