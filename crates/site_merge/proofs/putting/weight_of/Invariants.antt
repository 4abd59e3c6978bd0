use Rattle.std.proofs.Common.{◌≡◌, take, sum_by}
use Rattle.shard_state.specs.{snapshot_total}
use Rattle.site_merge.proofs.putting.weight_of.Given as goal

abbrev pub invariant-loop-shard : goal.invariant-loop-shard
invariant-loop-shard l = l.weight ≡ sum_by snapshot_total (take l.shard l.cut.shards)
