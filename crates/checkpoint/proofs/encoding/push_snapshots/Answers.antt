use Rattle.checkpoint.specs.Body.{snapshot_bytes, KeysFit}
use Rattle.checkpoint.proofs.NextValueLemmas.{spelling_of_next_value, all_with_next_value}
use Rattle.checkpoint.proofs.encoding.push_snapshots.Goals as goal

pub loop-shard-preserved : goal.loop-shard-preserved
loop-shard-preserved c =
    let shards = c.args.cut.now.shards in
    let shard = c.loop-shard.shard in (
      spelling_of_next_value snapshot_bytes c.args.out.now.items c.loop-shard.out.items c.push_snapshot.new.out.items shards shard
          c.shard.result.now c.shard.ensures.shard c.loop-shard.invariant.0 c.in_ok-push_snapshot.ensures.spelled,
      all_with_next_value KeysFit shards shard c.shard.result.now c.shard.ensures.shard c.loop-shard.invariant.1 c.in_ok-push_snapshot.ensures.keys,
    )
