use Rattle.std.proofs.Common.{arith}
use Rattle.checkpoint.specs.Body.{snapshot_bytes}
use Rattle.checkpoint.proofs.NextValueLemmas.{length_with_next_value}
use Rattle.checkpoint.proofs.lengths.body_length.Goals as goal

pub loop-shard-preserved : goal.loop-shard-preserved
loop-shard-preserved c =
    let more = length_with_next_value snapshot_bytes c.args.cut.now.shards c.loop-shard.shard c.shard.result.now c.shard.ensures.shard in (
      omega (arith, more, c.loop-shard.invariant.0, c.snapshot_length-length.ensures.is),
      omega (arith, c.loop-shard.invariant.1, c.snapshot_length-length.ensures.bounded),
    )
