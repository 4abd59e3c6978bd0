use Rattle.std.proofs.Common.{ap, arith}
use Rattle.std.proofs.lemmas.List.Sums.{sum_by_more}
use Rattle.std.proofs.lemmas.Option.{get_or_from_slice_get, slice_get_within}
use Rattle.shard_state.specs.{snapshot_total}
use Rattle.site_merge.proofs.putting.weight_of.Goals as goal

pub loop-shard-preserved : goal.loop-shard-preserved
loop-shard-preserved c =
    let shards = c.args.cut.now.shards in
    let snapshot = c.shard.result.now in
    let within = slice_get_within shards c.loop-shard.shard snapshot c.shard.ensures.shard in
    let at = get_or_from_slice_get shards c.loop-shard.shard snapshot snapshot c.shard.ensures.shard in
    omega (
      arith,
      c.loop-shard.invariant,
      c.total-weight.ensures.total,
      sum_by_more snapshot_total shards c.loop-shard.shard snapshot within,
      ap snapshot_total at,
    )
