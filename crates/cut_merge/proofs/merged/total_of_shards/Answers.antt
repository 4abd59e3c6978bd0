use Rattle.std.proofs.Common.{ap, arith}
use Rattle.std.proofs.lemmas.List.Sums.{sum_by_more}
use Rattle.std.proofs.lemmas.Option.{get_or_from_slice_get, slice_get_within}
use Rattle.shard_state.specs.{snapshot_total}
use Rattle.cut_merge.proofs.merged.total_of_shards.Goals as goal

pub loop-place-preserved : goal.loop-place-preserved
loop-place-preserved c =
    let shards = c.args.cut.now.shards in
    let snapshot = c.shard.result.now in
    let within = slice_get_within shards c.loop-place.place snapshot c.shard.ensures.shard in
    let at = get_or_from_slice_get shards c.loop-place.place snapshot snapshot c.shard.ensures.shard in
    omega (
      arith,
      c.loop-place.invariant,
      c.total-total.ensures.total,
      sum_by_more snapshot_total shards c.loop-place.place snapshot within,
      ap snapshot_total at,
    )
