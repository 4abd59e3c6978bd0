use Rattle.std.proofs.Common.{ap, sym, ◌∙◌}
use Rattle.shard_state.specs.Snapshot.{tables_of}
use Rattle.shard_state.proofs.ShardStateLemmas.{BegunShardState, shard_state_is_begun}
use Rattle.shard_state.proofs.shard_state.ShardState.resume.Goals as goal

pub invariant_of-result : goal.invariant_of-result
invariant_of-result c =
    let position = c.position-position.result in
    let first : BegunShardState c.args.list c.args.base position =
    shard_state_is_begun c.args.list c.args.base position c.position-position.ensures.position c.position-position.ensures.kept c.requires.few c.requires.within
    c.as_slice-records.ensures.weighed c.as_slice-records.ensures.bounded c.requires.counted in
    (first.is_shard, c.in_ok-tables.ensures ∙ c.tables.ensures.tables ∙ ap tables_of (sym first.snapshot))
