use Rattle.std.proofs.Common.{length, ap, ◌∙◌, arith, slice_get}
use Rattle.shard_state.specs.ShardCore.{changed_in, with_shard}
use Rattle.shard_state.proofs.ShardCoreLemmas.{shard_core_read_is_change}
use Rattle.shard_state.proofs.shard_core.Core.read.Goals as goal

pub returns : goal.returns
returns c =
    shard_core_read_is_change c.self.inside.states.items c.args.cuts.now.items c.args.caller c.args.shard c.index.result.now c.index_mut.result.now
    c.copy_shard.new.self
    (omega arith) (omega (arith, ap length c.self.view_is)) c.index.ensures c.index_mut.ensures.value c.copy_shard.ensures
    ∙ ap (λ shards. changed_in (with_shard c.args.shard (slice_get shards c.args.shard)) c.args.caller c.args.cuts.now.items) c.self.view_is
