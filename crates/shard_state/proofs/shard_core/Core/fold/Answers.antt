use Rattle.std.proofs.Common.{length, ap, ◌∙◌, arith}
use Rattle.shard_state.specs.ShardCore.{changed_in}
use Rattle.shard_state.specs.ShardState.{folded_shard}
use Rattle.shard_state.proofs.ShardCoreLemmas.{shard_core_fold_is_change, IsCore-fold_of_shard}
use Rattle.shard_state.proofs.shard_core.Core.fold.Goals as goal

pub invariant_of-self : goal.invariant_of-self
invariant_of-self c =
    let fold = c.fold_block.ensures in
    IsCore-fold_of_shard c.self.inside.states.items c.args.shard c.args.block c.index_mut.result.now c.fold_block.new.self
    (omega (arith, ap length c.self.view_is)) c.index_mut.ensures.value fold.state fold.kept c.self.invariant

pub returns : goal.returns
returns c =
    shard_core_fold_is_change c.self.inside.states.items c.args.shard c.args.block c.index_mut.result.now c.fold_block.new.self
    (omega (arith, ap length c.self.view_is)) c.index_mut.ensures.value c.fold_block.ensures.state
    ∙ ap (changed_in (folded_shard c.args.block) c.args.shard) c.self.view_is
