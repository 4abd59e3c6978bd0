use Rattle.std.proofs.Common.{take, subst, sym, arith}
use Rattle.std.proofs.lemmas.List.{take_all}
use Rattle.std.proofs.lemmas.List.Elements.{All-more, All-same}
use Rattle.shard_state.specs.ShardState.{IsShard}
use Rattle.shard_state.proofs.shard_core.states_are_kept.Goals as goal

pub loop-state-preserved : goal.loop-state-preserved
loop-state-preserved c =
    All-more IsShard c.args.states.now c.loop-state.state-index c.state-item.result (omega arith)
    c.loop-state.invariant (subst IsShard c.state-item.is c.position-position.ensures.kept)

pub returns : goal.returns
returns c =
    All-same IsShard c.args.states.now (take c.loop-state.state-index c.args.states.now)
    (sym (take_all c.loop-state.state-index c.args.states.now c.loop-state-test.false)) c.loop-state.invariant
