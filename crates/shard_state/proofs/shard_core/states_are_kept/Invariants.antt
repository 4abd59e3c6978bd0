use Rattle.std.proofs.Common.{All, take}
use Rattle.shard_state.specs.ShardState.{IsShard}
use Rattle.shard_state.proofs.shard_core.states_are_kept.Given as goal

-- the states so far keep what each keeps
abbrev pub invariant-loop-state : goal.invariant-loop-state
invariant-loop-state l = All IsShard (take l.state-index l.states)
