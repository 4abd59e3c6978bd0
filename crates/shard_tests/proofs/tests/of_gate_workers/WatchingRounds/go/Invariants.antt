use Rattle.std.proofs.Common.{length}
use Rattle.shard_state.specs.{HasCoreShape, core_shape}
use Rattle.pass_tokens.specs.{IsPassOf}
use Rattle.shard_tests.proofs.tests.of_gate_workers.WatchingRounds.go.Given as goal

-- between two reads the pass is one of the board, and the cut has its shape
abbrev pub invariant-loop-round : goal.invariant-loop-round
invariant-loop-round g l =
    IsPassOf l.board l.pass × HasCoreShape (length l.board.opening) (core_shape l.board.opening) l.self.cut
