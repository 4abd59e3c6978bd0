use Rattle.std.proofs.Common.{length}
use Rattle.shard_state.specs.{HasCoreShape, core_shape}
use Rattle.pass_tokens.specs.{IsPassOf}
use Rattle.shard_tests.proofs.tests.of_pass_tokens.reads_to_the_end.Given as goal

-- between two reads the pass is one of the board, and the cut has its shape
abbrev pub invariant-loop : goal.invariant-loop
invariant-loop g l = IsPassOf l.board l.pass × HasCoreShape (length l.board.opening) (core_shape l.board.opening) l.cut
