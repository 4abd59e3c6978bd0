use Rattle.std.proofs.Common.{length}
use Rattle.shard_state.specs.{HasCoreShape, core_shape}
use Rattle.position_words.specs.{view}
use Rattle.pass_tokens.specs.Board.{IsPassOf}
use Rattle.pass_tokens.specs.TryRead.{ReadsSoFar}
use Rattle.pass_tokens.proofs.board.Board.read_cut.Given as goal

-- the shards so far were read
abbrev pub invariant-loop-shard : goal.invariant-loop-shard
invariant-loop-shard g l =
    IsPassOf l.self l.pass × HasCoreShape (length l.self.opening) (core_shape l.self.opening) l.cut
    × ReadsSoFar l.self.opening l.shard (view l.initial.pass) l.initial.cut (view l.pass) l.cut
