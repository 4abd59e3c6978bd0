use Rattle.std.proofs.Common.{◌≡◌}
use Rattle.position_words.specs.{view}
use Rattle.pass_tokens.specs.Board.{IsPassOf}
use Rattle.pass_tokens.specs.TryFold.{WaitsToFold}
use Rattle.pass_tokens.proofs.board.Board.read.Given as goal

-- all takes so far lost, and the cut is as it was
abbrev pub invariant-loop : goal.invariant-loop
invariant-loop g l =
    IsPassOf l.self l.pass × WaitsToFold l.shard (view l.initial.pass) (view l.pass) × (l.cut ≡ l.initial.cut)
