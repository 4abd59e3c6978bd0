use Rattle.std.proofs.Common.{ℕ, ◌+◌, ◌%◌, ◌<◌, IsTrue}
use Rattle.pass_tokens.specs.{IsPassOf, view}
use Rattle.gate_workers.specs.Feeding.{Feeds, HasSeenEnd}
use Rattle.gate_workers.proofs.feeding.feed_round.Given as goal

-- so far the pass only folded, and if all shards so far were at their ends, it has seen these
abbrev pub invariant-loop-turn : goal.invariant-loop-turn
invariant-loop-turn g l =
    IsPassOf l.board l.pass × Feeds l.board.opening l.block (view l.initial.pass) (view l.pass)
    × (IsTrue l.ended → (turn : ℕ) → turn < l.turn
    → HasSeenEnd l.board.opening ((l.first + turn) % l.shards) (view l.pass))
