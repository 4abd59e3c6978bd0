use Rattle.pass_tokens.specs.{IsPassOf, view}
use Rattle.gate_workers.specs.Feeding.{Feeds}
use Rattle.gate_workers.proofs.feeding.feed_shard.Given as goal

-- so far the pass only folded
abbrev pub invariant-loop : goal.invariant-loop
invariant-loop g l = IsPassOf l.board l.pass × Feeds l.board.opening l.block (view l.initial.pass) (view l.pass)
