use Rattle.pass_tokens.specs.{IsPassOf}
use Rattle.shard_tests.proofs.tests.of_pass_tokens.folds_to_the_end.Given as goal

-- between two folds the pass is one of the board
abbrev pub invariant-loop : goal.invariant-loop
invariant-loop g l = IsPassOf l.board l.pass
