use Rattle.std.proofs.Common.{◌≡◌, None}
use Rattle.position_words.specs.{IsSeatOf, view}
use Rattle.shard_tests.proofs.tests.of_position_words.folds_in_turns.Given as goal

-- between two turns the seat is one of the words, and holds nothing
abbrev pub invariant-loop : goal.invariant-loop
invariant-loop l = IsSeatOf l.words l.seat × ((view l.seat).held ≡ None)
