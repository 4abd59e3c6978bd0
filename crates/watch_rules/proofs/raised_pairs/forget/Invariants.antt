use Rattle.std.proofs.Common.{List, take}
use Rattle.watch_rules.specs.declared.raised.Raised.{Raised}
use Rattle.watch_rules.specs.RaisedPairs.{AreCoded}
use Rattle.watch_rules.proofs.RaisedPairLemmas.{ArePairsTakenOut}
use Rattle.watch_rules.proofs.raised_pairs.forget.Given as goal

-- the codes so far are taken out
abbrev pub invariant-loop-alarm : goal.invariant-loop-alarm
invariant-loop-alarm l = (pairs : List Raised) → AreCoded pairs l.fn.codes → ArePairsTakenOut pairs (take l.alarm-index l.alarms) l.codes
