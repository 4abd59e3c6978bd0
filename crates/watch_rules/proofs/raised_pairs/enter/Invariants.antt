use Rattle.std.proofs.Common.{◌++◌, List, take}
use Rattle.watch_rules.specs.declared.raised.Raised.{Raised}
use Rattle.watch_rules.specs.RaisedPairs.{AreCoded, raised_by}
use Rattle.watch_rules.proofs.raised_pairs.enter.Given as goal

-- the codes so far are entered
abbrev pub invariant-loop-place : goal.invariant-loop-place
invariant-loop-place l = (pairs : List Raised) → AreCoded pairs l.fn.codes → AreCoded (pairs ++ raised_by (take l.place l.alarms)) l.codes
