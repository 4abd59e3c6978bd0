use Rattle.std.proofs.Common.{◌≡◌, ◌+◌, ◌≤◌, ◌++◌, take, length, vec_len, vec_capacity}
use Rattle.watch_rules.specs.RaisedPairs.{raised_by}
use Rattle.watch_rules.proofs.raised_pairs.append.Given as goal

-- the pairs so far are appended, and there is room for the others
abbrev pub invariant-loop-alarm : goal.invariant-loop-alarm
invariant-loop-alarm l =
    (l.pairs.items ≡ l.fn.pairs.items ++ raised_by (take l.alarm-index l.alarms))
    × (vec_len l.pairs + length l.alarms ≤ vec_capacity l.pairs + l.alarm-index)
