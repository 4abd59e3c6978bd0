use Rattle.std.proofs.Common.{◌≡◌, map, take}
use Rattle.cut_merge.specs.Run.{interval_of_entry}
use Rattle.cut_merge.proofs.run.push_intervals.Given as goal

-- the intervals of the entries so far
abbrev pub invariant-loop-place : goal.invariant-loop-place
invariant-loop-place l = l.intervals.items ≡ map interval_of_entry (take l.place l.table.entries)
