use Rattle.std.proofs.Common.{List, All, take}
use Rattle.prefix_lattice.specs.{RecordValue}
use Rattle.hhh_report.specs.{LineHoldsWeight}
use Rattle.exact_audit.specs.Findings.{AreSumsOf}
use Rattle.exact_audit.proofs.line_tests.bad_interval.Given as goal

-- the lines so far pass
abbrev pub invariant-loop-place : goal.invariant-loop-place
invariant-loop-place l = (records : List RecordValue) → AreSumsOf l.lines records l.sums
    → All (LineHoldsWeight records) (take l.place l.lines)
