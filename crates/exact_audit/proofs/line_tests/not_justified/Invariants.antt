use Rattle.std.proofs.Common.{◌≡◌, List, All, take}
use Rattle.prefix_lattice.specs.{RecordValue, total_weight}
use Rattle.exact_audit.specs.LineTests.{PassesJustified}
use Rattle.exact_audit.specs.LineTests.{measures_of}
use Rattle.exact_audit.specs.Findings.{AreSumsOf}
use Rattle.exact_audit.proofs.line_tests.not_justified.Given as goal

-- the lines so far pass
abbrev pub invariant-loop-place : goal.invariant-loop-place
invariant-loop-place l = (records : List RecordValue) → AreSumsOf l.lines records l.sums
    → total_weight records ≡ l.by.total → All (PassesJustified (measures_of l.by) records l.lines) (take l.place l.lines)
