use Rattle.std.proofs.Common.{◌≡◌, List, length}
use Rattle.prefix_lattice.specs.{RecordValue}
use Rattle.hhh_report.specs.{prefixes_of_lines}
use Rattle.exact_audit.specs.NodeSums.{AreCountedIn}
use Rattle.exact_audit.specs.Findings.{AreSumsBefore, IsFirstBefore}
use Rattle.exact_audit.proofs.findings.find.Given as goal

-- what the nodes so far show
abbrev pub invariant-loop-index : goal.invariant-loop-index
invariant-loop-index l =
    (length l.line_sums.items ≡ length l.lines)
    × ((records : List RecordValue) → AreCountedIn l.by.grain (prefixes_of_lines l.lines) records l.counted
    → AreSumsBefore l.by.grain l.index l.lines records l.line_sums.items
    × IsFirstBefore l.by.grain l.index (prefixes_of_lines l.lines) records l.by.threshold l.left_out)
