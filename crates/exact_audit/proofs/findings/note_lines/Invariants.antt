use Rattle.std.proofs.Common.{◌≡◌, ◌<◌, ◌⊎◌, ℕ, List, All, length, slice_get, Some}
use Rattle.prefix_lattice.specs.{RecordValue, IsPrefix, node_index, node_of_prefix}
use Rattle.hhh_report.specs.declared.line.Line.{Line}
use Rattle.hhh_report.specs.{prefixes_of_lines}
use Rattle.exact_audit.specs.NodeSums.{AreNodeSums, sums_of}
use Rattle.exact_audit.specs.Findings.{AreSumsBefore}
use Rattle.exact_audit.proofs.findings.note_lines.Given as goal

-- the lines of the nodes before, and those of the node so far
abbrev pub invariant-loop-place : goal.invariant-loop-place
invariant-loop-place l =
    (length l.line_sums.items ≡ length l.lines)
    × ((records : List RecordValue) → All (IsPrefix l.node.grain) (prefixes_of_lines l.lines)
    → AreNodeSums l.node (prefixes_of_lines l.lines) records l.sums
    → AreSumsBefore l.node.grain (node_index l.node) l.lines records l.initial.line_sums.items
    → (place : ℕ) (line : Line) → slice_get l.lines place ≡ Some line
    → (node_index (node_of_prefix l.node.grain line.prefix) < node_index l.node)
    ⊎ ((node_index (node_of_prefix l.node.grain line.prefix) ≡ node_index l.node) × (place < l.place))
    → slice_get l.line_sums.items place ≡ Some (sums_of (prefixes_of_lines l.lines) records line.prefix))
