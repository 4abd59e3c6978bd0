use Rattle.std.proofs.Common.{List, take}
use Rattle.std.specs.HashMap.{keys}
use Rattle.prefix_lattice.specs.{RecordValue, PrefixValue, node_index}
use Rattle.exact_audit.specs.LineCodes.{AreLineCodes}
use Rattle.exact_audit.specs.NodeSums.{AreNodeSums}
use Rattle.exact_audit.specs.Findings.{IsFirstBefore, IsFirstWith}
use Rattle.exact_audit.proofs.left_out.first_left_out.Given as goal

-- the first of those before, and of those of the node so far
abbrev pub invariant-loop-place : goal.invariant-loop-place
invariant-loop-place l = (prefixes : List PrefixValue) (records : List RecordValue) → AreLineCodes l.node.grain prefixes
    l.lines.codes.keys
    → AreNodeSums l.node prefixes records l.sums
    → IsFirstBefore l.node.grain (node_index l.node) prefixes records l.threshold l.fn.found
    → IsFirstWith l.node.grain (node_index l.node) (take l.place (keys l.sums)) prefixes records l.threshold l.found
