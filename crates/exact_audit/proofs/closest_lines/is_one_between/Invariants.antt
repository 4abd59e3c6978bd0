use Rattle.std.proofs.Common.{◌≡◌, ◌<◌, false, List, Contains}
use Rattle.prefix_lattice.specs.{PrefixValue, node_index, node_of_prefix}
use Rattle.exact_audit.specs.LineCodes.{AreLineCodes}
use Rattle.exact_audit.specs.ClosestLines.{is_between}
use Rattle.exact_audit.proofs.closest_lines.is_one_between.Given as goal

-- no line of the nodes so far is between
abbrev pub invariant-loop-index : goal.invariant-loop-index
invariant-loop-index l = (lines : List PrefixValue) (other : PrefixValue) → AreLineCodes l.grain lines l.codes.codes.keys
    → Contains lines other → node_index (node_of_prefix l.grain other) < l.index → is_between l.upper l.lower other ≡ false
