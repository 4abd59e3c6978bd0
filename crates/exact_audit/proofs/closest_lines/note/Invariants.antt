use Rattle.std.proofs.Common.{◌≡◌, List, length}
use Rattle.prefix_lattice.specs.{PrefixValue}
use Rattle.exact_audit.specs.LineCodes.{AreLineCodes, ArePlaced}
use Rattle.exact_audit.specs.ClosestLines.{IsNotedBefore}
use Rattle.exact_audit.proofs.closest_lines.note.Given as goal

-- the prefix is noted with the lines of the nodes so far
abbrev pub invariant-loop-index : goal.invariant-loop-index
invariant-loop-index l =
    (length l.each.items ≡ length l.codes.codes.keys)
    × ((lines : List PrefixValue) → AreLineCodes l.grain lines l.codes.codes.keys → ArePlaced lines l.codes.codes.keys
    → IsNotedBefore l.grain l.index lines l.prefix l.initial.each.items l.each.items)
