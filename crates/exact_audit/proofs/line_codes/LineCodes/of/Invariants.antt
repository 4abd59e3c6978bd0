use Rattle.std.proofs.Common.{◌≡◌, map, take}
use Rattle.prefix_lattice.specs.{finest_grain}
use Rattle.hhh_report.specs.{prefixes_of_lines}
use Rattle.exact_audit.specs.LineCodes.{AreLineCodes, line_code}
use Rattle.exact_audit.proofs.line_codes.LineCodes.of.Given as goal

-- the codes of the lines so far, in their order
abbrev pub invariant-loop-line : goal.invariant-loop-line
invariant-loop-line l =
    AreLineCodes finest_grain (prefixes_of_lines (take l.line-index l.lines)) l.codes.keys
    × (l.codes.keys ≡ map line_code (prefixes_of_lines (take l.line-index l.lines)))
