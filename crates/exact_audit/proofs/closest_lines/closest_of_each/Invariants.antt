use Rattle.std.proofs.Common.{◌≡◌, take}
use Rattle.hhh_report.specs.{prefixes_of_lines}
use Rattle.exact_audit.specs.ClosestLines.{right_under_each}
use Rattle.exact_audit.proofs.closest_lines.closest_of_each.Given as goal

-- for each line, those of the lines so far that it is right above
abbrev pub invariant-loop-line : goal.invariant-loop-line
invariant-loop-line l =
    l.each.items ≡ right_under_each (prefixes_of_lines l.lines) (take l.line-index (prefixes_of_lines l.lines))
