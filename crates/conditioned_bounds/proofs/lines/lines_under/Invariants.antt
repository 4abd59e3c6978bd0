use Rattle.std.proofs.Common.{◌≡◌, take}
use Rattle.prefix_lattice.specs.{lines_under}
use Rattle.conditioned_bounds.proofs.lines.lines_under.Given as goal

-- those of the lines so far
abbrev pub invariant-loop-line : goal.invariant-loop-line
invariant-loop-line l = l.under ≡ lines_under l.prefix (take l.line-index l.lines)
