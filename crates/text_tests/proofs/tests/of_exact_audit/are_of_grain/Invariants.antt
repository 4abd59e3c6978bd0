use Rattle.std.proofs.Common.{take}
use Rattle.hhh_report.specs.{AreOfGrain}
use Rattle.text_tests.proofs.tests.of_exact_audit.are_of_grain.Given as goal

-- the lines so far are of the grain
abbrev pub invariant-loop-line : goal.invariant-loop-line
invariant-loop-line l = AreOfGrain l.grain (take l.line-index l.lines)
