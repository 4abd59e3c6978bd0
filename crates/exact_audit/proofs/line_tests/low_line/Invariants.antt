use Rattle.std.proofs.Common.{All, take}
use Rattle.hhh_report.specs.{IsHeavyLine}
use Rattle.exact_audit.proofs.line_tests.low_line.Given as goal

-- the lines so far pass
abbrev pub invariant-loop-place : goal.invariant-loop-place
invariant-loop-place l = All (IsHeavyLine l.threshold) (take l.place l.lines)
