use Rattle.std.proofs.Common.{All, take}
use Rattle.hhh_report.specs.{IsNarrowLine}
use Rattle.exact_audit.proofs.line_tests.too_wide.Given as goal

-- the lines so far pass
abbrev pub invariant-loop-place : goal.invariant-loop-place
invariant-loop-place l = All (IsNarrowLine l.capacity l.total) (take l.place l.lines)
