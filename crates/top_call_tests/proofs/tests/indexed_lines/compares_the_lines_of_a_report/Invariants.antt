use Rattle.std.proofs.Common.{◌≡◌}
use Rattle.top_call_tests.proofs.tests.indexed_lines.compares_the_lines_of_a_report.Given as goal

-- both have the same lines, and the index is of the grain
abbrev pub invariant-loop-line : goal.invariant-loop-line
invariant-loop-line g l = record { grain : l.index.grain ≡ l.grain; lines : l.lines ≡ l.index.lines }
