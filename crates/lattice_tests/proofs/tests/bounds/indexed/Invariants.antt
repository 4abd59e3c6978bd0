use Rattle.std.proofs.Common.{◌≡◌}
use Rattle.lattice_tests.proofs.tests.bounds.indexed.Given as goal

-- both have the same lines, and the index is of the grain
abbrev pub invariant-loop-line : goal.invariant-loop-line
invariant-loop-line l = record { grain : l.index.grain ≡ l.grain; lines : l.pushed ≡ l.index.lines }
