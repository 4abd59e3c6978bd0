use Rattle.std.proofs.Common.{All, take}
use Rattle.prefix_lattice.specs.{IsPrefix}
use Rattle.top_call_tests.proofs.tests.indexed_lines.are_of_grain.Given as goal

-- the prefixes so far are
abbrev pub invariant-loop-prefix : goal.invariant-loop-prefix
invariant-loop-prefix l = All (IsPrefix l.grain) (take l.prefix-index l.prefix-items)
