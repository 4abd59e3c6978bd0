use Rattle.std.proofs.Common.{◌≡◌, [], replicate}
use Rattle.exact_audit.proofs.closest_lines.empty_lists.Given as goal

-- the empty lists so far
abbrev pub invariant-loop : goal.invariant-loop
invariant-loop l = l.lists.items ≡ replicate l.counter []
