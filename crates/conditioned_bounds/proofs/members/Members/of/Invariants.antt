use Rattle.std.proofs.Common.{◌≡◌, take}
use Rattle.conditioned_bounds.proofs.members.Members.of.Given as goal

-- the prefixes so far
abbrev pub invariant-loop-prefix : goal.invariant-loop-prefix
invariant-loop-prefix l = l.members ≡ take l.prefix-index l.prefix-items
