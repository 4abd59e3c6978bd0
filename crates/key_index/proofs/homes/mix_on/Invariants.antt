use Rattle.std.proofs.Common.{◌≡◌}
use Rattle.key_index.specs.Homes.{mixed_after}
use Rattle.key_index.proofs.homes.mix_on.Given as goal

-- so many turns are done
abbrev pub invariant-loop : goal.invariant-loop
invariant-loop l = l.mixed ≡ mixed_after l.counter l.number
