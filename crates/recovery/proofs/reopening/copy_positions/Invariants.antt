use Rattle.std.proofs.Common.{◌≡◌, take}
use Rattle.recovery.proofs.reopening.copy_positions.Given as goal

abbrev pub invariant-loop-position : goal.invariant-loop-position
invariant-loop-position l = l.copy ≡ take l.position-index l.position-items
