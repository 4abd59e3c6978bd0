use Rattle.std.proofs.Common.{All, take}
use Rattle.space_saving.specs.Summary.{HasSmallError}
use Rattle.space_saving.proofs.facts.has_small_errors.Given as goal

-- the errors so far are small
abbrev pub invariant-loop-entry : goal.invariant-loop-entry
invariant-loop-entry l = All (HasSmallError l.capacity l.total) (take l.entry-index l.entries)
