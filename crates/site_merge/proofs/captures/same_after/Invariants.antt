use Rattle.std.proofs.Common.{◌≤◌, ℕ}
use Rattle.site_merge.specs.Taking.{AreAlikeAt}
use Rattle.site_merge.proofs.captures.same_after.Given as goal

-- no mark before this place is of the capture
abbrev pub invariant-loop-second : goal.invariant-loop-second
invariant-loop-second l = (other : ℕ) → AreAlikeAt l.marks l.first other → l.second ≤ other
