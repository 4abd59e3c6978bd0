use Rattle.std.proofs.Common.{◌≤◌, ℕ}
use Rattle.site_merge.specs.Taking.{AreAlikeAt}
use Rattle.site_merge.proofs.captures.check_captures.Given as goal

-- no mark before this place is of one capture with a later one
abbrev pub invariant-loop-first : goal.invariant-loop-first
invariant-loop-first l = (one other : ℕ) → AreAlikeAt l.marks one other → l.first ≤ one
