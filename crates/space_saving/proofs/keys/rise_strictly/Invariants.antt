use Rattle.std.proofs.Common.{ℕ, ◌+◌, ◌<◌, get_or}
use Rattle.space_saving.proofs.keys.rise_strictly.Given as goal

-- the numbers so far rise
abbrev pub invariant-loop-place : goal.invariant-loop-place
invariant-loop-place l = (k : ℕ) → k + 1 < l.place → get_or l.keys k 0 < get_or l.keys (k + 1) 0
