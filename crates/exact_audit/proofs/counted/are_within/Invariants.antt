use Rattle.std.proofs.Common.{ℕ, ◌<◌, ◌≤◌, [], length, get_or}
use Rattle.exact_audit.proofs.counted.are_within.Given as goal

-- no position so far is past its list
abbrev pub invariant-loop-shard : goal.invariant-loop-shard
invariant-loop-shard l =
    (place : ℕ) → place < l.shard → get_or l.positions place 0 ≤ length (get_or l.dealt place [])
