use Rattle.std.proofs.Common.{◌≡◌, map, take}
use Rattle.shard_state.proofs.cut.Cut.positions.Given as goal

-- the positions so far
abbrev pub invariant-loop-snapshot : goal.invariant-loop-snapshot
invariant-loop-snapshot l = l.positions ≡ map (λ s. s.position) (take l.snapshot-index l.snapshot-items)
