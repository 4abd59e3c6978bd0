use Rattle.std.proofs.Common.{All, take}
use Rattle.prefix_lattice.specs.{IsPrefixKey}
use Rattle.shard_state.proofs.snapshot_parts.has_keys_of.Given as goal

-- the keys so far are those of the node
abbrev pub invariant-loop-place : goal.invariant-loop-place
invariant-loop-place l = All (λ entry. IsPrefixKey l.node entry.key) (take l.place l.table.entries)
