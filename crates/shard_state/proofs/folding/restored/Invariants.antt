use Rattle.std.proofs.Common.{◌≡◌, take}
use Rattle.shard_state.proofs.folding.restored.Given as goal

-- the tables so far have the content of theirs
abbrev pub invariant-loop-flat : goal.invariant-loop-flat
invariant-loop-flat l = l.tables.items ≡ take l.flat-index l.flats
