use Rattle.std.proofs.Common.{◌≡◌, take, drop}
use Rattle.shard_state.proofs.folding.copy_tables.Given as goal

-- the tables so far are copied, and the others are as they were
abbrev pub invariant-loop-place : goal.invariant-loop-place
invariant-loop-place l = record {
  so_far : take l.place l.into ≡ take l.place l.tables;
  rest : drop l.place l.into ≡ drop l.place l.initial.into;
}
