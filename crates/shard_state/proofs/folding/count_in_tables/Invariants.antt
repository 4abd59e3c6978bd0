use Rattle.std.proofs.Common.{◌≡◌, ◌++◌, take, drop}
use Rattle.shard_state.specs.Snapshot.{tables_after}
use Rattle.shard_state.proofs.folding.count_in_tables.Given as goal

-- the tables so far counted the records, and the others are as they were
abbrev pub invariant-loop-place : goal.invariant-loop-place
invariant-loop-place l = record {
  so_far : take l.place l.tables ++ tables_after l.grain l.place (drop l.place l.tables) l.records ≡ tables_after l.grain 0 l.initial.tables l.records;
  rest : drop l.place l.tables ≡ drop l.place l.initial.tables;
}
