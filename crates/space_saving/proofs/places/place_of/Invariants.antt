use Rattle.std.proofs.Common.{◌≡◌, ◌++◌, take, drop}
use Rattle.space_saving.specs.Summary.{table_entry, table_without}
use Rattle.space_saving.proofs.places.place_of.Given as goal

-- no entry so far has the key
abbrev pub invariant-loop-place : goal.invariant-loop-place
invariant-loop-place l = record {
  still : table_entry l.key (drop l.place l.entries) ≡ table_entry l.key l.entries;
  passed : take l.place l.entries ++ table_without l.key (drop l.place l.entries) ≡ table_without l.key l.entries;
}
