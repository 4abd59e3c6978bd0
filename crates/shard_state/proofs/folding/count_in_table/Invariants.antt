use Rattle.std.proofs.Common.{◌≡◌, ◌+◌, take}
use Rattle.prefix_lattice.specs.{total_weight}
use Rattle.space_saving.specs.{table_total}
use Rattle.shard_state.specs.Snapshot.{table_after}
use Rattle.shard_state.proofs.folding.count_in_table.Given as goal

-- the table counted the records so far
abbrev pub invariant-loop-rec : goal.invariant-loop-rec
invariant-loop-rec l = record {
  content : l.table ≡ table_after l.node (take l.rec-index l.records) l.fn.table;
  grew : table_total l.table.entries ≡ table_total l.fn.table.entries + total_weight (take l.rec-index l.records);
}
