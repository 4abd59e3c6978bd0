use Rattle.std.proofs.Common.{◌≡◌, ◌*◌, ◌^◌, ◌≤◌, take}
use Rattle.space_saving.specs.{table_total}
use Rattle.shard_state.specs.{records_table}
use Rattle.hhh_engine.proofs.commands.weigh.fold_records.Given as goal

-- the table is that of the records so far, each of which weighs less than 2^32
abbrev pub invariant-loop-rec : goal.invariant-loop-rec
invariant-loop-rec l = record {
  content : l.table ≡ record { capacity = 64; entries = records_table 64 l.node (take l.rec-index l.records) };
  small : table_total l.table.entries ≤ 2 ^ 32 * l.rec-index;
}
