use Rattle.std.proofs.Common.{sym, take, subst}
use Rattle.space_saving.specs.{TableValue}
use Rattle.cut_merge.specs.Merged.{WithTable, CanBeMerged}
use Rattle.cut_merge.specs.CutTables.{tables_at}
use Rattle.cut_merge.proofs.CutMergeLemmas.{cut_merge_within_total, cut_merge_bounded_at_shard}
use Rattle.cut_merge.proofs.CutMergeLemmas.{cut_merge_of_more_shards}
use Rattle.cut_merge.proofs.TableMergeLemmas.{monitored_of_table_merge}
use Rattle.cut_merge.proofs.merged.merge_node.Goals as goal

pub add-requires-clause-known : goal.add-requires-clause-known
add-requires-clause-known c = λ key.
    monitored_of_table_merge c.loop-shard.merge (take c.loop-shard.shard (tables_at c.args.node c.args.cut.now)) key
    c.loop-shard.invariant.merged

pub add-requires-clause-bounded : goal.add-requires-clause-bounded
add-requires-clause-bounded c = λ key.
    subst (CanBeMerged key) (sym c.table.ensures.table)
    (cut_merge_bounded_at_shard c.args.node c.args.cut.now c.loop-shard.shard c.shard.result.now key
    c.tables_are_bounded.ensures c.requires.is_node c.shards-shard-end.ensures.kept c.shard.ensures.shard)

pub loop-shard-preserved : goal.loop-shard-preserved
loop-shard-preserved c = record {
  merged =
      cut_merge_of_more_shards c.args.node c.args.cut.now c.loop-shard.shard c.shard.result.now c.loop-shard.merge
      c.add.new.self c.shard.ensures.shard c.loop-shard.invariant.merged
      (subst (λ (t : TableValue). WithTable c.loop-shard.merge t c.add.new.self) c.table.ensures.table
      c.in_ok-add.ensures.with);
  seen = c.in_ok-add.ensures.seen;
}

pub returns-clause-within : goal.returns-clause-within
returns-clause-within c = λ key.
    cut_merge_within_total c.args.node c.args.cut.now c.loop-shard.shard key c.loop-shard.merge c.tables_are_bounded.ensures
    c.requires.is_node c.shards-shard-end.ensures.kept c.loop-shard.invariant.merged
