use Rattle.std.proofs.Common.{arith, ap, refl}
use Rattle.shard_state.specs.Snapshot.{empty_snapshot}
use Rattle.space_saving.specs.{table_total}
use Rattle.shard_state.proofs.EmptyTableLemmas.{IsSnapshot-empty_tables, empty_table_at_place}
use Rattle.shard_state.proofs.ShardStateLemmas.{shard_state_folds_on, shard_state_is_begun}
use Rattle.shard_state.proofs.TableFoldLemmas.{TableFoldKeeps}
use Rattle.shard_state.proofs.laws.shards_keep_their_limits.Goals as goal

pub returns-clause-begins : goal.returns-clause-begins
returns-clause-begins c = λ shape list least most of_grain few weighed bounded.
    (shard_state_is_begun list (empty_snapshot shape) 0 refl (IsSnapshot-empty_tables shape least most of_grain) few (omega arith)
    weighed bounded (ap table_total (empty_table_at_place shape.grain 0))).is_shard

pub returns-clause-resumes : goal.returns-clause-resumes
returns-clause-resumes c = λ base list is within few weighed bounded counted.
    (shard_state_is_begun list base base.position refl is few within weighed bounded counted).is_shard

pub returns-clause-goes_on : goal.returns-clause-goes_on
returns-clause-goes_on c = λ shard position is later within.
    let keep : TableFoldKeeps = record {
      table = c.steps_leave_a_table.ensures.table;
      total = c.steps_leave_a_table.ensures.total;
      key = c.keys_are_of_their_node.ensures.of_record_key;
    } in
    (shard_state_folds_on shard position keep is later within).is_shard
