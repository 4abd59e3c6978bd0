use Rattle.std.proofs.Common.{◌≡◌, ◌<◌, length, ap, sym, ◌∙◌, arith}
use Rattle.std.proofs.lemmas.List.Sums.{sum_by_more}
use Rattle.prefix_lattice.specs.{RecordValue, prefix_at, prefix_key}
use Rattle.space_saving.specs.{TableAdd, TableValue, after_step}
use Rattle.shard_state.proofs.TableFoldLemmas.{table_fold_add, fold_at-one_more_in_table}
use Rattle.shard_state.proofs.folding.count_in_table.Goals as goal

pub loop-rec-preserved : goal.loop-rec-preserved
loop-rec-preserved c =
    let records = c.args.records.now in
    let start = c.args.table.now in
    let before = c.loop-rec.table in
    let place = c.loop-rec.rec-index in
    let here = c.rec-item.result in
    let within : place < length records = omega arith in
    let weight : c.rec.inside.weight ≡ here.weight = ap (λ (r : RecordValue). r.weight) c.rec.view_is in
    let key : c.key.result ≡ prefix_key (prefix_at c.args.node here) = c.key.ensures.value ∙ ap prefix_key c.of.ensures.value in
    let made : TableAdd = record { key = c.key.result; weight = c.rec.inside.weight } in
    let add : made ≡ table_fold_add c.args.node here = λ i. record { key = key i; weight = weight i } in
    let stepped : TableAdd → TableValue → TableValue =
    λ a t. record { capacity = t.capacity; entries = after_step t.capacity t.entries a } in
    let more = sum_by_more (λ (r : RecordValue). r.weight) records place here within in
    let read = ap (λ (r : RecordValue). r.weight) c.rec-item.is in
    record {
      content =
          c.add.ensures.stepped
          ∙ ap (λ a. stepped a before) add
          ∙ ap (stepped (table_fold_add c.args.node here)) c.loop-rec.invariant.content
          ∙ ap (λ entries. record start { entries = entries })
          (sym (fold_at-one_more_in_table start.capacity c.args.node start.entries records place here within c.rec-item.is));
      grew = omega (arith, c.add.ensures.grew, c.loop-rec.invariant.grew, more, read, weight);
    }
