use Rattle.std.proofs.Common.{◌≡◌, ◌<◌, length, ap, sym, ◌∙◌, arith}
use Rattle.prefix_lattice.specs.{RecordValue, prefix_at, prefix_key}
use Rattle.space_saving.specs.{TableAdd, TableValue, after_step}
use Rattle.hhh_engine.proofs.WeightTextLemmas.{weight_text_add, weight_text_of_one_more}
use Rattle.hhh_engine.proofs.commands.weigh.fold_records.Goals as goal

pub loop-rec-preserved : goal.loop-rec-preserved
loop-rec-preserved c =
    let records = c.args.records.now in
    let before = c.loop-rec.table in
    let place = c.loop-rec.rec-index in
    let here = c.rec-item.result in
    let within : place < length records = omega arith in
    let weight : c.rec.inside.weight ≡ here.weight = ap (λ (r : RecordValue). r.weight) c.rec.view_is in
    let key : c.key.result ≡ prefix_key (prefix_at c.args.node here) = c.key.ensures.value ∙ ap prefix_key c.of.ensures.value in
    let made : TableAdd = record { key = c.key.result; weight = c.rec.inside.weight } in
    let add : made ≡ weight_text_add c.args.node here = λ i. record { key = key i; weight = weight i } in
    let stepped : TableAdd → TableValue → TableValue =
    λ a t. record { capacity = t.capacity; entries = after_step t.capacity t.entries a } in
    record {
      content =
          c.add.ensures.stepped
          ∙ ap (λ a. stepped a before) add
          ∙ ap (stepped (weight_text_add c.args.node here)) c.loop-rec.invariant.content
          ∙ ap (λ entries. record { capacity = 64; entries = entries })
          (sym (weight_text_of_one_more 64 c.args.node records place here within c.rec-item.is));
      small = omega (arith, c.add.ensures.grew, c.loop-rec.invariant.small);
    }
