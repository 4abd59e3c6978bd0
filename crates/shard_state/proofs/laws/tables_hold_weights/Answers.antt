use Rattle.std.proofs.Common.{◌∙◌}
use Rattle.shard_state.specs.Snapshot.{adds_of}
use Rattle.shard_state.proofs.PrefixWeightLemmas.{IntervalsHoldPrefixWeight, PrefixWeightIsTold, prefix_weight_is_held}
use Rattle.shard_state.proofs.PrefixWeightLemmas.{prefix_weight_totals_agree}
use Rattle.shard_state.proofs.laws.tables_hold_weights.Goals as goal

pub returns-clause-weight : goal.returns-clause-weight
returns-clause-weight c = λ shape prefix records some valid weighed.
    let keys : PrefixWeightIsTold shape.grain prefix = record { tell = λ rec. c.keys_tell_covering.ensures shape.grain prefix rec valid } in
    let laws : IntervalsHoldPrefixWeight = record {
      low = c.intervals_hold.ensures.low;
      high = c.intervals_hold.ensures.high;
      width = c.intervals_hold.ensures.width;
    } in
    prefix_weight_is_held shape prefix records keys laws some weighed

pub returns-clause-total : goal.returns-clause-total
returns-clause-total c = λ capacity node records some. c.adds_leave_a_table.ensures.total capacity (adds_of node records) some
    ∙ prefix_weight_totals_agree node records
