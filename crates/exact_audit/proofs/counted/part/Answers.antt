use Rattle.std.proofs.Common.{◌≤◌, [], length, take, get_or, sym, ap, ◌∙◌, arith}
use Rattle.std.proofs.lemmas.List.{length-take-le}
use Rattle.std.proofs.lemmas.Option.{get_or_from_slice_get}
use Rattle.exact_audit.proofs.CountedRecordLemmas.{counted_record_positions_as_many, each_counted_record_position_fits}
use Rattle.exact_audit.proofs.counted.part.Goals as goal

pub at-requires : goal.at-requires
at-requires c =
    let same = counted_record_positions_as_many c.args.positions.now c.args.dealt.now c.requires.within in
    omega (arith, same, c.requires.shard)

pub slice_bounds-result-end : goal.slice_bounds-result-end
slice_bounds-result-end c =
    let list = get_or_from_slice_get c.args.dealt.now c.args.shard c.list.result.now [] c.list.ensures.value in
    let position = get_or_from_slice_get c.args.positions.now c.args.shard c.at.result 0 c.at.ensures in
    let within = each_counted_record_position_fits c.args.positions.now c.args.dealt.now c.args.shard c.requires.within c.requires.shard in
    let fits : c.at.result ≤ length c.as_slice-records.result.now =
    omega (arith, within, position, ap length list, ap length c.as_slice-records.ensures.value) in
    sym (length-take-le c.at.result c.as_slice-records.result.now fits)

pub returns-clause-value : goal.returns-clause-value
returns-clause-value c =
    let list = get_or_from_slice_get c.args.dealt.now c.args.shard c.list.result.now [] c.list.ensures.value in
    let position = get_or_from_slice_get c.args.positions.now c.args.shard c.at.result 0 c.at.ensures in
    ap (λ p. take p c.as_slice-records.result.now) (sym position)
    ∙ ap (take (get_or c.args.positions.now c.args.shard 0)) (c.as_slice-records.ensures.value ∙ sym list)
