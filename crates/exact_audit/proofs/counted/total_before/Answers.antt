use Rattle.std.proofs.Common.{◌≡◌, ◌+◌, ◌≤◌, ◌<◌, List, [], length, take, ap, ◌∙◌, arith}
use Rattle.std.proofs.lemmas.List.{take_all}
use Rattle.std.proofs.lemmas.List.Sums.{sum_by-append, sum_by_more}
use Rattle.prefix_lattice.specs.{RecordValue, total_weight}
use Rattle.hhh_report.specs.{records_before}
use Rattle.exact_audit.specs.Counted.{part_at}
use Rattle.exact_audit.proofs.CountedRecordLemmas.{counted_record_positions_as_many, counted_records_gain_part}
use Rattle.exact_audit.proofs.CountedRecordLemmas.{counted_record_part_fits_list}
use Rattle.exact_audit.proofs.counted.total_before.Goals as goal

pub loop-shard-preserved : goal.loop-shard-preserved
loop-shard-preserved c =
    let lists = c.args.dealt.now in
    let positions = c.args.positions.now in
    let shard = c.loop-shard.shard in
    let same = counted_record_positions_as_many positions lists c.requires in
    let within : shard < length lists = omega (arith, c.loop-shard-test.true, c.shards-shard-end.ensures.value) in
    let before = records_before (take shard lists) (take shard positions) in
    let more : total_weight (records_before (take (shard + 1) lists) (take (shard + 1) positions))
    ≡ total_weight before + total_weight (part_at lists positions shard) =
    ap total_weight (counted_records_gain_part lists positions shard same within)
    ∙ sum_by-append (λ (r : RecordValue). r.weight) before (part_at lists positions shard) in
    let own : c.total_of-total.result ≡ total_weight (part_at lists positions shard) =
    c.total_of-total.ensures.total ∙ ap total_weight c.part.ensures.value in
    let lengths = sum_by_more (λ (list : List RecordValue). length list) lists shard [] within in (
      omega (arith, more, own, c.loop-shard.invariant.0),
      omega (
        arith,
        lengths,
        c.total_of-total.ensures.bounded,
        ap length c.part.ensures.value,
        counted_record_part_fits_list lists positions shard,
        c.loop-shard.invariant.1,
      ),
    )

pub returns-clause-total : goal.returns-clause-total
returns-clause-total c =
    let lists = c.args.dealt.now in
    let positions = c.args.positions.now in
    let shard = c.loop-shard.shard in
    let same = counted_record_positions_as_many positions lists c.requires in
    let all : length lists ≤ shard = omega (arith, c.loop-shard-test.false, c.shards-shard-end.ensures.value) in
    c.loop-shard.invariant.0
    ∙ ap (λ l. total_weight (records_before l (take shard positions))) (take_all shard lists all)
    ∙ ap (λ p. total_weight (records_before lists p)) (take_all shard positions (omega (arith, same, all)))
