use Rattle.std.proofs.Common.{◌≤◌, ◌<◌, ◌++◌, length, take, sym, ap, ◌∙◌, subst, arith}
use Rattle.std.proofs.lemmas.List.{take_all}
use Rattle.hhh_report.specs.{records_before}
use Rattle.exact_audit.specs.NodeSums.{AreCountedIn}
use Rattle.exact_audit.proofs.CountedRecordLemmas.{counted_record_positions_as_many, counted_records_gain_part}
use Rattle.exact_audit.proofs.counted.count_before.Goals as goal

pub loop-shard-preserved : goal.loop-shard-preserved
loop-shard-preserved c = λ prefixes coded.
    let lists = c.args.dealt.now in
    let positions = c.args.positions.now in
    let shard = c.loop-shard.shard in
    let same = counted_record_positions_as_many positions lists c.requires in
    let within : shard < length lists = omega (arith, c.loop-shard-test.true, c.shards-shard-end.ensures.value) in
    let before = records_before (take shard lists) (take shard positions) in
    subst (λ records. AreCountedIn c.args.grain prefixes records c.push_counted.new.counted.items)
    (ap (λ rs. before ++ rs) c.part.ensures.value ∙ sym (counted_records_gain_part lists positions shard same within))
    (c.in_ok-push_counted.ensures prefixes before coded (c.loop-shard.invariant prefixes coded))

pub returns : goal.returns
returns c = λ prefixes coded.
    let lists = c.args.dealt.now in
    let positions = c.args.positions.now in
    let shard = c.loop-shard.shard in
    let same = counted_record_positions_as_many positions lists c.requires in
    let all : length lists ≤ shard = omega (arith, c.loop-shard-test.false, c.shards-shard-end.ensures.value) in
    subst (λ records. AreCountedIn c.args.grain prefixes records c.loop-shard.counted.items)
    (ap (λ l. records_before l (take shard positions)) (take_all shard lists all)
    ∙ ap (λ p. records_before lists p) (take_all shard positions (omega (arith, same, all))))
    (c.loop-shard.invariant prefixes coded)
