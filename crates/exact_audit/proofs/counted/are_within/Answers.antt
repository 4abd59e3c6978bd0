use Rattle.std.proofs.Common.{◌≤◌, ◌<◌, [], length, get_or, refl, sym, ap, ◌∙◌, arith}
use borrow.Author.Count.{below_more}
use Rattle.std.proofs.lemmas.Bool.{false≢true}
use Rattle.std.proofs.lemmas.Option.{get_or_from_slice_get}
use Rattle.exact_audit.proofs.CountedRecordLemmas.{counted_record_positions_fit, counted_record_positions_as_many}
use Rattle.exact_audit.proofs.CountedRecordLemmas.{each_counted_record_position_fits}
use Rattle.exact_audit.proofs.counted.are_within.Goals as goal

pub returns-then-len-shards : goal.returns-then-len-shards
returns-then-len-shards c = (
  λ is. absurd (false≢true is),
  λ within. absurd (c.if-len-shards.true
      (c.len.ensures ∙ counted_record_positions_as_many c.args.positions.now c.args.dealt.now within ∙ sym c.shards.ensures.value)),
)

pub returns-then-at-len : goal.returns-then-at-len
returns-then-at-len c = (
  λ is. absurd (false≢true is),
  λ within.
      let less : c.loop-shard.shard < length c.args.dealt.now =
      omega (arith, c.loop-shard-test.true, c.shards-shard-end.ensures.value) in
      let list = get_or_from_slice_get c.args.dealt.now c.loop-shard.shard c.list.result.now [] c.list.ensures.value in
      let position = get_or_from_slice_get c.args.positions.now c.loop-shard.shard c.at.result 0 c.at.ensures in
      absurd (omega (
        arith,
        each_counted_record_position_fits c.args.positions.now c.args.dealt.now c.loop-shard.shard within less,
        position,
        ap length list,
        c.len-in-loop-shard.ensures,
        c.if-at-len.true,
      )),
)

pub loop-shard-preserved : goal.loop-shard-preserved
loop-shard-preserved c =
    let list = get_or_from_slice_get c.args.dealt.now c.loop-shard.shard c.list.result.now [] c.list.ensures.value in
    let position = get_or_from_slice_get c.args.positions.now c.loop-shard.shard c.at.result 0 c.at.ensures in
    below_more (λ place. get_or c.args.positions.now place 0 ≤ length (get_or c.args.dealt.now place []))
    c.loop-shard.shard c.loop-shard.invariant
    (omega (arith, position, ap length list, c.len-in-loop-shard.ensures, c.if-at-len.false))

pub returns : goal.returns
returns c = (
  λ is. counted_record_positions_fit c.args.positions.now c.args.dealt.now
      (sym c.len.ensures ∙ c.if-len-shards.false ∙ c.shards.ensures.value)
      (λ place less. c.loop-shard.invariant place
      (omega (arith, less, c.loop-shard-test.false, c.shards-shard-end.ensures.value))),
  λ within. refl,
)
