use Rattle.std.proofs.Common.{◌+◌, ◌%◌, ◌<◌, arith}
use Rattle.std.proofs.Math.Nat.{mod-lt}
use Rattle.pass_tokens.specs.{view}
use Rattle.gate_workers.proofs.FeedingLemmas.{feeding_of_same_view, feeding_goes_on, feeding_stays_at_end}
use Rattle.gate_workers.proofs.FeedingLemmas.{feeding_tests_both_hold, feeding_round_goes_on, feeding_round_sees_ends}
use Rattle.gate_workers.proofs.feeding.feed_round.Goals as goal

pub loop-turn-init : goal.loop-turn-init
loop-turn-init g c = (
  c.requires.pass,
  feeding_of_same_view c.args.board.now.opening c.args.block (view c.args.pass.now),
  λ _ turn below. absurd (omega (arith, below)),
)

pub loop-turn-preserved : goal.loop-turn-preserved
loop-turn-preserved g c =
    let far = c.loop-turn.invariant in
    let fed = c.feed_shard-ended.ensures in
    let opening = c.args.board.now.opening in
    let shards = c.shards-shards.result in
    let first = c.args.worker % shards in (
      fed.pass,
      feeding_goes_on opening c.args.block (view c.args.pass.now) (view c.loop-turn.pass)
          (view c.feed_shard-ended.new.pass) far.1 fed.feeds,
      λ ended.
          let tests = feeding_tests_both_hold c.loop-turn.ended c.feed_shard-ended.result ended in
          feeding_round_goes_on opening shards first c.loop-turn.turn (view c.feed_shard-ended.new.pass)
          (λ earlier below.
          feeding_stays_at_end opening c.args.block ((first + earlier) % shards) (view c.loop-turn.pass)
          (view c.feed_shard-ended.new.pass) far.0.seat.trails fed.feeds (far.2 tests.0 earlier below))
          (fed.end tests.1),
    )

pub returns-clause-ends : goal.returns-clause-ends
returns-clause-ends g c = λ ended.
    let opening = c.args.board.now.opening in
    let shards = c.shards-shards.result in
    let kept = c.shards-shards.ensures in
    let inside : c.args.worker % shards < shards = mod-lt c.args.worker (omega (arith, kept.shards, kept.kept.some)) in
    feeding_round_sees_ends opening shards (c.args.worker % shards) (view c.loop-turn.pass) kept.shards inside
    (λ turn below. c.loop-turn.invariant.2 ended turn (omega (arith, below, c.loop-turn-test.false)))
