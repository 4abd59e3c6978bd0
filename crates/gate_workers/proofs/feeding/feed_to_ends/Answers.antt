use Rattle.pass_tokens.specs.{view}
use Rattle.gate_workers.proofs.FeedingLemmas.{feeding_of_same_view, feeding_goes_on}
use Rattle.gate_workers.proofs.feeding.feed_to_ends.Goals as goal

pub loop-init : goal.loop-init
loop-init g c = (c.requires.pass, feeding_of_same_view c.args.board.now.opening c.args.block (view c.args.pass.now))

pub returns-then-feed_round-clause-feeds : goal.returns-then-feed_round-clause-feeds
returns-then-feed_round-clause-feeds g c =
    feeding_goes_on c.args.board.now.opening c.args.block (view c.args.pass.now) (view c.loop.pass)
    (view c.feed_round.new.pass) c.loop.invariant.1 c.feed_round.ensures.feeds

pub loop-preserved : goal.loop-preserved
loop-preserved g c = (
  c.feed_round.ensures.pass,
  feeding_goes_on c.args.board.now.opening c.args.block (view c.args.pass.now) (view c.loop.pass)
      (view c.feed_round.new.pass) c.loop.invariant.1 c.feed_round.ensures.feeds,
)
