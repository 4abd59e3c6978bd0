use Rattle.std.proofs.Common.{◌<◌, arith, length}
use Rattle.pass_tokens.specs.{view}
use Rattle.gate_workers.proofs.FeedingLemmas.{feeding_of_same_view, feeding_by_fold, feeding_by_loss, feeding_goes_on}
use Rattle.gate_workers.proofs.FeedingLemmas.{feeding_is_at_end}
use Rattle.gate_workers.proofs.feeding.feed_shard.Goals as goal

pub loop-init : goal.loop-init
loop-init g c = (c.requires.pass, feeding_of_same_view c.args.board.now.opening c.args.block (view c.args.pass.now))

pub returns-in-Busy-clause-feeds : goal.returns-in-Busy-clause-feeds
returns-in-Busy-clause-feeds g c =
    feeding_goes_on c.args.board.now.opening c.args.block (view c.args.pass.now) (view c.loop.pass)
    (view c.try_fold-tried.new.pass) c.loop.invariant.1
    (feeding_by_loss c.args.board.now.opening c.args.shard c.args.block (view c.loop.pass)
    (view c.try_fold-tried.new.pass) c.in-Busy.ensures.fold)

pub returns-then-done-clause-feeds : goal.returns-then-done-clause-feeds
returns-then-done-clause-feeds g c =
    feeding_goes_on c.args.board.now.opening c.args.block (view c.args.pass.now) (view c.loop.pass)
    (view c.try_fold-tried.new.pass) c.loop.invariant.1
    (feeding_by_fold c.args.board.now.opening c.args.shard c.args.block (view c.loop.pass)
    (view c.try_fold-tried.new.pass) c.in-Done.done c.in-Done.ensures.fold)

pub returns-then-done-clause-end : goal.returns-then-done-clause-end
returns-then-done-clause-end g c = λ _.
    let inside : c.args.shard < length (view c.loop.pass).trails =
    omega (arith, c.requires.within, c.loop.invariant.0.seat.trails) in
    feeding_is_at_end c.args.board.now.opening c.args.shard c.args.block (view c.loop.pass) (view c.try_fold-tried.new.pass)
    c.in-Done.done c.requires.block inside c.in-Done.ensures.fold c.if-done.true

pub loop-preserved : goal.loop-preserved
loop-preserved g c = (
  c.in-Done.ensures.pass,
  feeding_goes_on c.args.board.now.opening c.args.block (view c.args.pass.now) (view c.loop.pass)
      (view c.try_fold-tried.new.pass) c.loop.invariant.1
      (feeding_by_fold c.args.board.now.opening c.args.shard c.args.block (view c.loop.pass)
      (view c.try_fold-tried.new.pass) c.in-Done.done c.in-Done.ensures.fold),
)
