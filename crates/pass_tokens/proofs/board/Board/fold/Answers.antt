use Rattle.position_words.specs.{view}
use Rattle.pass_tokens.proofs.WaitLemmas.{wait_ends_with_fold}
use Rattle.pass_tokens.proofs.board.Board.fold.Goals as goal

pub returns-in-Done-clause-fold : goal.returns-in-Done-clause-fold
returns-in-Done-clause-fold g c =
    wait_ends_with_fold c.args.self.now.opening c.args.shard c.args.block (view c.args.pass.now) (view c.loop.pass)
    (view c.try_fold.new.pass) c.in-Done.done c.loop.invariant.1 c.in-Done.ensures.fold
