use Rattle.std.proofs.Common.{subst}
use Rattle.shard_state.specs.{CutValue}
use Rattle.position_words.specs.{view}
use Rattle.pass_tokens.specs.TryRead.{ReadsAtLast}
use Rattle.pass_tokens.proofs.WaitLemmas.{wait_ends_with_read}
use Rattle.pass_tokens.proofs.board.Board.read.Goals as goal

pub returns-in-Done-clause-read : goal.returns-in-Done-clause-read
returns-in-Done-clause-read g c =
    subst (λ (cut : CutValue).
    ReadsAtLast c.args.self.now.opening c.args.shard (view c.args.pass.now) cut (view c.try_read.new.pass)
    c.try_read.new.cut) c.loop.invariant.2
    (wait_ends_with_read c.args.self.now.opening c.args.shard (view c.args.pass.now) (view c.loop.pass)
    (view c.try_read.new.pass) c.loop.cut c.try_read.new.cut c.loop.invariant.1 c.in-Done.ensures.read)
