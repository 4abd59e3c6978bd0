use Rattle.std.proofs.Common.{arith, subst, sym}
use Rattle.pass_tokens.specs.{IsPassOf}
use Rattle.gate_workers.proofs.workers.feed_each.Goals as goal

pub for_each_mut-requires-clause-accepts : goal.for_each_mut-requires-clause-accepts
for_each_mut-requires-clause-accepts g c κs within place pass below at = (
  omega (arith, below, c.requires.count),
  c.requires.plan,
  subst (IsPassOf c.args.board.now) (sym at) (c.requires.workers place pass.now below),
)
