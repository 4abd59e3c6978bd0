use Rattle.std.proofs.Common.{arith, subst, sym}
use Rattle.gate_workers.specs.Running.{CanCall}
use Rattle.gate_workers.proofs.callers.call_each.Goals as goal

pub for_each_mut-requires-clause-accepts : goal.for_each_mut-requires-clause-accepts
for_each_mut-requires-clause-accepts g c κs within place caller below at = (
  omega (arith, below, c.requires.count),
  c.requires.plan,
  subst (CanCall c.args.board.now) (sym at) (c.requires.callers place caller.now below),
)
