use Rattle.key_index.proofs.HomeLemmas.{home_mixed_on}
use Rattle.key_index.proofs.homes.mix_on.Goals as goal

pub loop-preserved : goal.loop-preserved
loop-preserved c = home_mixed_on c.loop.counter c.args.number c.loop.mixed c.mix-mixed.result c.loop.invariant c.mix-mixed.ensures
