use Rattle.std.proofs.Common.{arith, rules}
use Rattle.key_index.proofs.WalkLemmas.{walk_counts_on}
use Rattle.key_index.proofs.chains.is_full_walk.Goals as goal

pub loop-step-init : goal.loop-step-init
loop-step-init c = record {
  within = c.requires.head;
  walk = λ room backs rank home chains high. record { live = λ low. absurd (omega arith); steps = omega arith };
}

pub loop-step-preserved : goal.loop-step-preserved
loop-step-preserved c = record {
  within = search rules;
  walk = λ room backs rank home chains high.
      walk_counts_on room c.args.links.now backs c.args.links.now rank home 0 c.args.head chains c.loop-step.cell c.loop-step._step c.from-mark.result
      (c.loop-step.invariant.walk room backs rank home chains high) (search rules) c.if-mark-eq0.false;
}
