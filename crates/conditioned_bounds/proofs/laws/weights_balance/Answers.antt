use Rattle.std.proofs.Common.{sym}
use Rattle.conditioned_bounds.proofs.JointWeightLemmas.{joint_weights_balance}
use Rattle.prefix_lattice.specs.{closest, kept_pairs}
use Rattle.conditioned_bounds.proofs.BalanceLemmas.{balances}
use Rattle.conditioned_bounds.proofs.laws.weights_balance.Goals as goal

pub returns : goal.returns
returns c = λ prefix lines records distinct.
    joint_weights_balance prefix lines (closest prefix lines) (kept_pairs (closest prefix lines))
    (λ rec. balances c.covering_goes_up.ensures
    (λ first second lowest is. (c.meets_are_greatest.ensures.under_both first second lowest is).0) prefix lines
    rec
    (sym (c.closest_lines_explain.ensures.explain prefix lines rec))
    (c.staircase_law.ensures (closest prefix lines) rec
    (c.closest_lines_explain.ensures.incomparable prefix lines distinct)))
    records
