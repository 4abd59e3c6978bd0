use Rattle.std.proofs.Common.{ℕ, cond, ap, ◌∙◌, is_some, arith}
use Rattle.prefix_lattice.specs.{pair_meet}
use Rattle.exact_audit.proofs.KeptLineLemmas.{kept_line_count_grows}
use Rattle.exact_audit.proofs.kept_pairs.count_kept_with.Goals as goal
use Rattle.exact_audit.proofs.kept_pairs.count_kept_with.Goals.{then-is_some, else-is_some}

pub loop-second-preserved : goal.loop-second-preserved
loop-second-preserved c =
    let kept = pair_meet c.args.members.now c.args.first.now in
    let more = kept_line_count_grows kept c.args.seconds.now c.loop-second.second-index c.second-item.result c.is_some.result
    c.loop-second-test.true c.second-item.is (c.is_some.ensures ∙ ap is_some c.kept_meet.ensures) in
    elim c.if-is_some.branch [
      | then-is_some w ↦
          let one = ap {B = ℕ} (λ b. cond b 1 0) w.if-is_some.true in (
            omega (arith, more, one, w.pairs-is, c.loop-second.invariant.0),
            omega
                (arith, w.pairs-is, c.loop-second.invariant.1),
          )
      | else-is_some w ↦
          let none = ap {B = ℕ} (λ b. cond b 1 0) w.if-is_some.false in (
            omega (arith, more, none, w.pairs-is, c.loop-second.invariant.0),
            omega
                (arith, w.pairs-is, c.loop-second.invariant.1),
          )
    ]
