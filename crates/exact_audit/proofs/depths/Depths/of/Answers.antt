use Rattle.std.proofs.Common.{◌≡◌, ℕ, ◌-◌, ◌≤◌, ◌<◌, replicate, length, get_or, set, refl, sym, ◌∙◌, subst}
use Rattle.std.proofs.Common.{arith, ⊎_elim}
use Rattle.std.proofs.lemmas.Bool.{cases_lt}
use Rattle.std.proofs.lemmas.List.{length-set, get_or-replicate, get_or-set_same, get_or-set_other}
use Rattle.exact_audit.specs.Depths.{IsDepth}
use Rattle.exact_audit.proofs.DepthLemmas.{depth_of_all_lengths}
use Rattle.exact_audit.proofs.depths.Depths.of.Goals as goal

pub loop-source-init : goal.loop-source-init
loop-source-init c =
    let all = c.lengths-source.result in
    let zero : ◌≡◌ {A = ℕ} 0 (get_or (replicate 10 0) all 0) =
    sym (get_or-replicate 10 all 0 0 (omega (arith, c.lengths-source.ensures.few))) in (
      omega (arith, c.lengths-source.ensures.value),
      omega arith,
      refl,
      zero,
      λ prefixes coded source least few.
          let at : all ≡ source = omega (arith, c.lengths-source.ensures.value, least, few) in
          subst (λ s. IsDepth c.args.grain prefixes c.args.rec.now s (get_or (replicate 10 0) s 0)) at
          (subst (IsDepth c.args.grain prefixes c.args.rec.now all) zero
          (subst (λ s. IsDepth c.args.grain prefixes c.args.rec.now s 0) (sym c.lengths-source.ensures.value)
          (depth_of_all_lengths c.args.grain prefixes c.args.rec.now))),
    )

pub loop-source-preserved : goal.loop-source-preserved
loop-source-preserved c =
    let at = c.loop-source.source - 1 in
    let old = c.loop-source.by_steps in
    let one = c.depth-below.result in
    let long : length old ≡ 10 = c.loop-source.invariant.2 in
    let within : at < length old = omega (arith, long, c.lengths-source.ensures, c.loop-source.invariant.0) in
    let same : one ≡ get_or (set old at one) at 0 = sym (get_or-set_same old at one 0 within) in (
      omega (arith, c.loop-source.invariant.0),
      c.depth-below.ensures.few,
      length-set old at one ∙ long,
      same,
      λ prefixes coded source least few.
          let here : IsDepth c.args.grain prefixes c.args.rec.now at one =
          c.depth-below.ensures.depth prefixes coded
          (subst (λ s. IsDepth c.args.grain prefixes c.args.rec.now s c.loop-source.below) (omega arith)
          (subst (IsDepth c.args.grain prefixes c.args.rec.now c.loop-source.source) (sym c.loop-source.invariant.3)
          (c.loop-source.invariant.4 prefixes coded c.loop-source.source (omega arith) c.loop-source.invariant.0))) in
          ⊎_elim (λ (more : at < source).
          subst (IsDepth c.args.grain prefixes c.args.rec.now source)
          (sym (get_or-set_other old at source one 0 (λ is. omega (arith, is, more))))
          (c.loop-source.invariant.4 prefixes coded source (omega (arith, more)) few))
          (λ (not_more : source ≤ at).
          let is : at ≡ source = omega (arith, not_more, least) in
          subst (λ s. IsDepth c.args.grain prefixes c.args.rec.now s (get_or (set old at one) s 0)) is
          (subst (IsDepth c.args.grain prefixes c.args.rec.now at) same here)) (cases_lt at source),
    )

pub returns : goal.returns
returns c = λ prefixes coded source few. c.loop-source.invariant.4 prefixes coded source (omega arith) few
