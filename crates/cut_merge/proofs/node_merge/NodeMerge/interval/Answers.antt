use Rattle.std.proofs.Common.{◌≡◌, ◌+◌, ◌<◌, ◌^◌, ℕ, List, sum_by, take, get_or, sym, ap, ◌∙◌, subst, arith}
use Rattle.std.proofs.lemmas.List.Sums.{sum_by_more, sum_by-take-le}
use Rattle.cut_merge.specs.Run.{RunValue, run_interval}
use Rattle.cut_merge.specs.NodeMerge.{NodeMergeValue}
use Rattle.cut_merge.specs.Merged.{interval_for_key}
use Rattle.cut_merge.proofs.node_merge.NodeMerge.interval.Goals as goal

pub overflow_add-high : goal.overflow_add-high
overflow_add-high c =
    let key = c.args.key in
    let high : RunValue → ℕ = λ run. (run_interval run key).high in
    let runs = c.deref-run-items.result.now in
    let at = c.loop-run.run-index in
    let run = c.run-item.result in
    let whole : sum_by high runs < 2 ^ 64 =
    subst (λ (rs : List RunValue). sum_by high rs < 2 ^ 64) (sym c.deref-run-items.ensures.value)
    (subst (λ (v : NodeMergeValue). (interval_for_key v key).high < 2 ^ 64) (sym c.self.view_is) c.requires.high) in
    let same : runs ≡ c.args.self.now.runs =
    c.deref-run-items.ensures.value ∙ ap (λ (v : NodeMergeValue). v.runs) c.self.view_is in
    let here : high (get_or runs at run) ≡ high run = ap high (sym c.run-item.is) in
    let least = c.interval-least.ensures.high in
    omega (
      arith,
      whole,
      here,
      least,
      ap (λ (rs : List RunValue). sum_by high (take at rs)) same,
      c.loop-run.invariant.1,
      sum_by_more high runs at run c.loop-run-test.true,
      sum_by-take-le high runs (at + 1),
    )

pub overflow_add-low : goal.overflow_add-low
overflow_add-low c =
    let key = c.args.key in
    let low : RunValue → ℕ = λ run. (run_interval run key).low in
    let runs = c.deref-run-items.result.now in
    let at = c.loop-run.run-index in
    let run = c.run-item.result in
    let whole : sum_by low runs < 2 ^ 64 =
    subst (λ (rs : List RunValue). sum_by low rs < 2 ^ 64) (sym c.deref-run-items.ensures.value)
    (subst (λ (v : NodeMergeValue). (interval_for_key v key).low < 2 ^ 64) (sym c.self.view_is) c.requires.low) in
    let same : runs ≡ c.args.self.now.runs =
    c.deref-run-items.ensures.value ∙ ap (λ (v : NodeMergeValue). v.runs) c.self.view_is in
    let here : low (get_or runs at run) ≡ low run = ap low (sym c.run-item.is) in
    let least = c.interval-least.ensures.low in
    omega (
      arith,
      whole,
      here,
      least,
      ap (λ (rs : List RunValue). sum_by low (take at rs)) same,
      c.loop-run.invariant.0,
      sum_by_more low runs at run c.loop-run-test.true,
      sum_by-take-le low runs (at + 1),
    )
