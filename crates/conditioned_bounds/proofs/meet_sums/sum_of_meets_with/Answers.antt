use Rattle.std.proofs.Common.{◌≡◌, ◌+◌, ◌++◌, ◌∷◌, [], length, sum_by, take, subst, sym, ap, ◌∙◌, arith}
use Rattle.std.specs.List.{filter_map}
use Rattle.std.proofs.lemmas.List.{length_push}
use Rattle.std.proofs.lemmas.List.Sums.{sum_by_push}
use Rattle.prefix_lattice.specs.{IsPrefix, pair_meet}
use Rattle.conditioned_bounds.proofs.MeetSumLemmas.{meet_sum-more, meet_sum-no_more}
use Rattle.conditioned_bounds.proofs.meet_sums.sum_of_meets_with.Goals as goal
use Rattle.conditioned_bounds.proofs.meet_sums.sum_of_meets_with.Goals.{in-Some, in_default}

pub interval-high-requires : goal.interval-high-requires
interval-high-requires g c =
    let grain = g.I.Intervals.grain_of c.args.intervals.now in
    let second : IsPrefix grain c.second-item.result =
    subst (IsPrefix grain) (sym c.second-item.is)
    (c.requires.seconds c.loop-second.second-index c.second-item.result c.loop-second-test.true) in
    c.meets_are_greatest.ensures.of_grain grain c.args.first.now c.second-item.result c.in-Some.meet c.requires.first
    second
    c.in-Some.ensures.meet

pub loop-second-preserved : goal.loop-second-preserved
loop-second-preserved g c =
    let high = g.I.Intervals.high c.args.intervals.now in
    let kept = pair_meet c.args.members.now c.args.first.now in
    let seconds = c.args.seconds.now in
    let at = c.loop-second.second-index in
    let before = filter_map kept (take at seconds) in
    let old = c.loop-second.invariant in
    elim c.match-kept_meet.branch [
      | in-Some w ↦
          let meet = w.in-Some.meet in
          let more : filter_map kept (take (at + 1) seconds) ≡ before ++ meet ∷ [] =
          meet_sum-more kept seconds at c.second-item.result meet c.loop-second-test.true c.second-item.is
          (sym c.kept_meet.ensures.value ∙ w.in-Some.is) in
          let sum : sum_by high (filter_map kept (take (at + 1) seconds)) ≡ sum_by high before + high meet =
          ap (sum_by high) more ∙ sum_by_push high before meet in
          let count : length (filter_map kept (take (at + 1) seconds)) ≡ length before + 1 =
          ap length more ∙ length_push before meet in
          let highs = ap (λ s. s.highs) w.sum-is in
          let pairs = ap (λ s. s.pairs) w.sum-is in
          let most = w.interval-high.ensures.most in
          let bounded = w.interval-high.ensures.bounded in
          record {
            highs = omega (arith, highs, sum, old.highs, w.from.ensures, most);
            pairs = omega (arith, pairs, count, old.pairs);
            bounded = omega (arith, highs, pairs, old.bounded, w.from.ensures, bounded);
            few = omega (arith, pairs, old.few);
          }
      | in_default w ↦
          let more : filter_map kept (take (at + 1) seconds) ≡ before =
          meet_sum-no_more kept seconds at c.second-item.result c.loop-second-test.true c.second-item.is
          (sym c.kept_meet.ensures.value ∙ w.in_default.is) in
          let sum : sum_by high (filter_map kept (take (at + 1) seconds)) ≡ sum_by high before = ap (sum_by high) more in
          let count : length (filter_map kept (take (at + 1) seconds)) ≡ length before = ap length more in
          let highs = ap (λ s. s.highs) w.sum-is in
          let pairs = ap (λ s. s.pairs) w.sum-is in
          record {
            highs = omega (arith, highs, sum, old.highs);
            pairs = omega (arith, pairs, count, old.pairs);
            bounded = omega (arith, highs, pairs, old.bounded);
            few = omega (arith, pairs, old.few);
          }
    ]
