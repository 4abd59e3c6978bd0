use Rattle.std.proofs.Common.{ap, sym, subst, refl, All}
use Rattle.std.proofs.lemmas.List.{take_all}
use Rattle.std.proofs.lemmas.Bool.{false≢true}
use Rattle.prefix_lattice.specs.{HoldsWeight}
use Rattle.hhh_report.specs.{LineHoldsWeight}
use Rattle.exact_audit.specs.declared.node_sums.Sums.{Sums}
use Rattle.exact_audit.proofs.LineTestLemmas.{line_test_fails_after_passes, line_test_passes_one_more}
use Rattle.exact_audit.proofs.LineTestLemmas.{line_test_sums_at_place}
use Rattle.exact_audit.proofs.line_tests.bad_interval.Goals as goal

pub loop-place-preserved : goal.loop-place-preserved
loop-place-preserved c = λ records are.
    let line = c.index-lines-place.result in
    let own = line_test_sums_at_place c.args.lines.now records c.args.sums.now c.loop-place.place line
    (record { weight = 0; left = 0 }) are c.loop-place-test.true c.index-lines-place.is in
    line_test_passes_one_more (LineHoldsWeight records) c.args.lines.now c.loop-place.place line
    c.loop-place-test.true c.index-lines-place.is
    (subst (HoldsWeight line.lo line.hi) (ap (λ (s : Sums). s.weight) own) (c.if-not-holds.ensures.0 refl))
    (c.loop-place.invariant records are)

pub returns-then-not-holds : goal.returns-then-not-holds
returns-then-not-holds c = λ records are.
    let line = c.index-lines-place.result in
    let own = line_test_sums_at_place c.args.lines.now records c.args.sums.now c.loop-place.place line
    (record { weight = 0; left = 0 }) are c.loop-place-test.true c.index-lines-place.is in
    line_test_fails_after_passes (LineHoldsWeight records) c.args.lines.now c.loop-place.place line
    c.loop-place-test.true c.index-lines-place.is
    (λ holds. false≢true (c.if-not-holds.ensures.1
    (subst (HoldsWeight line.lo line.hi) (sym (ap (λ (s : Sums). s.weight) own)) holds)))
    (c.loop-place.invariant records are)

pub returns : goal.returns
returns c = λ records are.
    subst (All (LineHoldsWeight records)) (take_all c.loop-place.place c.args.lines.now c.loop-place-test.false)
    (c.loop-place.invariant records are)
