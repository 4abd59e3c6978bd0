use Rattle.std.proofs.Common.{◌≡◌, ℕ, ◌+◌, ◌*◌, ◌≤◌, List, All, length, get_or, ap, sym, ◌∙◌, subst, arith}
use Rattle.std.proofs.lemmas.Bool.{false≢true}
use Rattle.std.proofs.lemmas.List.{length-map, take_all}
use Rattle.prefix_lattice.specs.{PrefixValue, closest, conditioned_weight, kept_pairs}
use Rattle.hhh_report.specs.{prefixes_of_lines}
use Rattle.hhh_report.specs.declared.line.Line.{Line}
use Rattle.exact_audit.specs.declared.node_sums.Sums.{Sums}
use Rattle.exact_audit.specs.LineTests.{PassesJustified}
use Rattle.exact_audit.specs.LineTests.{measures_of}
use Rattle.exact_audit.proofs.ClosestLineLemmas.{closest_lines_at_place, few_closest_lines, line_at_place}
use Rattle.exact_audit.proofs.LineTestLemmas.{line_test_fails_after_passes, line_test_passes_one_more}
use Rattle.exact_audit.proofs.LineTestLemmas.{line_test_sums_at_place}
use Rattle.exact_audit.proofs.line_tests.not_justified.Goals as goal

pub is_justified-requires-clause-few : goal.is_justified-requires-clause-few
is_justified-requires-clause-few c =
    let lines = c.args.lines.now in
    let prefixes = prefixes_of_lines lines in
    let at = line_at_place lines c.loop-place.place c.loop-place-test.true in
    let members : c.as_slice.result.now ≡ closest at.0.prefix prefixes =
    c.as_slice.ensures.value
    ∙ closest_lines_at_place lines c.loop-place.place at.0 c.in_ok-closest.closest.items c.index.result.now
    c.index.result.now c.loop-place-test.true at.1 c.in_ok-closest.ensures c.index.ensures in
    omega (
      arith,
      ap length members,
      few_closest_lines at.0.prefix prefixes,
      length-map lines (λ (l : Line). l.prefix),
      c.requires.few,
    )

pub loop-place-preserved : goal.loop-place-preserved
loop-place-preserved c = λ records are total.
    let lines = c.args.lines.now in
    let prefixes = prefixes_of_lines lines in
    let by = c.args.by.now in
    let place = c.loop-place.place in
    let at = line_at_place lines place c.loop-place-test.true in
    let line = at.0 in
    let members : c.as_slice.result.now ≡ closest line.prefix prefixes =
    c.as_slice.ensures.value
    ∙ closest_lines_at_place lines place line c.in_ok-closest.closest.items c.index.result.now c.index.result.now
    c.loop-place-test.true at.1 c.in_ok-closest.ensures c.index.ensures in
    let none : Sums = record { weight = 0; left = 0 } in
    let own = ap (λ (s : Sums). s.left)
    (line_test_sums_at_place lines records c.args.sums.now place line none are c.loop-place-test.true at.1) in
    let Allows : List PrefixValue → ℕ → ℕ → Type 0 = λ found left whole.
    by.capacity * by.threshold ≤ by.capacity * left + (1 + length found + length (kept_pairs found)) * whole in
    line_test_passes_one_more (PassesJustified (measures_of by) records lines) lines place line c.loop-place-test.true at.1
    (subst (Allows (closest line.prefix prefixes) (conditioned_weight line.prefix prefixes records)) (sym total)
    (subst (λ left. Allows (closest line.prefix prefixes) left by.total) own
    (subst (λ found. Allows found (get_or c.args.sums.now place none).left by.total) members (c.is_justified.ensures.0 c.if-not-is_justified.false))))
    (c.loop-place.invariant records are total)

pub returns-then-not-is_justified : goal.returns-then-not-is_justified
returns-then-not-is_justified c = λ records are total.
    let lines = c.args.lines.now in
    let prefixes = prefixes_of_lines lines in
    let by = c.args.by.now in
    let place = c.loop-place.place in
    let at = line_at_place lines place c.loop-place-test.true in
    let line = at.0 in
    let members : c.as_slice.result.now ≡ closest line.prefix prefixes =
    c.as_slice.ensures.value
    ∙ closest_lines_at_place lines place line c.in_ok-closest.closest.items c.index.result.now c.index.result.now
    c.loop-place-test.true at.1 c.in_ok-closest.ensures c.index.ensures in
    let none : Sums = record { weight = 0; left = 0 } in
    let own = ap (λ (s : Sums). s.left)
    (line_test_sums_at_place lines records c.args.sums.now place line none are c.loop-place-test.true at.1) in
    let Allows : List PrefixValue → ℕ → ℕ → Type 0 = λ found left whole.
    by.capacity * by.threshold ≤ by.capacity * left + (1 + length found + length (kept_pairs found)) * whole in
    line_test_fails_after_passes (PassesJustified (measures_of by) records lines) lines place line c.loop-place-test.true at.1
    (λ (justified : PassesJustified (measures_of by) records lines line).
    false≢true (sym c.if-not-is_justified.true
    ∙ c.is_justified.ensures.1 (subst (λ found. Allows found (get_or c.args.sums.now place none).left by.total) (sym members)
    (subst (λ left. Allows (closest line.prefix prefixes) left by.total) (sym own)
    (subst (Allows (closest line.prefix prefixes) (conditioned_weight line.prefix prefixes records)) total justified)))))
    (c.loop-place.invariant records are total)

pub returns : goal.returns
returns c = λ records are total.
    subst (All (PassesJustified (measures_of c.args.by.now) records c.args.lines.now))
    (take_all c.loop-place.place c.args.lines.now c.loop-place-test.false) (c.loop-place.invariant records are total)
