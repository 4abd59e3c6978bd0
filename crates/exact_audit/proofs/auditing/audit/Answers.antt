use Rattle.std.proofs.Common.{◌≡◌, ℕ, ◌↔◌, List, refl, ap, sym, ◌∙◌, subst, arith}
use Rattle.std.proofs.lemmas.Result.{IfOk-weaker}
use Rattle.prefix_lattice.specs.{total_weight}
use Rattle.prefix_lattice.specs.declared.grain.Grain.{Grain}
use Rattle.hhh_report.specs.{AreOfGrain, records_before, IsSound, IsThreshold, prefixes_of_lines}
use Rattle.hhh_report.specs.declared.line.Line.{Line}
use Rattle.exact_audit.specs.declared.counted.Counted.{Counted}
use Rattle.exact_audit.specs.declared.verdict.Verdict.TheVariants.{Good, BadThreshold}
use Rattle.exact_audit.specs.declared.verdict.Verdict.{Verdict}
use Rattle.exact_audit.specs.LineCodes.{AreLineCodes}
use Rattle.exact_audit.specs.NodeSums.{AreCountedIn, records_in}
use Rattle.exact_audit.specs.Verdict.{IsLineVerdict, IsVerdict, ReachesLines}
use Rattle.exact_audit.proofs.VerdictLemmas.{verdict_threshold_is_unique, verdict_from_lines, verdict_is_good_iff_sound}
use Rattle.exact_audit.proofs.auditing.audit.Goals as goal

-- the codes are those of the report's lines, which are of the grain
coded_lines : (grain : Grain) (lines found : List Line) (codes : List ℕ) → found ≡ lines → AreOfGrain grain lines
    → ((grain : Grain) → AreOfGrain grain found → AreLineCodes grain (prefixes_of_lines found) codes)
    → AreLineCodes grain (prefixes_of_lines found) codes
coded_lines grain lines found codes same of_grain coded = coded grain (subst (AreOfGrain grain) (sym same) of_grain)

pub returns-then-report-threshold-clause-verdict : goal.returns-then-report-threshold-clause-verdict
returns-then-report-threshold-clause-verdict c = (
  c.if-not-are_within.ensures.0 refl,
  c.if-report-total.false ∙ c.total_before-total.ensures.total,
  λ is. c.if-report-threshold.true
      (verdict_threshold_is_unique c.args.phi c.args.report.now.total c.args.report.now.threshold c.threshold.result is
      (subst (λ t. IsThreshold c.args.phi t c.threshold.result) (sym c.if-report-total.false) c.threshold.ensures)),
)

pub returns-then-report-threshold-clause-good : goal.returns-then-report-threshold-clause-good
returns-then-report-threshold-clause-good c =
    verdict_is_good_iff_sound c.args.grain c.args.dealt.now c.args.capacity c.args.phi c.args.report.now BadThreshold
    (returns-then-report-threshold-clause-verdict c)

pub find-requires-clause-codes : goal.find-requires-clause-codes
find-requires-clause-codes c =
    coded_lines c.args.grain c.args.report.now.lines c.as_slice-lines.result.now c.in_ok-codes.codes.codes.keys
    c.as_slice-lines.ensures c.requires.lines c.in_ok-codes.ensures.codes

pub verdict_of-requires-clause-codes : goal.verdict_of-requires-clause-codes
verdict_of-requires-clause-codes c =
    coded_lines c.args.grain c.args.report.now.lines c.as_slice-lines.result.now c.in_ok-codes.codes.codes.keys
    c.as_slice-lines.ensures c.requires.lines c.in_ok-codes.ensures.codes

pub find-requires-clause-light : goal.find-requires-clause-light
find-requires-clause-light c =
    let coded = coded_lines c.args.grain c.args.report.now.lines c.as_slice-lines.result.now c.in_ok-codes.codes.codes.keys
    c.as_slice-lines.ensures c.requires.lines c.in_ok-codes.ensures.codes in
    let are = c.in_ok-counted.ensures (prefixes_of_lines c.as_slice-lines.result.now) coded in
    let same : total_weight (records_in c.deref.result.now) ≡ c.total_before-total.result =
    ap (λ (counted : List Counted). total_weight (records_in counted)) c.deref.ensures.value
    ∙ ap total_weight are.same ∙ sym c.total_before-total.ensures.total in
    omega (arith, same, c.total_before-total.ensures.bounded)

pub returns-clause-verdict : goal.returns-clause-verdict
returns-clause-verdict c =
    let report = c.args.report.now in
    let lists = c.args.dealt.now in
    let records = records_before lists report.positions in
    let coded = coded_lines c.args.grain c.args.report.now.lines c.as_slice-lines.result.now c.in_ok-codes.codes.codes.keys
    c.as_slice-lines.ensures c.requires.lines c.in_ok-codes.ensures.codes in
    let are = c.in_ok-counted.ensures (prefixes_of_lines c.as_slice-lines.result.now) coded in
    let found = c.in_ok-findings.ensures.found records
    (subst (AreCountedIn c.args.grain (prefixes_of_lines c.as_slice-lines.result.now) records) (sym c.deref.ensures.value) are) in
    let ByTotal : ℕ → List Line → Verdict → Type 0 = λ total lines verdict.
    IsLineVerdict (record { grain = c.args.grain; capacity = c.args.capacity; threshold = report.threshold; total = total }) records lines
    verdict in
    let head : ReachesLines lists c.args.phi report = record {
      positions = c.if-not-are_within.ensures.0 refl;
      total = c.if-report-total.false ∙ c.total_before-total.ensures.total;
      threshold =
          subst (λ total. IsThreshold c.args.phi total report.threshold) (sym c.if-report-total.false)
          (subst (IsThreshold c.args.phi c.total_before-total.result) (sym c.if-report-threshold.false)
          c.threshold.ensures);
    } in
    IfOk-weaker c.verdict_of.result _ (IsVerdict c.args.grain lists c.args.capacity c.args.phi report)
    (λ verdict is.
    verdict_from_lines c.args.grain lists c.args.capacity c.args.phi report verdict head
    (subst (λ lines. ByTotal report.total lines verdict) c.as_slice-lines.ensures
    (subst (λ total. ByTotal total c.as_slice-lines.result.now verdict) (sym c.if-report-total.false)
    (is records found (sym c.total_before-total.ensures.total)))))
    c.verdict_of.ensures

pub returns-clause-good : goal.returns-clause-good
returns-clause-good c =
    IfOk-weaker c.verdict_of.result (IsVerdict c.args.grain c.args.dealt.now c.args.capacity c.args.phi c.args.report.now)
    (λ verdict. (verdict ≡ Good) ↔ IsSound c.args.grain c.args.report.now c.args.dealt.now c.args.capacity c.args.phi)
    (verdict_is_good_iff_sound c.args.grain c.args.dealt.now c.args.capacity c.args.phi c.args.report.now)
    (returns-clause-verdict c)
