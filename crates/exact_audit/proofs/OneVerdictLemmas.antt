-- A report has one verdict: the number of tests that pass fixes it, and the first that fails has one first line or
-- prefix.
use Rattle.std.proofs.Common.{◌≡◌, ◌≢◌, ℕ, ◌<◌, ◌≤◌, zero, suc, List}
use Rattle.std.proofs.Common.{refl, sym, ap, ◌∙◌, subst, arith, ⊎_elim, ◌⊎◌}
use Rattle.std.specs.Cmp.{IsTotalOrder}
use Rattle.std.specs.Ordering.{ordering_reverse}
use Rattle.std.specs.declared.cmp.Ordering.{Ordering}
use Rattle.std.specs.declared.cmp.Ordering.TheVariants.{Less, Equal, Greater}
use Rattle.std.proofs.lemmas.Bool.{cases_lt, cases_order, cases_eq}
use Rattle.std.proofs.lemmas.List.{get_or-take, length-take-le}
use Rattle.std.proofs.lemmas.Option.{get_or_from_slice_get, slice_get_within}
use Rattle.prefix_lattice.specs.{RecordValue, PrefixValue, IsPrefix, finest_grain, report_order, conditioned_weight}
use Rattle.prefix_lattice.specs.declared.grain.Grain.{Grain}
use Rattle.hhh_report.specs.{records_before, AreWithinLists, IsThreshold, LineHoldsWeight}
use Rattle.hhh_report.specs.declared.line.Line.{Line}
use Rattle.hhh_report.specs.declared.report.Report.{Report}
use Rattle.hhh_report.specs.{IsNarrowLine, IsHeavyLine, AreComplete, prefixes_of_lines}
use Rattle.exact_audit.specs.declared.verdict.Verdict.{Verdict}
use Rattle.exact_audit.specs.declared.verdict.Verdict.TheVariants.{Good, BadPositions, BadTotal, BadThreshold}
use Rattle.exact_audit.specs.declared.verdict.Verdict.TheVariants.{BadInterval, TooWide, LowLine, NotJustified, LeftOut}
use Rattle.exact_audit.specs.LineTests.{FailsFirst, TestMeasures}
use Rattle.exact_audit.specs.LeftOut.{IsFirstLeftOut}
use Rattle.exact_audit.specs.Verdict.{IsVerdict, IsTotal}
use Rattle.exact_audit.specs.LineTests.{PassWeight, PassWidth, PassHeavy}
use Rattle.exact_audit.specs.LineTests.{PassJustified, PassesJustified}
use Rattle.exact_audit.specs.Verdict.{ReachesLines}
use Rattle.exact_audit.proofs.DepthLemmas.{IsPrefix-depth_finest}
use Rattle.exact_audit.proofs.VerdictLemmas.{no_verdict_where_all_pass}

-- two first lines that fail a test are the same
one_verdict_names_one_line : (Passes : Line → Type 0) (lines : List Line) (number other : ℕ)
    → FailsFirst Passes lines number
    → FailsFirst Passes lines other → number ≡ other
one_verdict_names_one_line Passes lines number other is other_is =
    ⊎_elim (λ (same : is.before ≡ other_is.before). omega (arith, same, is.counted, other_is.counted))
    (λ (apart : (is.before < other_is.before) ⊎ (other_is.before < is.before)).
    ⊎_elim (λ (less : is.before < other_is.before). absurd (earlier number other is other_is less))
    (λ (more : other_is.before < is.before). absurd (earlier other number other_is is more)) apart)
    (cases_order is.before other_is.before)
  where
    earlier : (number other : ℕ) (is : FailsFirst Passes lines number)
        (other_is : FailsFirst Passes lines other)
        → is.before < other_is.before → ⊥
    earlier number other is other_is less =
        let within = slice_get_within lines other_is.before other_is.line other_is.is in
        let long = length-take-le other_is.before lines (omega (arith, within)) in
        is.fails (subst Passes (get_or-take other_is.before lines is.before is.line less
        ∙ get_or_from_slice_get lines is.before is.line is.line is.is)
        (other_is.passed is.before is.line (omega (arith, less, long))))

-- two first prefixes that are left out are the same
one_verdict_names_one_prefix : IsTotalOrder report_order
    → ((prefix other : PrefixValue) → IsPrefix finest_grain prefix → IsPrefix finest_grain other → report_order prefix other ≡ Equal → prefix
    ≡ other)
    → {grain : Grain} (lines : List PrefixValue) (records : List RecordValue) (threshold : ℕ) (prefix other : PrefixValue)
    (weight more : ℕ)
    → IsFirstLeftOut grain lines records threshold prefix weight
    → IsFirstLeftOut grain lines records threshold other more
    → LeftOut prefix weight ≡ LeftOut other more
one_verdict_names_one_prefix order apart lines records threshold prefix other weight more is other_is =
    let same : prefix ≡ other =
    apart prefix other (IsPrefix-depth_finest prefix is.left_out.is_prefix)
    (IsPrefix-depth_finest other other_is.left_out.is_prefix)
    (equal (report_order prefix other) refl) in
    let weights : weight ≡ more =
    is.left_out.weighs ∙ ap (λ p. conditioned_weight p lines records) same ∙ sym other_is.left_out.weighs in
    ap (λ p. LeftOut p weight) same ∙ ap (LeftOut other) weights
  where
    equal : (answer : Ordering) → report_order prefix other ≡ answer → report_order prefix other ≡ Equal
    equal Less less = absurd (other_is.first prefix weight is.left_out less)
    equal Equal same = same
    equal Greater greater =
        absurd (is.first other more other_is.left_out
        (order.antisymm other prefix ∙ ap ordering_reverse greater))

-- what a verdict is on: the grain, the lists, the capacity, the share and the report
record OneVerdictSubject : Type 0 where
  pub grain : Grain
  pub lists : List (List RecordValue)
  pub capacity : ℕ
  pub phi : ℕ
  pub report : Report

-- what the tests of lines are made with
abbrev one_verdict_tested_by : OneVerdictSubject → TestMeasures
one_verdict_tested_by of = record {
  grain = of.grain;
  capacity = of.capacity;
  threshold = of.report.threshold;
  total = of.report.total;
}

-- the records that the report counts
abbrev one_verdict_records : OneVerdictSubject → List RecordValue
one_verdict_records of = records_before of.lists of.report.positions

-- the tests in their order; there is no ninth
abbrev OneVerdictTest : OneVerdictSubject → ℕ → Type 0
OneVerdictTest of zero = AreWithinLists of.report.positions of.lists
OneVerdictTest of (suc zero) = IsTotal of.lists of.report
OneVerdictTest of (suc (suc zero)) = IsThreshold of.phi of.report.total of.report.threshold
OneVerdictTest of (suc (suc (suc zero))) = PassWeight (one_verdict_records of) of.report.lines
OneVerdictTest of (suc (suc (suc (suc zero)))) = PassWidth (one_verdict_tested_by of) of.report.lines
OneVerdictTest of (suc (suc (suc (suc (suc zero))))) = PassHeavy (one_verdict_tested_by of) of.report.lines
OneVerdictTest of (suc (suc (suc (suc (suc (suc zero)))))) = PassJustified (one_verdict_tested_by of) (one_verdict_records of) of.report.lines
OneVerdictTest of (suc (suc (suc (suc (suc (suc (suc zero))))))) =
    AreComplete of.grain of.report.threshold (prefixes_of_lines of.report.lines) (one_verdict_records of)
OneVerdictTest of (suc (suc (suc (suc (suc (suc (suc (suc n)))))))) = ⊥

-- this many of the first tests hold
abbrev OneVerdictTestsHold : OneVerdictSubject → ℕ → Type 0
OneVerdictTestsHold of zero = Unit {0}
OneVerdictTestsHold of (suc n) = OneVerdictTestsHold of n × OneVerdictTest of n

-- how many tests hold before the one that fails
abbrev tests_before_one_verdict : Verdict → ℕ
tests_before_one_verdict BadPositions = 0
tests_before_one_verdict BadTotal = 1
tests_before_one_verdict BadThreshold = 2
tests_before_one_verdict (BadInterval number) = 3
tests_before_one_verdict (TooWide number) = 4
tests_before_one_verdict (LowLine number) = 5
tests_before_one_verdict (NotJustified number) = 6
tests_before_one_verdict (LeftOut prefix weight) = 7
tests_before_one_verdict Good = 8

abbrev IsOneVerdictOn : OneVerdictSubject → Verdict → Type 0
IsOneVerdictOn of verdict = IsVerdict of.grain of.lists of.capacity of.phi of.report verdict

one_verdict_passes_head : (of : OneVerdictSubject) → ReachesLines of.lists of.phi of.report → OneVerdictTestsHold of 3
one_verdict_passes_head of passes = (((tt, passes.positions), passes.total), passes.threshold)

-- the tests before the one that fails hold
tests_hold_before_one_verdict : (of : OneVerdictSubject) (verdict : Verdict) → IsOneVerdictOn of verdict
    → OneVerdictTestsHold of (tests_before_one_verdict verdict)
tests_hold_before_one_verdict of BadPositions is = tt
tests_hold_before_one_verdict of BadTotal is = (tt, is.0)
tests_hold_before_one_verdict of BadThreshold is = ((tt, is.0), is.1)
tests_hold_before_one_verdict of (BadInterval number) is = one_verdict_passes_head of is.head
tests_hold_before_one_verdict of (TooWide number) is = (one_verdict_passes_head of is.head, is.lines.0)
tests_hold_before_one_verdict of (LowLine number) is = ((one_verdict_passes_head of is.head, is.lines.0), is.lines.1)
tests_hold_before_one_verdict of (NotJustified number) is = (((one_verdict_passes_head of is.head, is.lines.0), is.lines.1), is.lines.2)
tests_hold_before_one_verdict of (LeftOut prefix weight) is = ((((one_verdict_passes_head of is.head, is.lines.0), is.lines.1), is.lines.2), is.lines.3)
tests_hold_before_one_verdict of Good is =
    ((((((((tt, is.positions), is.total), is.threshold), is.interval), is.width), is.heavy), is.justified), is.complete)

-- and that one fails
test_fails_at_one_verdict : (of : OneVerdictSubject) (verdict : Verdict) → IsOneVerdictOn of verdict
    → ¬ OneVerdictTest of (tests_before_one_verdict verdict)
test_fails_at_one_verdict of BadPositions is = is
test_fails_at_one_verdict of BadTotal is = is.1
test_fails_at_one_verdict of BadThreshold is = is.2
test_fails_at_one_verdict of (BadInterval number) is = λ all. no_verdict_where_all_pass (LineHoldsWeight (one_verdict_records of)) of.report.lines
    number all
    is.lines
test_fails_at_one_verdict of (TooWide number) is =
    λ all. no_verdict_where_all_pass (IsNarrowLine of.capacity of.report.total) of.report.lines number all is.lines.1
test_fails_at_one_verdict of (LowLine number) is = λ all. no_verdict_where_all_pass (IsHeavyLine of.report.threshold) of.report.lines number all
    is.lines.2
test_fails_at_one_verdict of (NotJustified number) is =
    λ all. no_verdict_where_all_pass (PassesJustified (one_verdict_tested_by of) (one_verdict_records of) of.report.lines) of.report.lines number all
    is.lines.3
test_fails_at_one_verdict of (LeftOut prefix weight) is = λ complete.
    let out = is.lines.4.left_out in
    omega (arith, complete prefix out.is_prefix out.no_line, out.weighs, out.heavy)
test_fails_at_one_verdict of Good is = λ none. none

-- each of the first tests
each_test_before_one_verdict : (of : OneVerdictSubject) (n k : ℕ) → k < n → OneVerdictTestsHold of n
    → OneVerdictTest of k
each_test_before_one_verdict of zero k less all = absurd (omega arith)
each_test_before_one_verdict of (suc n) k less all =
    ⊎_elim (λ (same : k ≡ n). subst (OneVerdictTest of) (sym same) all.1)
    (λ (apart : k ≢ n). each_test_before_one_verdict of n k (below apart) all.0) (cases_eq k n)
  where
    below : k ≢ n → k < n
    below apart = ⊎_elim (λ (is : k < n). is) (λ (not : n ≤ k). absurd (apart (omega arith))) (cases_lt k n)

-- no verdict fails earlier than another
one_verdict_is_no_earlier : (of : OneVerdictSubject) (verdict other : Verdict) → IsOneVerdictOn of verdict
    → IsOneVerdictOn of other
    → tests_before_one_verdict verdict < tests_before_one_verdict other
    → ⊥
one_verdict_is_no_earlier of verdict other is other_is less =
    test_fails_at_one_verdict of verdict is (each_test_before_one_verdict of (tests_before_one_verdict other) (tests_before_one_verdict verdict) less
    (tests_hold_before_one_verdict of other other_is))

-- two verdicts that fail at the same test are the same
one_verdict_at_one_test : IsTotalOrder report_order
    → ((prefix other : PrefixValue) → IsPrefix finest_grain prefix → IsPrefix finest_grain other → report_order prefix other ≡ Equal → prefix
    ≡ other)
    → (of : OneVerdictSubject) (verdict other : Verdict) → IsOneVerdictOn of verdict → IsOneVerdictOn of other
    → tests_before_one_verdict verdict ≡ tests_before_one_verdict other → verdict
    ≡ other
one_verdict_at_one_test order apart of BadPositions BadPositions is other_is same = refl
one_verdict_at_one_test order apart of BadTotal BadTotal is other_is same = refl
one_verdict_at_one_test order apart of BadThreshold BadThreshold is other_is same = refl
one_verdict_at_one_test order apart of (BadInterval number) (BadInterval other) is other_is same =
    ap BadInterval (one_verdict_names_one_line (LineHoldsWeight (one_verdict_records of)) of.report.lines number other is.lines other_is.lines)
one_verdict_at_one_test order apart of (TooWide number) (TooWide other) is other_is same =
    ap TooWide (one_verdict_names_one_line (IsNarrowLine of.capacity of.report.total) of.report.lines number other is.lines.1
    other_is.lines.1)
one_verdict_at_one_test order apart of (LowLine number) (LowLine other) is other_is same =
    ap LowLine (one_verdict_names_one_line (IsHeavyLine of.report.threshold) of.report.lines number other is.lines.2 other_is.lines.2)
one_verdict_at_one_test order apart of (NotJustified number) (NotJustified other) is other_is same =
    ap NotJustified (one_verdict_names_one_line (PassesJustified (one_verdict_tested_by of) (one_verdict_records of) of.report.lines) of.report.lines
    number other
    is.lines.3 other_is.lines.3)
one_verdict_at_one_test order apart of (LeftOut prefix weight) (LeftOut other more) is other_is same =
    one_verdict_names_one_prefix order apart (prefixes_of_lines of.report.lines) (one_verdict_records of) of.report.threshold prefix other weight more
    is.lines.4 other_is.lines.4
one_verdict_at_one_test order apart of Good Good is other_is same = refl
one_verdict_at_one_test order apart of verdict other is other_is same = absurd (omega arith)

-- a report has one verdict
pub one_verdict : IsTotalOrder report_order
    → ((prefix other : PrefixValue) → IsPrefix finest_grain prefix → IsPrefix finest_grain other → report_order prefix other ≡ Equal → prefix
    ≡ other)
    → (grain : Grain) (lists : List (List RecordValue)) (capacity phi : ℕ) (report : Report) (verdict other : Verdict)
    → IsVerdict grain lists capacity phi report verdict → IsVerdict grain lists capacity phi report other
    → verdict ≡ other
one_verdict order apart grain lists capacity phi report verdict other is other_is =
    let of : OneVerdictSubject = record { grain = grain; lists = lists; capacity = capacity; phi = phi; report = report } in
    ⊎_elim (λ (same : tests_before_one_verdict verdict ≡ tests_before_one_verdict other). one_verdict_at_one_test order apart of verdict other is other_is same)
    (λ (differ : (tests_before_one_verdict verdict < tests_before_one_verdict other) ⊎ (tests_before_one_verdict other < tests_before_one_verdict verdict)).
    ⊎_elim (λ (less : tests_before_one_verdict verdict < tests_before_one_verdict other). absurd (one_verdict_is_no_earlier of verdict other is other_is less))
    (λ (more : tests_before_one_verdict other < tests_before_one_verdict verdict). absurd (one_verdict_is_no_earlier of other verdict other_is is more)) differ)
    (cases_order (tests_before_one_verdict verdict) (tests_before_one_verdict other))
