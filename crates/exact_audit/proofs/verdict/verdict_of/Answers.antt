use Rattle.std.proofs.Common.{All, sym, subst}
use Rattle.hhh_report.specs.{prefixes_of_lines}
use Rattle.exact_audit.specs.LineTests.{IsTestResult, PassesJustified, measures_of}
use Rattle.exact_audit.specs.LeftOut.{IsLeftOut}
use Rattle.exact_audit.specs.Verdict.{IsLineVerdict}
use Rattle.exact_audit.specs.Findings.{AreSumsOf, IsFirst}
use Rattle.exact_audit.proofs.VerdictLemmas.{verdict_leaves_out_first, verdict_leaves_out_none}
use Rattle.exact_audit.proofs.verdict.verdict_of.Goals as goal
use Rattle.exact_audit.proofs.verdict.verdict_of.Goals.{in-Some-left_out, in-None}

pub returns : goal.returns
returns c = λ records are total.
    let lines = c.args.lines.now in
    let prefixes = prefixes_of_lines lines in
    let by = measures_of c.args.by.now in
    let held = c.in_default.ensures records (subst (AreSumsOf lines records) (sym c.deref.ensures.value) are.sums) in
    let justified : All (PassesJustified by records lines) lines =
    subst (IsTestResult (PassesJustified by records lines) lines) c.in_default-2.is
    (c.in_ok-line.ensures records (subst (AreSumsOf lines records) (sym c.deref-2.ensures.value) are.sums) total) in
    elim c.match-findings.branch [
      | in-Some-left_out w ↦
          subst (IsLineVerdict by records lines) (sym w.result-is) (
            held,
            c.in_default-too_wide.ensures,
            c.in_default-low_line.ensures,
            justified,
            verdict_leaves_out_first prefixes records c.args.by.now.threshold w.in-Some-left_out.left_out
                (subst (IsFirst (IsLeftOut by.grain prefixes records c.args.by.now.threshold)) w.in-Some-left_out.is are.left_out),
          )
      | in-None w ↦
          subst (IsLineVerdict by records lines) (sym w.result-is) (
            held,
            c.in_default-too_wide.ensures,
            c.in_default-low_line.ensures,
            justified,
            verdict_leaves_out_none prefixes records c.args.by.now.threshold
                (subst (IsFirst (IsLeftOut by.grain prefixes records c.args.by.now.threshold)) w.in-None.is are.left_out),
          )
    ]
