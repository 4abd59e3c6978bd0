use Rattle.std.proofs.Common.{◌≡◌, ◌+◌, All, ap, sym, subst, IfSome, arith}
use Rattle.prefix_lattice.specs.{NodeValue, IsPrefix, node_at, node_index}
use Rattle.prefix_lattice.specs.declared.grain.Grain.{Grain}
use Rattle.hhh_report.specs.{prefixes_of_lines}
use Rattle.exact_audit.specs.LineCodes.{AreLineCodes}
use Rattle.exact_audit.specs.NodeSums.{AreCountedIn}
use Rattle.exact_audit.specs.Findings.{AreSumsBefore, IsFirstBefore}
use Rattle.exact_audit.proofs.FindingLemmas.{findings_hold_all_line_sums, findings_leave_out_first}
use Rattle.exact_audit.proofs.findings.find.Goals as goal

pub loop-index-preserved : goal.loop-index-preserved
loop-index-preserved c =
    let lines = c.args.lines.now in
    let prefixes = prefixes_of_lines lines in
    let node = c.unwrap-node.result in
    let by = c.args.by.now in
    let index = c.loop-index.index in
    let at : node_index node ≡ index =
    subst (λ o. IfSome o (λ n. node_index n ≡ index)) c.unwrap-node.ensures c.from_index.ensures.back in
    let of_grain : by.grain ≡ node.grain =
    sym (ap (λ (n : NodeValue). n.grain)
    (subst (λ o. IfSome o (λ n. n ≡ node_at by.grain index)) c.unwrap-node.ensures c.from_index.ensures.some)) in (
      c.note_lines.ensures.as_many,
      λ records are.
          let before = c.loop-index.invariant.1 records are in
          let sums = c.in_ok-sums.ensures.sums prefixes records
          (subst (λ (g : Grain). AreCountedIn g prefixes records c.args.counted.now) of_grain are) in (
            subst (λ (g : Grain). AreSumsBefore g (index + 1) lines records c.note_lines.new.line_sums.items) (sym of_grain)
                (subst (λ i. AreSumsBefore node.grain (i + 1) lines records c.note_lines.new.line_sums.items) at
                (c.note_lines.ensures.sums records
                (subst (λ (g : Grain). All (IsPrefix g) prefixes) of_grain c.requires.codes.prefixes) sums
                (subst (λ i. AreSumsBefore node.grain i lines records c.loop-index.line_sums.items) (sym at)
                (subst (λ (g : Grain). AreSumsBefore g index lines records c.loop-index.line_sums.items) of_grain before.0)))),
            subst (λ (g : Grain). IsFirstBefore g (index + 1) prefixes records by.threshold
                c.first_left_out-left_out.result) (sym of_grain)
                (subst (λ i. IsFirstBefore node.grain (i + 1) prefixes records by.threshold
                c.first_left_out-left_out.result) at
                (c.first_left_out-left_out.ensures prefixes records
                (subst (λ (g : Grain). AreLineCodes g prefixes c.args.codes.now.codes.keys) of_grain c.requires.codes) sums
                (subst (λ i. IsFirstBefore node.grain i prefixes records by.threshold c.loop-index.left_out) (sym at)
                (subst (λ (g : Grain). IsFirstBefore g index prefixes records by.threshold c.loop-index.left_out) of_grain
                before.1)))),
          ),
    )

pub returns-clause-found : goal.returns-clause-found
returns-clause-found c = λ records are.
    let found = c.loop-index.invariant.1 records are in
    record {
      sums = findings_hold_all_line_sums c.args.lines.now records c.loop-index.index c.loop-index.line_sums.items
          (omega (arith, c.loop-index-test.false)) c.requires.codes.prefixes found.0;
      left_out = findings_leave_out_first c.args.by.now.grain (prefixes_of_lines c.args.lines.now) records
          c.args.by.now.threshold c.loop-index.index
          c.loop-index.left_out (omega (arith, c.loop-index-test.false)) found.1;
    }
