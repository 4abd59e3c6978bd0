use Rattle.std.proofs.Common.{Some, None, [], ◌∷◌, ◌++◌, sym, subst}
use Rattle.std.specs.List.{flat_map}
use Rattle.std.proofs.lemmas.Result.{err_from_is_err_and}
use Rattle.report_text.specs.Session.{reported_lines, saved_lines}
use Rattle.report_text.specs.Stages.{opened, begun, done, line_after_report, after_report, body_lines}
use Rattle.report_text.specs.LineCursor.{ReadsLines}
use Rattle.report_text.specs.declared.session_line.SessionLine.TheVariants.{Report}
use Rattle.report_text.proofs.LineCursorLemmas.{line_reading_stays, line_reading_goes_on, line_reading_reads_more}
use Rattle.report_text.proofs.LineCursorLemmas.{line_reading_refused}
use Rattle.report_text.proofs.RefusedLineLemmas.{line_refused_unless_report}
use Rattle.report_text.proofs.ReadReportLemmas.{read_report_leaves_fewer, one_more_read_report}
use Rattle.report_text.proofs.session_reading.read_reports.Goals as goal

pub returns-in_err-next-clause-fault : goal.returns-in_err-next-clause-fault
returns-in_err-next-clause-fault c =
    let p = err_from_is_err_and c.from_residual.result c.from_residual.ensures.1 in
    rw (p.1, p.2) (c.in_err-next.ensures.fault (opened c.args.shards) tt c.requires)

pub returns-in_default : goal.returns-in_default
returns-in_default c = record {
  read = tt;
  fault =
      line_reading_refused c.args.grain c.args.lines.now c.args.lines.now c.next.new.self [] c.in_ok-next.field-0 (opened c.args.shards)
      (opened c.args.shards) c.refuse.result c.requires (line_reading_stays c.args.grain c.args.lines.now (opened c.args.shards))
      c.in_ok-next.ensures.read (line_refused_unless_report c.args.shards c.in_ok-next.field-0 c.in_default.not-Report)
      (c.refuse.ensures c.args.grain);
}

pub read_report-requires : goal.read_report-requires
read_report-requires c =
    line_reading_reads_more c.args.grain c.args.lines.now c.reports.lines (flat_map reported_lines c.reports.reports ++ Report ∷ [])
    (opened c.args.shards) (begun c.args.shards) c.requires c.reports.invariant

pub read_after_report-requires : goal.read_after_report-requires
read_after_report-requires c =
    let begins = flat_map reported_lines c.reports.reports ++ Report ∷ [] in
    line_reading_reads_more c.args.grain c.args.lines.now c.read_report.new.lines (begins ++ body_lines c.in_ok-report.report)
    (opened c.args.shards) (done c.args.shards) c.requires
    (line_reading_goes_on c.args.grain c.args.lines.now c.reports.lines c.read_report.new.lines begins (body_lines c.in_ok-report.report)
    (opened c.args.shards) (begun c.args.shards) (done c.args.shards) c.reports.invariant c.in_ok-report.ensures.read)

pub returns-in-Some-clause-read : goal.returns-in-Some-clause-read
returns-in-Some-clause-read c =
    let n = c.args.shards in
    let more = one_more_read_report c.args.grain c.args.lines.now c.reports.lines c.read_report.new.lines c.read_after_report.new.lines n
    c.reports.reports c.in_ok-report.report c.in_ok-after.after.saved c.in_ok-after.after.frames c.reports.invariant
    c.in_ok-report.ensures.read c.in_ok-after.ensures.read in
    let known = subst
    (λ frames. ReadsLines c.args.grain c.args.lines.now c.read_after_report.new.lines
    (flat_map reported_lines
    (c.reports.reports ++ record { report = c.in_ok-report.report; saved = c.in_ok-after.after.saved } ∷ [])
    ++ line_after_report frames ∷ [])
    (opened n) (after_report n frames))
    c.in-Some.is more in
    subst
    (λ reports. ReadsLines c.args.grain c.args.lines.now c.read_after_report.new.lines
    (flat_map reported_lines reports ++ line_after_report (Some c.in-Some.frames) ∷ []) (opened n)
    (after_report n (Some c.in-Some.frames)))
    (sym c.in_ok-push.ensures.ok) known

pub reports-smaller : goal.reports-smaller
reports-smaller c =
    read_report_leaves_fewer c.args.grain c.reports.lines c.read_report.new.lines c.read_after_report.new.lines c.in_ok-report.report
    (saved_lines c.in_ok-after.after.saved ++ line_after_report c.in_ok-after.after.frames ∷ []) (begun c.args.shards)
    (done c.args.shards) (after_report c.args.shards c.in_ok-after.after.frames) c.in_ok-report.ensures.read
    c.in_ok-after.ensures.read

pub reports-preserved : goal.reports-preserved
reports-preserved c =
    let n = c.args.shards in
    let more = one_more_read_report c.args.grain c.args.lines.now c.reports.lines c.read_report.new.lines c.read_after_report.new.lines n
    c.reports.reports c.in_ok-report.report c.in_ok-after.after.saved c.in_ok-after.after.frames c.reports.invariant
    c.in_ok-report.ensures.read c.in_ok-after.ensures.read in
    let known = subst
    (λ frames. ReadsLines c.args.grain c.args.lines.now c.read_after_report.new.lines
    (flat_map reported_lines
    (c.reports.reports ++ record { report = c.in_ok-report.report; saved = c.in_ok-after.after.saved } ∷ [])
    ++ line_after_report frames ∷ [])
    (opened n) (after_report n frames))
    c.in_default-frames.is more in
    subst
    (λ reports. ReadsLines c.args.grain c.args.lines.now c.read_after_report.new.lines
    (flat_map reported_lines reports ++ line_after_report None ∷ []) (opened n) (after_report n None))
    (sym c.in_ok-push.ensures.ok) known
