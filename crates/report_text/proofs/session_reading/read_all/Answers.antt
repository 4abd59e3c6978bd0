use Rattle.std.proofs.Common.{[], ◌∷◌, ◌++◌, ap, refl, subst}
use Rattle.std.specs.List.{flat_map}
use Rattle.std.proofs.lemmas.Result.{err_from_is_err_and}
use Rattle.report_text.specs.Session.{reported_lines, cut_lines}
use Rattle.report_text.specs.Stages.{nothing, opened, counted, skipped, ended}
use Rattle.report_text.specs.LineCursor.{ReadsLines}
use Rattle.report_text.specs.declared.session_line.SessionLine.TheVariants.{Opened, Frames, Skipped, End}
use Rattle.report_text.proofs.LineCursorLemmas.{line_reading_stays, line_reading_goes_on, line_reading_known_line}
use Rattle.report_text.proofs.LineCursorLemmas.{line_reading_reads_more, line_reading_next_fault, line_reading_refused}
use Rattle.report_text.proofs.RefusedLineLemmas.{line_refused_unless_opened, line_refused_unless_skips}
use Rattle.report_text.proofs.ReadSessionLemmas.{read_session_line_groups}
use Rattle.report_text.proofs.session_reading.read_all.Goals as goal

pub returns-in_err-opened-clause-fault : goal.returns-in_err-opened-clause-fault
returns-in_err-opened-clause-fault c =
    let p = err_from_is_err_and c.from_residual.result c.from_residual.ensures.1 in
    rw (p.1, p.2) (c.in_err-opened.ensures.fault nothing tt c.requires)

pub returns-in_default : goal.returns-in_default
returns-in_default c = record {
  read = tt;
  fault =
      line_reading_refused c.args.grain c.args.lines.now c.args.lines.now c.next.new.self [] c.in_ok-opened.field-0 nothing nothing
      c.refuse.result c.requires (line_reading_stays c.args.grain c.args.lines.now nothing) c.in_ok-opened.ensures.read
      (line_refused_unless_opened c.in_ok-opened.field-0 c.in_default.not-Opened) (c.refuse.ensures c.args.grain);
}

pub read_reports-requires : goal.read_reports-requires
read_reports-requires c =
    let start = c.args.lines.now in
    let first = line_reading_known_line c.args.grain start start c.next.new.self [] c.in_ok-opened.field-0 (Opened c.in-Opened.opened) nothing
    nothing (opened c.len.result) (line_reading_stays c.args.grain start nothing) c.in_ok-opened.ensures.read c.in-Opened.is
    (ap opened c.len.ensures) in
    line_reading_reads_more c.args.grain start c.next.new.self (Opened c.in-Opened.opened ∷ []) nothing (opened c.len.result) c.requires first

pub returns-in_err-skips-clause-fault : goal.returns-in_err-skips-clause-fault
returns-in_err-skips-clause-fault c =
    let start = c.args.lines.now in
    let listed = c.in_ok-listed.listed in
    let reports = flat_map reported_lines listed.reports ++ Frames listed.frames ∷ [] in
    let first = line_reading_known_line c.args.grain start start c.next.new.self [] c.in_ok-opened.field-0 (Opened c.in-Opened.opened) nothing
    nothing (opened c.len.result) (line_reading_stays c.args.grain start nothing) c.in_ok-opened.ensures.read c.in-Opened.is
    (ap opened c.len.ensures) in
    let all = line_reading_goes_on c.args.grain start c.next.new.self c.read_reports.new.lines (Opened c.in-Opened.opened ∷ []) reports nothing
    (opened c.len.result) counted first c.in_ok-listed.ensures.read in
    let p = err_from_is_err_and c.from_residual-in_err-skips.result c.from_residual-in_err-skips.ensures.1 in
    rw (p.1, p.2)
    (line_reading_next_fault c.args.grain start c.read_reports.new.lines (Opened c.in-Opened.opened ∷ reports) nothing counted
    c.in_err-skips.field-0.0 c.requires all tt c.in_err-skips.ensures.fault)

pub returns-in_default-2 : goal.returns-in_default-2
returns-in_default-2 c =
    let start = c.args.lines.now in
    let listed = c.in_ok-listed.listed in
    let reports = flat_map reported_lines listed.reports ++ Frames listed.frames ∷ [] in
    let first = line_reading_known_line c.args.grain start start c.next.new.self [] c.in_ok-opened.field-0 (Opened c.in-Opened.opened) nothing
    nothing (opened c.len.result) (line_reading_stays c.args.grain start nothing) c.in_ok-opened.ensures.read c.in-Opened.is
    (ap opened c.len.ensures) in
    let all = line_reading_goes_on c.args.grain start c.next.new.self c.read_reports.new.lines (Opened c.in-Opened.opened ∷ []) reports nothing
    (opened c.len.result) counted first c.in_ok-listed.ensures.read in
    record {
      read = tt;
      fault =
          line_reading_refused c.args.grain start c.read_reports.new.lines c.next-2.new.self (Opened c.in-Opened.opened ∷ reports)
          c.in_ok-skips.field-0 nothing counted c.refuse-in_default-2.result c.requires all c.in_ok-skips.ensures.read
          (line_refused_unless_skips c.in_ok-skips.field-0 c.in_default-2.not-Skipped) (c.refuse-in_default-2.ensures c.args.grain);
    }

pub read_end-requires : goal.read_end-requires
read_end-requires c =
    let start = c.args.lines.now in
    let listed = c.in_ok-listed.listed in
    let reports = flat_map reported_lines listed.reports ++ Frames listed.frames ∷ [] in
    let skips = c.in-Skipped.skips in
    let first = line_reading_known_line c.args.grain start start c.next.new.self [] c.in_ok-opened.field-0 (Opened c.in-Opened.opened) nothing
    nothing (opened c.len.result) (line_reading_stays c.args.grain start nothing) c.in_ok-opened.ensures.read c.in-Opened.is
    (ap opened c.len.ensures) in
    let all = line_reading_goes_on c.args.grain start c.next.new.self c.read_reports.new.lines (Opened c.in-Opened.opened ∷ []) reports nothing
    (opened c.len.result) counted first c.in_ok-listed.ensures.read in
    let more = line_reading_known_line c.args.grain start c.read_reports.new.lines c.next-2.new.self (Opened c.in-Opened.opened ∷ reports)
    c.in_ok-skips.field-0 (Skipped skips) nothing counted skipped all c.in_ok-skips.ensures.read c.in-Skipped.is refl in
    line_reading_reads_more c.args.grain start c.next-2.new.self ((Opened c.in-Opened.opened ∷ reports) ++ Skipped skips ∷ []) nothing skipped
    c.requires more

pub returns-clause-read : goal.returns-clause-read
returns-clause-read c =
    let start = c.args.lines.now in
    let listed = c.in_ok-listed.listed in
    let reports = flat_map reported_lines listed.reports ++ Frames listed.frames ∷ [] in
    let skips = c.in-Skipped.skips in
    let first = line_reading_known_line c.args.grain start start c.next.new.self [] c.in_ok-opened.field-0 (Opened c.in-Opened.opened) nothing
    nothing (opened c.len.result) (line_reading_stays c.args.grain start nothing) c.in_ok-opened.ensures.read c.in-Opened.is
    (ap opened c.len.ensures) in
    let all = line_reading_goes_on c.args.grain start c.next.new.self c.read_reports.new.lines (Opened c.in-Opened.opened ∷ []) reports nothing
    (opened c.len.result) counted first c.in_ok-listed.ensures.read in
    let more = line_reading_known_line c.args.grain start c.read_reports.new.lines c.next-2.new.self (Opened c.in-Opened.opened ∷ reports)
    c.in_ok-skips.field-0 (Skipped skips) nothing counted skipped all c.in_ok-skips.ensures.read c.in-Skipped.is refl in
    let end = cut_lines c.in_ok-cut.cut ++ End ∷ [] in
    let whole = line_reading_goes_on c.args.grain start c.next-2.new.self c.read_end.new.lines
    ((Opened c.in-Opened.opened ∷ reports) ++ Skipped skips ∷ []) end nothing skipped ended more c.in_ok-cut.ensures.read in
    subst (λ l. ReadsLines c.args.grain start c.read_end.new.lines l nothing ended)
    (read_session_line_groups (Opened c.in-Opened.opened) (Frames listed.frames) (Skipped skips)
    (flat_map reported_lines listed.reports) end)
    whole
