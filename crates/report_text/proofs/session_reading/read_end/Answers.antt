use Rattle.std.proofs.Common.{[], ◌∷◌, refl, sym, subst}
use Rattle.std.proofs.lemmas.Result.{err_from_is_err_and}
use Rattle.report_text.specs.Stages.{skipped, cut, FollowsStage}
use Rattle.report_text.proofs.LineCursorLemmas.{line_reading_stays, line_reading_of_one_line, line_reading_next_fault}
use Rattle.report_text.proofs.LineCursorLemmas.{line_reading_refused}
use Rattle.report_text.proofs.RefusedLineLemmas.{line_refused_after_skips, line_refused_unless_end}
use Rattle.report_text.proofs.session_reading.read_end.Goals as goal

pub returns-in_err-line-clause-fault : goal.returns-in_err-line-clause-fault
returns-in_err-line-clause-fault c =
    let p = err_from_is_err_and c.from_residual.result c.from_residual.ensures.1 in
    rw (p.1, p.2) (c.in_err-line.ensures.fault skipped tt c.requires)

pub returns-in_default-line : goal.returns-in_default-line
returns-in_default-line c = record {
  read = tt;
  fault =
      line_reading_refused c.args.grain c.args.lines.now c.args.lines.now c.next.new.self [] c.in_ok-line.line skipped skipped
      c.refuse.result c.requires (line_reading_stays c.args.grain c.args.lines.now skipped) c.in_ok-line.ensures.read
      (line_refused_after_skips c.in_ok-line.line c.in_default.not-Cut c.in_default-line.not-End) (c.refuse.ensures c.args.grain);
}

pub returns-in_err-next-clause-fault : goal.returns-in_err-next-clause-fault
returns-in_err-next-clause-fault c =
    let p = err_from_is_err_and c.from_residual-in_err-next.result c.from_residual-in_err-next.ensures.1 in
    rw (p.1, p.2)
    (line_reading_next_fault c.args.grain c.args.lines.now c.next.new.self (c.in_ok-line.line ∷ []) skipped cut c.in_err-next.field-0.0
    c.requires
    (line_reading_of_one_line c.args.grain c.args.lines.now c.next.new.self c.in_ok-line.line skipped cut c.in_ok-line.ensures.read
    (subst (λ k. FollowsStage skipped k cut) (sym c.in-Cut.is) refl))
    tt c.in_err-next.ensures.fault)

pub returns-in_default-2 : goal.returns-in_default-2
returns-in_default-2 c = record {
  read = tt;
  fault =
      line_reading_refused c.args.grain c.args.lines.now c.next.new.self c.next-2.new.self (c.in_ok-line.line ∷ []) c.in_ok-next.field-0
      skipped cut c.refuse-in_default-2.result c.requires
      (line_reading_of_one_line c.args.grain c.args.lines.now c.next.new.self c.in_ok-line.line skipped cut c.in_ok-line.ensures.read
      (subst (λ k. FollowsStage skipped k cut) (sym c.in-Cut.is) refl))
      c.in_ok-next.ensures.read (line_refused_unless_end c.in_ok-next.field-0 c.in_default-2.not-End)
      (c.refuse-in_default-2.ensures c.args.grain);
}
