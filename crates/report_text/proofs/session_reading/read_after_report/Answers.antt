use Rattle.std.proofs.Common.{refl, sym, ◌∙◌, subst, ◌∷◌, []}
use Rattle.std.proofs.lemmas.Result.{err_from_is_err_and}
use Rattle.report_text.specs.Stages.{done, saved, FollowsStage}
use Rattle.report_text.proofs.LineCursorLemmas.{line_reading_stays, line_reading_of_one_line, line_reading_next_fault}
use Rattle.report_text.proofs.LineCursorLemmas.{line_reading_refused}
use Rattle.report_text.proofs.RefusedLineLemmas.{line_refused_after_done, line_refused_after_saved}
use Rattle.report_text.proofs.session_reading.read_after_report.Goals as goal

pub returns-in_err-line-clause-fault : goal.returns-in_err-line-clause-fault
returns-in_err-line-clause-fault c =
    let p = err_from_is_err_and c.from_residual.result c.from_residual.ensures.1 in
    rw (p.1, p.2) (c.in_err-line.ensures.fault (done c.args.shards) tt c.requires)

pub returns-in_default-after_saved : goal.returns-in_default-after_saved
returns-in_default-after_saved c = record {
  read = tt;
  fault =
      line_reading_refused c.args.grain c.args.lines.now c.args.lines.now c.next.new.self [] c.in_ok-line.line (done c.args.shards)
      (done c.args.shards) c.refuse.result c.requires (line_reading_stays c.args.grain c.args.lines.now (done c.args.shards))
      c.in_ok-line.ensures.read
      (line_refused_after_done c.args.shards c.in_ok-line.line c.in_default.not-Saved c.in_default-after_saved.ensures.none)
      (c.refuse.ensures c.args.grain);
}

pub returns-then-len-shards-clause-fault : goal.returns-then-len-shards-clause-fault
returns-then-len-shards-clause-fault c =
    line_reading_refused c.args.grain c.args.lines.now c.args.lines.now c.next.new.self [] c.in_ok-line.line (done c.args.shards)
    (done c.args.shards) c.refuse-then-len-shards.result c.requires (line_reading_stays c.args.grain c.args.lines.now (done c.args.shards))
    c.in_ok-line.ensures.read
    (λ next follows. c.if-len-shards.true
    (c.len.ensures ∙ (subst (λ k. FollowsStage (done c.args.shards) k next) c.in-Saved.is follows).0))
    (c.refuse-then-len-shards.ensures c.args.grain)

pub returns-in_err-next-clause-fault : goal.returns-in_err-next-clause-fault
returns-in_err-next-clause-fault c =
    let follows = subst (λ k. FollowsStage (done c.args.shards) k (saved c.args.shards)) (sym c.in-Saved.is)
    (sym c.len.ensures ∙ c.if-len-shards.false, refl) in
    let p = err_from_is_err_and c.from_residual-in_err-next.result c.from_residual-in_err-next.ensures.1 in
    rw (p.1, p.2)
    (line_reading_next_fault c.args.grain c.args.lines.now c.next.new.self (c.in_ok-line.line ∷ []) (done c.args.shards) (saved c.args.shards)
    c.in_err-next.field-0.0 c.requires
    (line_reading_of_one_line c.args.grain c.args.lines.now c.next.new.self c.in_ok-line.line (done c.args.shards) (saved c.args.shards)
    c.in_ok-line.ensures.read follows)
    tt c.in_err-next.ensures.fault)

pub returns-in_default-after_saved-2-clause-fault : goal.returns-in_default-after_saved-2-clause-fault
returns-in_default-after_saved-2-clause-fault c =
    let follows = subst (λ k. FollowsStage (done c.args.shards) k (saved c.args.shards)) (sym c.in-Saved.is)
    (sym c.len.ensures ∙ c.if-len-shards.false, refl) in
    line_reading_refused c.args.grain c.args.lines.now c.next.new.self c.next-2.new.self (c.in_ok-line.line ∷ []) c.in_ok-next.field-0
    (done c.args.shards) (saved c.args.shards) c.refuse-in_default-after_saved-2.result c.requires
    (line_reading_of_one_line c.args.grain c.args.lines.now c.next.new.self c.in_ok-line.line (done c.args.shards) (saved c.args.shards)
    c.in_ok-line.ensures.read follows)
    c.in_ok-next.ensures.read
    (line_refused_after_saved c.args.shards c.in_ok-next.field-0 c.in_default-after_saved-2.ensures.none)
    (c.refuse-in_default-after_saved-2.ensures c.args.grain)
