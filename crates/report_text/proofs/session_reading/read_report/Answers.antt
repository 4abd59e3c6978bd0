use Rattle.std.proofs.Common.{None, [], ◌∷◌, ◌++◌, map, refl, sym, ◌∙◌, subst}
use Rattle.std.proofs.lemmas.Result.{err_from_is_err_and}
use Rattle.report_text.specs.Stages.{begun, placed, weighed, listing, done, FollowsStage}
use Rattle.report_text.specs.declared.session_line.SessionLine.TheVariants.{At, Total, Threshold, Line, Done}
use Rattle.report_text.proofs.LineCursorLemmas.{line_reading_stays, line_reading_goes_on, line_reading_known_line}
use Rattle.report_text.proofs.LineCursorLemmas.{line_reading_later_fault, line_reading_next_fault}
use Rattle.report_text.proofs.LineCursorLemmas.{line_reading_refused}
use Rattle.report_text.proofs.RefusedLineLemmas.{line_refused_unless_at, line_refused_unless_total}
use Rattle.report_text.proofs.RefusedLineLemmas.{line_refused_unless_threshold}
use Rattle.report_text.proofs.session_reading.read_report.Goals as goal

pub returns-in_err-positions-clause-fault : goal.returns-in_err-positions-clause-fault
returns-in_err-positions-clause-fault c =
    let p = err_from_is_err_and c.from_residual.result c.from_residual.ensures.1 in
    rw (p.1, p.2) (c.in_err-positions.ensures.fault (begun c.args.shards) tt c.requires)

pub returns-in_default : goal.returns-in_default
returns-in_default c = record {
  read = tt;
  fault =
      line_reading_refused c.args.grain c.args.lines.now c.args.lines.now c.next.new.self [] c.in_ok-positions.field-0 (begun c.args.shards)
      (begun c.args.shards) c.refuse.result c.requires (line_reading_stays c.args.grain c.args.lines.now (begun c.args.shards))
      c.in_ok-positions.ensures.read (line_refused_unless_at c.args.shards c.in_ok-positions.field-0 c.in_default.not-At)
      (c.refuse.ensures c.args.grain);
}

pub returns-then-len-shards-clause-fault : goal.returns-then-len-shards-clause-fault
returns-then-len-shards-clause-fault c =
    line_reading_refused c.args.grain c.args.lines.now c.args.lines.now c.next.new.self [] c.in_ok-positions.field-0 (begun c.args.shards)
    (begun c.args.shards) c.refuse-then-len-shards.result c.requires (line_reading_stays c.args.grain c.args.lines.now (begun c.args.shards))
    c.in_ok-positions.ensures.read
    (λ next follows. c.if-len-shards.true
    (c.len.ensures ∙ (subst (λ k. FollowsStage (begun c.args.shards) k next) c.in-At.is follows).0))
    (c.refuse-then-len-shards.ensures c.args.grain)

pub returns-in_err-total-clause-fault : goal.returns-in_err-total-clause-fault
returns-in_err-total-clause-fault c =
    let n = c.args.shards in
    let start = c.args.lines.now in
    let at = line_reading_known_line c.args.grain start start c.next.new.self [] c.in_ok-positions.field-0 (At c.in-At.positions) (begun n)
    (begun n) (placed n) (line_reading_stays c.args.grain start (begun n)) c.in_ok-positions.ensures.read c.in-At.is
    (sym c.len.ensures ∙ c.if-len-shards.false, refl) in
    let p = err_from_is_err_and c.from_residual-in_err-total.result c.from_residual-in_err-total.ensures.1 in
    rw (p.1, p.2)
    (line_reading_next_fault c.args.grain start c.next.new.self (At c.in-At.positions ∷ []) (begun n) (placed n) c.in_err-total.field-0.0
    c.requires at tt c.in_err-total.ensures.fault)

pub returns-in_default-2 : goal.returns-in_default-2
returns-in_default-2 c =
    let n = c.args.shards in
    let start = c.args.lines.now in
    let at = line_reading_known_line c.args.grain start start c.next.new.self [] c.in_ok-positions.field-0 (At c.in-At.positions) (begun n)
    (begun n) (placed n) (line_reading_stays c.args.grain start (begun n)) c.in_ok-positions.ensures.read c.in-At.is
    (sym c.len.ensures ∙ c.if-len-shards.false, refl) in
    record {
      read = tt;
      fault =
          line_reading_refused c.args.grain start c.next.new.self c.next-2.new.self (At c.in-At.positions ∷ []) c.in_ok-total.field-0 (begun n)
          (placed n) c.refuse-in_default-2.result c.requires at c.in_ok-total.ensures.read
          (line_refused_unless_total n c.in_ok-total.field-0 c.in_default-2.not-Total) (c.refuse-in_default-2.ensures c.args.grain);
    }

pub returns-in_err-threshold-clause-fault : goal.returns-in_err-threshold-clause-fault
returns-in_err-threshold-clause-fault c =
    let n = c.args.shards in
    let start = c.args.lines.now in
    let at = line_reading_known_line c.args.grain start start c.next.new.self [] c.in_ok-positions.field-0 (At c.in-At.positions) (begun n)
    (begun n) (placed n) (line_reading_stays c.args.grain start (begun n)) c.in_ok-positions.ensures.read c.in-At.is
    (sym c.len.ensures ∙ c.if-len-shards.false, refl) in
    let total = line_reading_known_line c.args.grain start c.next.new.self c.next-2.new.self (At c.in-At.positions ∷ []) c.in_ok-total.field-0
    (Total c.in-Total.total) (begun n) (placed n) (weighed n) at c.in_ok-total.ensures.read c.in-Total.is refl in
    let p = err_from_is_err_and c.from_residual-in_err-threshold.result c.from_residual-in_err-threshold.ensures.1 in
    rw (p.1, p.2)
    (line_reading_next_fault c.args.grain start c.next-2.new.self (At c.in-At.positions ∷ Total c.in-Total.total ∷ []) (begun n) (weighed n)
    c.in_err-threshold.field-0.0 c.requires total tt c.in_err-threshold.ensures.fault)

pub returns-in_default-3 : goal.returns-in_default-3
returns-in_default-3 c =
    let n = c.args.shards in
    let start = c.args.lines.now in
    let at = line_reading_known_line c.args.grain start start c.next.new.self [] c.in_ok-positions.field-0 (At c.in-At.positions) (begun n)
    (begun n) (placed n) (line_reading_stays c.args.grain start (begun n)) c.in_ok-positions.ensures.read c.in-At.is
    (sym c.len.ensures ∙ c.if-len-shards.false, refl) in
    let total = line_reading_known_line c.args.grain start c.next.new.self c.next-2.new.self (At c.in-At.positions ∷ []) c.in_ok-total.field-0
    (Total c.in-Total.total) (begun n) (placed n) (weighed n) at c.in_ok-total.ensures.read c.in-Total.is refl in
    record {
      read = tt;
      fault =
          line_reading_refused c.args.grain start c.next-2.new.self c.next-3.new.self (At c.in-At.positions ∷ Total c.in-Total.total ∷ [])
          c.in_ok-threshold.field-0 (begun n) (weighed n) c.refuse-in_default-3.result c.requires total
          c.in_ok-threshold.ensures.read
          (line_refused_unless_threshold n c.in_ok-threshold.field-0 c.in_default-3.not-Threshold) (c.refuse-in_default-3.ensures c.args.grain);
    }

pub returns-in_err-listed-clause-fault : goal.returns-in_err-listed-clause-fault
returns-in_err-listed-clause-fault c =
    let n = c.args.shards in
    let start = c.args.lines.now in
    let at = line_reading_known_line c.args.grain start start c.next.new.self [] c.in_ok-positions.field-0 (At c.in-At.positions) (begun n)
    (begun n) (placed n) (line_reading_stays c.args.grain start (begun n)) c.in_ok-positions.ensures.read c.in-At.is
    (sym c.len.ensures ∙ c.if-len-shards.false, refl) in
    let total = line_reading_known_line c.args.grain start c.next.new.self c.next-2.new.self (At c.in-At.positions ∷ []) c.in_ok-total.field-0
    (Total c.in-Total.total) (begun n) (placed n) (weighed n) at c.in_ok-total.ensures.read c.in-Total.is refl in
    let threshold = line_reading_known_line c.args.grain start c.next-2.new.self c.next-3.new.self
    (At c.in-At.positions ∷ Total c.in-Total.total ∷ []) c.in_ok-threshold.field-0 (Threshold c.in-Threshold.threshold)
    (begun n) (weighed n) (listing n 0 None) total c.in_ok-threshold.ensures.read c.in-Threshold.is refl in
    let p = err_from_is_err_and c.from_residual-in_err-listed.result c.from_residual-in_err-listed.ensures.1 in
    rw (p.1, p.2)
    (line_reading_later_fault c.args.grain start c.next-3.new.self
    (At c.in-At.positions ∷ Total c.in-Total.total ∷ Threshold c.in-Threshold.threshold ∷ []) (begun n)
    (listing n 0 None) c.in_err-listed.field-0.0 c.requires threshold (c.in_err-listed.ensures.fault n))

pub returns-clause-read : goal.returns-clause-read
returns-clause-read c =
    let n = c.args.shards in
    let start = c.args.lines.now in
    let at = line_reading_known_line c.args.grain start start c.next.new.self [] c.in_ok-positions.field-0 (At c.in-At.positions) (begun n)
    (begun n) (placed n) (line_reading_stays c.args.grain start (begun n)) c.in_ok-positions.ensures.read c.in-At.is
    (sym c.len.ensures ∙ c.if-len-shards.false, refl) in
    let total = line_reading_known_line c.args.grain start c.next.new.self c.next-2.new.self (At c.in-At.positions ∷ []) c.in_ok-total.field-0
    (Total c.in-Total.total) (begun n) (placed n) (weighed n) at c.in_ok-total.ensures.read c.in-Total.is refl in
    let threshold = line_reading_known_line c.args.grain start c.next-2.new.self c.next-3.new.self
    (At c.in-At.positions ∷ Total c.in-Total.total ∷ []) c.in_ok-threshold.field-0 (Threshold c.in-Threshold.threshold)
    (begun n) (weighed n) (listing n 0 None) total c.in_ok-threshold.ensures.read c.in-Threshold.is refl in
    line_reading_goes_on c.args.grain start c.next-3.new.self c.read_lines.new.lines
    (At c.in-At.positions ∷ Total c.in-Total.total ∷ Threshold c.in-Threshold.threshold ∷ [])
    (map Line c.in_ok-listed.listed ++ Done ∷ []) (begun n) (listing n 0 None) (done n) threshold
    (c.in_ok-listed.ensures.read n)
