use Rattle.std.proofs.Common.{Some, None, map, length, sym, subst}
use Rattle.std.proofs.lemmas.Bool.{iff_false}
use Rattle.std.proofs.lemmas.Result.{err_from_is_err_and}
use Rattle.report_text.specs.Stages.{listing, FollowsStage}
use Rattle.report_text.specs.LineCursor.{ReadsLine}
use Rattle.report_text.specs.declared.session_line.SessionLine.TheVariants.{Line}
use Rattle.report_text.proofs.LineCursorLemmas.{line_reading_next_fault, line_reading_refused}
use Rattle.report_text.proofs.RefusedLineLemmas.{line_refused_in_listing}
use Rattle.report_text.proofs.ListedLineLemmas.{AreListedLines, listed_line_leaves_fewer, listed_lines_one_more}
use Rattle.report_text.proofs.ListedLineLemmas.{listed_lines_in_order, listed_lines_done}
use Rattle.report_text.proofs.session_reading.read_lines.Goals as goal

pub returns-in_err-read-clause-fault : goal.returns-in_err-read-clause-fault
returns-in_err-read-clause-fault c =
    let p = err_from_is_err_and c.from_residual.result c.from_residual.ensures.1 in
    rw (p.1, p.2) (λ shards stands.
    line_reading_next_fault c.args.grain c.args.lines.now c.lines.lines (map Line c.lines.listed) (listing shards 0 None)
    (listing shards (length c.lines.listed) c.lines.last) c.in_err-read.field-0.0 stands (c.lines.invariant.over shards)
    tt c.in_err-read.ensures.fault)

pub returns-in_default-read : goal.returns-in_default-read
returns-in_default-read c = record {
  read = tt;
  lines = tt;
  fault = λ shards stands.
      line_reading_refused c.args.grain c.args.lines.now c.lines.lines c.next.new.self (map Line c.lines.listed) c.in_ok-read.read
      (listing shards 0 None) (listing shards (length c.lines.listed) c.lines.last) c.refuse.result stands
      (c.lines.invariant.over shards) c.in_ok-read.ensures.read
      (line_refused_in_listing shards (length c.lines.listed) c.lines.last c.in_ok-read.read c.in_default.not-Line
      c.in_default-read.not-Done)
      (c.refuse.ensures c.args.grain);
}

pub returns-in_default : goal.returns-in_default
returns-in_default c = record {
  read =
      listed_lines_done c.args.grain c.args.lines.now c.lines.lines c.next.new.self c.lines.listed c.lines.last c.in_ok-read.read
      c.in-Done.is c.lines.invariant c.in_ok-read.ensures.read;
  lines = listed_lines_in_order c.args.grain c.args.lines.now c.lines.lines c.lines.listed c.lines.last c.lines.invariant;
  fault = tt;
}

pub returns-then-not-comes_after-clause-fault : goal.returns-then-not-comes_after-clause-fault
returns-then-not-comes_after-clause-fault c = λ shards stands.
    line_reading_refused c.args.grain c.args.lines.now c.lines.lines c.next.new.self (map Line c.lines.listed) c.in_ok-read.read
    (listing shards 0 None) (listing shards (length c.lines.listed) c.lines.last)
    c.refuse-then-not-comes_after.result stands (c.lines.invariant.over shards) c.in_ok-read.ensures.read
    (λ next follows. iff_false c.comes_after.ensures c.if-not-comes_after.true
    (subst (λ k. FollowsStage (listing shards (length c.lines.listed) c.lines.last) k next) c.in-Line.is follows).0)
    (c.refuse-then-not-comes_after.ensures c.args.grain)

pub lines-smaller : goal.lines-smaller
lines-smaller c = listed_line_leaves_fewer c.args.grain c.lines.lines c.next.new.self c.in_ok-read.read c.in_ok-read.ensures.read

pub lines-preserved : goal.lines-preserved
lines-preserved c =
    subst
    (λ l. AreListedLines c.args.grain c.args.lines.now c.next.new.self l (Some c.in-Line.line.prefix))
    (sym c.in_ok-push.ensures.ok)
    (listed_lines_one_more c.args.grain c.report_order_is_total.ensures.total c.args.lines.now c.lines.lines c.next.new.self c.lines.listed
    c.lines.last c.in-Line.line c.lines.invariant
    (subst (ReadsLine c.args.grain c.lines.lines c.next.new.self) c.in-Line.is c.in_ok-read.ensures.read)
    (c.comes_after.ensures.0 c.if-not-comes_after.false))
