use Rattle.std.proofs.Common.{false, ◌∙◌, ◌++◌, take, sym, ap, subst, arith}
use Rattle.std.proofs.lemmas.List.{length-map, take_all}
use Rattle.gate_workers.specs.declared.gathered.Called.{Called}
use Rattle.report_session.specs.DealtFeed.{other_reports}
use Rattle.report_session.specs.Session.{AreOfCaller, other_parts, session_parts}
use Rattle.report_session.proofs.SessionThreadLemmas.{session_thread_caller_at_index, session_thread_adds_caller}
use Rattle.report_session.proofs.session.reports_text.Goals as goal

pub loop-caller-init : goal.loop-caller-init
loop-caller-init c = c.new-text.ensures.items

pub put_reports-requires : goal.put_reports-requires
put_reports-requires c =
    let index = c.loop-caller.caller-index in
    let called = c.args.called.now in
    let d = c.caller-item.result in
    subst (AreOfCaller c.args.board.now.opening c.args.settings.now c.args.settings.now.rounds)
    (session_thread_caller_at_index called index d ∙ ap (λ (caller : Called). caller.reports) (sym c.caller-item.is))
    (c.requires index d.reports
    (omega (arith, c.loop-caller-test.true, length-map called (λ (caller : Called). caller.reports))))

pub loop-caller-preserved : goal.loop-caller-preserved
loop-caller-preserved c =
    let index = c.loop-caller.caller-index in
    let called = c.args.called.now in
    let d = c.caller-item.result in
    c.in_ok-put_reports.ensures ∙ ap (λ bytes. bytes ++ session_parts false d.reports) c.loop-caller.invariant
    ∙ ap (λ (caller : Called). other_parts (take index (other_reports called)) ++ session_parts false caller.reports)
    c.caller-item.is ∙ sym (session_thread_adds_caller called index d c.loop-caller-test.true)

pub returns : goal.returns
returns c =
    let called = c.args.called.now in
    c.loop-caller.invariant ∙ ap (other_parts) (take_all c.loop-caller.caller-index (other_reports called) (omega (
      arith,
      c.loop-caller.auto.caller-index-end,
      c.loop-caller-test.false,
      length-map called (λ (caller : Called). caller.reports),
    )))
