use Rattle.std.proofs.Common.{false, ◌∙◌, ◌++◌, take, sym, ap, subst, arith, append-nil, append_assoc}
use Rattle.std.specs.List.{All}
use Rattle.std.proofs.lemmas.List.{take_all}
use Rattle.hhh_report.specs.declared.reports.Reported.{Reported}
use Rattle.report_text.specs.{report_text}
use Rattle.report_session.specs.Session.{IsShownInSession, session_parts}
use Rattle.report_session.proofs.RoundLemmas.{round_report_has_positions}
use Rattle.report_session.proofs.SessionThreadLemmas.{session_thread_adds_report}
use Rattle.report_session.proofs.session.put_reports.Goals as goal

is_shown : (c : goal.After-print-arg-1)
    → IsShownInSession c.args.board.now.opening c.args.settings.now c.reported-item.result
is_shown c =
    subst (IsShownInSession c.args.board.now.opening c.args.settings.now) (sym c.reported-item.is)
    (subst (All (IsShownInSession c.args.board.now.opening c.args.settings.now)) (sym c.as_slice-all.ensures) c.requires.shown
    c.loop-reported.reported-index c.reported-item.result c.loop-reported-test.true)

pub loop-reported-init : goal.loop-reported-init
loop-reported-init c = sym (append-nil c.args.text.now.items)

pub print-requires-clause-positions : goal.print-requires-clause-positions
print-requires-clause-positions c =
    round_report_has_positions c.args.board.now.opening _ c.reported-item.result.report c.shards-shards.ensures.kept
    (is_shown c).is_report

pub print-requires-clause-threshold : goal.print-requires-clause-threshold
print-requires-clause-threshold c = (is_shown c).is_report.is.threshold.heavy.some

pub loop-reported-preserved : goal.loop-reported-preserved
loop-reported-preserved c =
    let index = c.loop-reported.reported-index in
    let all = c.as_slice-all.result.now in
    c.in_ok-print.ensures.ok ∙ ap (λ bytes. bytes ++ report_text c.reported-item.result.report) c.loop-reported.invariant
    ∙ append_assoc c.args.text.now.items (session_parts false (take index all)) (report_text c.reported-item.result.report)
    ∙ ap (λ rest. c.args.text.now.items ++ rest)
    (ap (λ (reported : Reported). session_parts false (take index all) ++ report_text reported.report) c.reported-item.is
    ∙ sym (session_thread_adds_report all index c.reported-item.result c.loop-reported-test.true))

pub returns : goal.returns
returns c =
    c.loop-reported.invariant ∙ ap (λ reports. c.args.text.now.items ++ session_parts false reports)
    (take_all c.loop-reported.reported-index c.as_slice-all.result.now
    (omega (arith, c.loop-reported.auto.reported-index-end, c.loop-reported-test.false)) ∙ c.as_slice-all.ensures)
