use Rattle.pass_tokens.specs.{view}
use Rattle.report_session.proofs.SessionThreadLemmas.{session_thread_reports_at_ends}
use Rattle.report_session.proofs.whole_report.report_opened.Goals as goal

pub returns-clause-shown : goal.returns-clause-shown
returns-clause-shown g c =
    (session_thread_reports_at_ends c.args.opened.board.opening c.args.settings.now (view c.in_ok-gathered.gathered.pass) _
    c.in_ok-report.report c.requires.alike c.in_ok-gathered.ensures.ends c.in_ok-report.ensures.calls
    c.in_ok-report.ensures.sound).0

pub returns-clause-at_ends : goal.returns-clause-at_ends
returns-clause-at_ends g c =
    (session_thread_reports_at_ends c.args.opened.board.opening c.args.settings.now (view c.in_ok-gathered.gathered.pass) _
    c.in_ok-report.report c.requires.alike c.in_ok-gathered.ensures.ends c.in_ok-report.ensures.calls
    c.in_ok-report.ensures.sound).1
