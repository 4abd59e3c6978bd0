use Rattle.report_text.proofs.PrintedSessionLemmas.{printed_session_report, session-printed}
use Rattle.report_text.proofs.PrintedSessionLemmas.{printed_session_has_its_lines, printed_sessions_told_apart}
use Rattle.report_text.proofs.laws.printed_sessions_read_back.Goals as goal

pub returns-clause-report : goal.returns-clause-report
returns-clause-report c = printed_session_report

pub returns-clause-printed : goal.returns-clause-printed
returns-clause-printed c = session-printed

pub returns-clause-lines : goal.returns-clause-lines
returns-clause-lines c = printed_session_has_its_lines

pub returns-clause-read : goal.returns-clause-read
returns-clause-read c = λ grain session other is other_is.
    printed_sessions_told_apart grain (record { texts = c.prefix_texts_read_back.ensures.apart; order = c.report_order_is_total.ensures.total })
    _ session other (record { is_session = is; spelled = session-printed session }) other_is
