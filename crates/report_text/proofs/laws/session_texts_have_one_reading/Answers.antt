use Rattle.report_text.proofs.SessionFaultLemmas.{session_fault_is_unique, session-no-fault}
use Rattle.report_text.proofs.PrintedSessionLemmas.{printed_sessions_told_apart}
use Rattle.report_text.proofs.laws.session_texts_have_one_reading.Goals as goal

pub returns-clause-apart : goal.returns-clause-apart
returns-clause-apart c = λ grain.
    printed_sessions_told_apart grain (record { texts = c.prefix_texts_read_back.ensures.apart; order = c.report_order_is_total.ensures.total })

pub returns-clause-one_fault : goal.returns-clause-one_fault
returns-clause-one_fault c = λ grain.
    session_fault_is_unique grain (record { texts = c.prefix_texts_read_back.ensures.apart; order = c.report_order_is_total.ensures.total })

pub returns-clause-no_fault : goal.returns-clause-no_fault
returns-clause-no_fault c = λ grain.
    session-no-fault grain (record { texts = c.prefix_texts_read_back.ensures.apart; order = c.report_order_is_total.ensures.total })
