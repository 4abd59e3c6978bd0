use Rattle.session_audit.proofs.AuditAnswerLemmas.{audit_answer_is_never_both, audit_answer_unsound_is_unique}
use Rattle.session_audit.proofs.AuditAnswerLemmas.{audit_answer_all_sound, audit_answer_first_unsound}
use Rattle.session_audit.proofs.laws.audits_have_one_answer.Goals as goal

pub returns-clause-sound : goal.returns-clause-sound
returns-clause-sound c =
    audit_answer_all_sound c.captures_are_dealt_in_one_way.ensures.lists
    (λ grain text session other is is_other. c.same_sessions_have_equal_reports.ensures session other
    (c.session_texts_have_one_reading.ensures.apart grain text session other is is_other))

pub returns-clause-unsound : goal.returns-clause-unsound
returns-clause-unsound c =
    audit_answer_first_unsound c.captures_are_dealt_in_one_way.ensures.lists
    (λ grain text session other is is_other. c.same_sessions_have_equal_reports.ensures session other
    (c.session_texts_have_one_reading.ensures.apart grain text session other is is_other))

pub returns-clause-never_both : goal.returns-clause-never_both
returns-clause-never_both c =
    audit_answer_is_never_both c.captures_are_dealt_in_one_way.ensures.lists
    (λ grain text session other is is_other. c.same_sessions_have_equal_reports.ensures session other
    (c.session_texts_have_one_reading.ensures.apart grain text session other is is_other)) c.a_report_has_one_verdict.ensures

pub returns-clause-one_first : goal.returns-clause-one_first
returns-clause-one_first c =
    audit_answer_unsound_is_unique c.captures_are_dealt_in_one_way.ensures.lists
    (λ grain text session other is is_other. c.same_sessions_have_equal_reports.ensures session other
    (c.session_texts_have_one_reading.ensures.apart grain text session other is is_other)) c.a_report_has_one_verdict.ensures
