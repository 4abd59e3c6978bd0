use Rattle.session_audit.specs.Audit.{IsAuditedSound}
use Rattle.session_audit.proofs.FirstUnsoundLemmas.{first_unsound_holds_at_index, first_unsound_is_not_sound}
use Rattle.session_audit.proofs.FirstUnsoundLemmas.{first_unsound_reports_agree}
use Rattle.session_audit.proofs.laws.audits_find_one_report.Goals as goal

pub returns-clause-one_first : goal.returns-clause-one_first
returns-clause-one_first c = λ settings lists reports report number verdict other first second.
    first_unsound_reports_agree c.a_report_has_one_verdict.ensures settings lists reports report number verdict other first second

pub returns-clause-never_both : goal.returns-clause-never_both
returns-clause-never_both c = λ settings lists reports report verdict first sound.
    first_unsound_is_not_sound c.a_report_has_one_verdict.ensures settings lists reports report verdict first
    (first_unsound_holds_at_index (IsAuditedSound settings lists) reports first.before first.reported first.is sound)
