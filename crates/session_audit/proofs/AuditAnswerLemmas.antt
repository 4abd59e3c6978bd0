-- What an audit finds of a text over a capture, where each kind of dealing is a formula: one answer.
use Rattle.std.proofs.Common.{refl, ◌≡◌, ◌∙◌, ℕ, List, length, All, sym, ap, subst}
use Rattle.prefix_lattice.specs.{RecordValue}
use Rattle.deal_rules.specs.declared.deal_kind.DealKind.{DealKind}
use Rattle.frame_records.specs.declared.records.Records.{Records}
use Rattle.hhh_report.specs.declared.reports.Reported.{Reported}
use Rattle.report_text.specs.{IsSessionText}
use Rattle.report_text.specs.declared.session.Session.{Session}
use Rattle.exact_audit.specs.declared.verdict.Verdict.{Verdict}
use Rattle.command_words.specs.declared.settings.Settings.{Settings}
use Rattle.session_audit.specs.Audit.{AreAudited, IsFirstUnsound, IsAuditedSound, IsSoundAudit}
use Rattle.session_audit.specs.Audit.{IsUnsoundAudit, sound_audit}
use Rattle.dealt_capture.specs.{AreDealtRecords, rules_by}
use Rattle.session_audit.proofs.FirstUnsoundLemmas.{FirstUnsoundHasOneVerdict, first_unsound_holds_at_index}
use Rattle.session_audit.proofs.FirstUnsoundLemmas.{first_unsound_is_not_sound, first_unsound_reports_agree}
use Rattle.prefix_lattice.specs.declared.grain.Grain.{Grain}

-- a text has one list of reports
abbrev pub AuditAnswerHasOneSession : Type 0
AuditAnswerHasOneSession =
    (grain : Grain) (text : List ℕ) (session other : Session) → IsSessionText grain text session
    → IsSessionText grain text other
    → other.reports ≡ session.reports

-- a capture is dealt in one way
abbrev pub AuditAnswerIsDealtOnce : Type 0
AuditAnswerIsDealtOnce =
    (formula : DealKind → ℕ → RecordValue → ℕ → ℕ) (settings other : Settings) (file : List ℕ) (records others : Records)
    (lists other_lists : List (List RecordValue)) → settings.shards ≡ other.shards → settings.deal ≡ other.deal
    → settings.weigh ≡ other.weigh → AreDealtRecords settings (rules_by formula) file records lists
    → AreDealtRecords other (rules_by formula) file others other_lists → lists ≡ other_lists

-- all reports of a text are sound, where some session of it is found sound
pub audit_answer_all_sound : AuditAnswerIsDealtOnce → AuditAnswerHasOneSession → (formula : DealKind → ℕ → RecordValue → ℕ → ℕ)
    (settings : Settings) (file text answer : List ℕ) (lists : List (List RecordValue)) (session : Session)
    → IsSoundAudit settings (rules_by formula) file text answer
    → AreAudited settings (rules_by formula) file text lists session
    → All (IsAuditedSound settings lists) session.reports × (answer ≡ sound_audit (length session.reports))
audit_answer_all_sound once one formula settings file text answer lists session is audited =
    let same_lists : lists ≡ is.lists =
    once formula settings settings file audited.records is.audited.records lists is.lists refl refl refl audited.dealt is.audited.dealt in
    let same_reports : session.reports ≡ is.session.reports =
    one settings.grain text is.session session is.audited.is_session audited.is_session in (
      subst (λ l. All (IsAuditedSound settings l) session.reports) (sym same_lists)
          (subst (λ reports. All (IsAuditedSound settings is.lists) reports) (sym same_reports) is.sound),
      is.spelled ∙ sym (ap (λ (reports : List Reported). sound_audit (length reports)) same_reports),
    )

-- and the first unsound one is that of each
pub audit_answer_first_unsound : AuditAnswerIsDealtOnce → AuditAnswerHasOneSession → (formula : DealKind → ℕ → RecordValue → ℕ → ℕ)
    (settings : Settings) (file text : List ℕ) (number : ℕ) (verdict : Verdict) (lists : List (List RecordValue)) (session : Session)
    → IsUnsoundAudit settings (rules_by formula) file text number verdict
    → AreAudited settings (rules_by formula) file text lists session
    → IsFirstUnsound settings lists session.reports number verdict
audit_answer_first_unsound once one formula settings file text number verdict lists session is audited =
    subst (λ l. IsFirstUnsound settings l session.reports number verdict)
    (once formula settings settings file is.audited.records audited.records is.lists lists refl refl refl is.audited.dealt audited.dealt)
    (subst (λ reports. IsFirstUnsound settings is.lists reports number verdict)
    (one settings.grain text session is.session audited.is_session is.audited.is_session) is.first)

-- a session of sound reports has none that is not
pub audit_answer_is_never_both : AuditAnswerIsDealtOnce → AuditAnswerHasOneSession → FirstUnsoundHasOneVerdict
    → (formula : DealKind → ℕ → RecordValue → ℕ → ℕ) (settings : Settings) (file text answer : List ℕ) (number : ℕ)
    (verdict : Verdict) → IsSoundAudit settings (rules_by formula) file text answer
    → IsUnsoundAudit settings (rules_by formula) file text number verdict → ⊥
audit_answer_is_never_both once one one_verdict formula settings file text answer number verdict sound is =
    let first = audit_answer_first_unsound once one formula settings file text number verdict sound.lists
    sound.session is sound.audited in
    first_unsound_is_not_sound one_verdict settings sound.lists sound.session.reports number verdict first
    (first_unsound_holds_at_index (IsAuditedSound settings sound.lists) sound.session.reports first.before first.reported first.is sound.sound)

-- and a session with one that is not has one first
pub audit_answer_unsound_is_unique : AuditAnswerIsDealtOnce → AuditAnswerHasOneSession → FirstUnsoundHasOneVerdict
    → (formula : DealKind → ℕ → RecordValue → ℕ → ℕ)
    (settings : Settings) (file text : List ℕ) (number other_number : ℕ) (verdict other : Verdict)
    → IsUnsoundAudit settings (rules_by formula) file text number verdict
    → IsUnsoundAudit settings (rules_by formula) file text other_number other
    → (other_number ≡ number) × (other ≡ verdict)
audit_answer_unsound_is_unique once one one_verdict formula settings file text number other_number verdict other is
    is_other =
    first_unsound_reports_agree one_verdict settings is.lists is.session.reports number other_number verdict other is.first
    (audit_answer_first_unsound once one formula settings file text other_number other is.lists is.session is_other
    is.audited)
