-- How an audit or a watch can end by what the text of its session says.
use Rattle.std.proofs.Common.{◌≡◌, ◌⊎◌, ◌≤◌, ℕ, List, length, All, Some, IfSome}
use Rattle.std.proofs.Common.{inl, inr, refl, ap, ap₂, subst, ⊎_elim}
use Rattle.prefix_lattice.specs.{RecordValue}
use Rattle.frame_records.specs.{IsRefusedFile}
use Rattle.hhh_report.specs.declared.reports.Reported.{Reported}
use Rattle.report_text.specs.{HasSessionFault, IsSessionText, longest_session}
use Rattle.report_text.specs.declared.session.Session.{Session}
use Rattle.report_text.specs.declared.session_fault.TextFault.{TextFault}
use Rattle.exact_audit.specs.declared.verdict.Verdict.{Verdict}
use Rattle.command_words.specs.{AskForCommand}
use Rattle.command_words.specs.declared.command.Command.{Command}
use Rattle.command_words.specs.declared.command.Command.TheVariants.{Weigh, Report as ToReport, Format, Audit, Watch, Make}
use Rattle.command_words.specs.declared.command.Command.TheVariants.{Demo}
use Rattle.command_words.specs.declared.settings.Settings.{Settings}
use Rattle.session_audit.specs.{AreAudited, IsAuditText, IsFirstUnsound, IsAuditedSound, IsSoundAudit}
use Rattle.session_audit.specs.{IsUnsoundAudit}
use Rattle.hhh_engine.specs.Answer.{IsUnfinished}
use Rattle.hhh_engine.specs.Ending.{SessionFinds, SessionRefused}
use Rattle.session_watch.specs.{IsWatchOf}
use Rattle.watch_rules.specs.declared.rule.Rule.{Rule}
use Rattle.pcap_frames.specs.declared.fault.CaptureFault.{CaptureFault}
use Rattle.hhh_engine.specs.Inputs.{InputBytes, HoldsOfAudit, WereRead}
use Rattle.dealt_capture.specs.{IsCaptureFile, DealingRules}
use Rattle.run_status.specs.declared.status.Status.{Status}
use Rattle.run_status.specs.declared.status.Status.TheVariants.{Done, BadWords, BadCapture, ReadFault, WriteFault}
use Rattle.run_status.specs.declared.status.Status.TheVariants.{DiskFault, NotFormatted, Damaged, OtherSettings}
use Rattle.run_status.specs.declared.status.Status.TheVariants.{OtherCapture, AuditNo, BadReport, OutOfMemory}
use Rattle.hhh_engine.proofs.StatusLemmas.{CaptureStatusIsFaultless, SessionStatusIsFaultless, status_of_known_file}
use Rattle.outside_io.specs.declared.source.Source.{Ghosts as SourceOf}
use Rattle.outside_io.specs.declared.sink.Sink.{Ghosts as SinkOf}
use Rattle.slot_disk.specs.declared.disk.Disk.{Ghosts as DiskOf}
use Rattle.hhh_engine.specs.Rules.{RunRules}
use Rattle.hhh_engine.specs.Commands.{CommandEnds}
use Rattle.hhh_engine.specs.TopCall.{FindsUnsound, RefusesText, Streams, run_inputs}
use Rattle.prefix_lattice.specs.declared.grain.Grain.{Grain}

-- a text has one fault at most
abbrev pub AuditFindingHasOneFault : Type 0
AuditFindingHasOneFault = (grain : Grain) (text : List ℕ) (fault other : TextFault) → HasSessionFault grain text fault
    → HasSessionFault grain text other → fault ≡ other

-- an audit finds one report first, and none where all are sound
pub record AuditFindingIsUnique : Type 0 where
  pub one_first : (settings : Settings) (lists : List (List RecordValue)) (reports : List Reported) (report number : ℕ)
      (verdict other : Verdict) → IsFirstUnsound settings lists reports report verdict
      → IsFirstUnsound settings lists reports number other → (number ≡ report) × (other ≡ verdict)
  pub never_both : (settings : Settings) (lists : List (List RecordValue)) (reports : List Reported) (report : ℕ) (verdict : Verdict)
      → IsFirstUnsound settings lists reports report verdict → All (IsAuditedSound settings lists) reports → ⊥

-- what holds of known inputs
pub audit_finding_of_known_inputs : (settings : Settings) (given : InputBytes) (file bytes : List ℕ) (Holds : List ℕ → List ℕ → Type 0)
    → given.capture ≡ Some file → given.text ≡ Some bytes → HoldsOfAudit settings given Holds → Holds file bytes
audit_finding_of_known_inputs settings given file bytes Holds is_file is_text holds =
    status_of_known_file given.text bytes (Holds file) is_text
    (status_of_known_file given.capture file (λ f. IsCaptureFile settings.front f × IfSome given.text (Holds f)) is_file holds).1

-- the audit of a text with a fault says nothing
audit_finding_excludes_bad_text : SessionStatusIsFaultless → (settings : Settings) (rules : DealingRules) (file bytes answer : List ℕ) (fault : TextFault)
    → HasSessionFault settings.grain bytes fault → IsAuditText settings rules file bytes answer → ⊥
audit_finding_excludes_bad_text no_fault settings rules file bytes answer fault has =
    ⊎_elim
    (λ is. no_fault settings.grain bytes is.session fault is.audited.is_session is.audited.not_long has)
    (λ is. no_fault settings.grain bytes is.2.session fault is.2.audited.is_session is.2.audited.not_long has)

-- a run, whose command ended so
module _ {S T K D : Type 0} (s : SourceOf S) (t : SourceOf T) (k : SinkOf K) (d : DiskOf D) (old new : Streams S T K D)
    (rules : RunRules) where
  -- its inputs, and how a command of it ends
  abbrev given : InputBytes
  given = run_inputs s t k d old new

  abbrev Ended : Command → Status → Type 0
  Ended = CommandEnds s t k d old new rules

  -- an audit of a text with a fault is refused for it, unless a source fails or memory runs out
  pub audit_finding_is_text_fault : CaptureStatusIsFaultless → AuditFindingHasOneFault → SessionStatusIsFaultless
      → (settings : Settings) (status : Status) (file bytes : List ℕ) (fault : TextFault)
      → given.capture ≡ Some file → IsCaptureFile settings.front file → given.text ≡ Some bytes → HasSessionFault settings.grain bytes fault
      → Ended (Audit settings) status
      → (status ≡ BadReport fault) ⊎ ((status ≡ ReadFault) ⊎ (status ≡ OutOfMemory))
  audit_finding_is_text_fault never_both one_fault no_fault settings Done file bytes fault is_file capture is_text has ends =
      let is =
      audit_finding_of_known_inputs settings given file bytes (λ f t. IsSoundAudit settings rules.dealing f t ends.1.text) is_file is_text ends.1.is_text in
      absurd (no_fault settings.grain bytes is.session fault is.audited.is_session is.audited.not_long has)
  audit_finding_is_text_fault never_both one_fault no_fault settings (BadWords kind) file bytes fault is_file capture is_text has ends =
      absurd ends
  audit_finding_is_text_fault never_both one_fault no_fault settings (BadCapture other) file bytes fault is_file capture is_text has ends =
      absurd (never_both settings.front file capture other
      (status_of_known_file given.capture file (λ f. IsRefusedFile settings.front f other) is_file ends.0))
  audit_finding_is_text_fault never_both one_fault no_fault settings ReadFault file bytes fault is_file capture is_text has ends =
      inr (inl refl)
  audit_finding_is_text_fault never_both one_fault no_fault settings WriteFault file bytes fault is_file capture is_text has ends =
      let is =
      audit_finding_of_known_inputs settings given file bytes (λ f t. IsUnfinished (IsAuditText settings rules.dealing f t) ends.1.text) is_file is_text
      ends.1.is_text in
      absurd (audit_finding_excludes_bad_text no_fault settings rules.dealing file bytes is.text fault has is.is_text)
  audit_finding_is_text_fault never_both one_fault no_fault settings DiskFault file bytes fault is_file capture is_text has ends =
      absurd ends.3
  audit_finding_is_text_fault never_both one_fault no_fault settings NotFormatted file bytes fault is_file capture is_text has ends =
      absurd ends.0
  audit_finding_is_text_fault never_both one_fault no_fault settings (Damaged slot) file bytes fault is_file capture is_text has ends =
      absurd ends.0
  audit_finding_is_text_fault never_both one_fault no_fault settings (OtherSettings stored asked) file bytes fault is_file capture is_text has ends =
      absurd ends.0
  audit_finding_is_text_fault never_both one_fault no_fault settings (OtherCapture stored asked) file bytes fault is_file capture is_text has ends =
      absurd ends.0
  audit_finding_is_text_fault never_both one_fault no_fault settings (AuditNo report verdict) file bytes fault is_file capture is_text has ends =
      let is =
      audit_finding_of_known_inputs settings given file bytes (λ f t. IsUnsoundAudit settings rules.dealing f t report verdict) is_file is_text ends.1.0 in
      absurd (no_fault settings.grain bytes is.session fault is.audited.is_session is.audited.not_long has)
  audit_finding_is_text_fault never_both one_fault no_fault settings (BadReport wrong) file bytes fault is_file capture is_text has ends =
      inl (ap BadReport (one_fault settings.grain bytes wrong fault
      (status_of_known_file given.text bytes (λ t. HasSessionFault settings.grain t wrong) is_text ends.0.refused.first_fault) has))
  audit_finding_is_text_fault never_both one_fault no_fault settings OutOfMemory file bytes fault is_file capture is_text has ends =
      inr (inr refl)

  -- a session whose first report that is not sound is known, however the records are dealt, is found so, unless a source or
  -- the sink fails or memory runs out
  pub audit_finding_is_first_unsound : CaptureStatusIsFaultless → SessionStatusIsFaultless → AuditFindingIsUnique
      → (settings : Settings) (status : Status) (file bytes : List ℕ) (known : Session)
      (report : ℕ) (verdict : Verdict)
      → given.capture ≡ Some file → IsCaptureFile settings.front file → given.text ≡ Some bytes → IsSessionText settings.grain bytes known
      → length bytes ≤ longest_session
      → ((lists : List (List RecordValue)) (session : Session) → AreAudited settings rules.dealing file bytes lists session
      → IsFirstUnsound settings lists session.reports report verdict)
      → Ended (Audit settings) status
      → (status ≡ AuditNo report verdict) ⊎ ((status ≡ ReadFault) ⊎ ((status ≡ WriteFault) ⊎ (status ≡ OutOfMemory)))
  audit_finding_is_first_unsound never_both no_fault one settings Done file bytes known report verdict is_file capture is_text is_session
      not_long first ends =
      let is =
      audit_finding_of_known_inputs settings given file bytes (λ f t. IsSoundAudit settings rules.dealing f t ends.1.text) is_file is_text ends.1.is_text in
      absurd (one.never_both settings is.lists is.session.reports report verdict (first is.lists is.session is.audited) is.sound)
  audit_finding_is_first_unsound never_both no_fault one settings (BadWords kind) file bytes known report verdict is_file capture is_text is_session
      not_long first ends =
      absurd ends
  audit_finding_is_first_unsound never_both no_fault one settings (BadCapture other) file bytes known report verdict is_file capture is_text is_session
      not_long first ends =
      absurd (never_both settings.front file capture other
      (status_of_known_file given.capture file (λ f. IsRefusedFile settings.front f other) is_file ends.0))
  audit_finding_is_first_unsound never_both no_fault one settings ReadFault file bytes known report verdict is_file capture is_text is_session
      not_long first ends =
      inr (inl refl)
  audit_finding_is_first_unsound never_both no_fault one settings WriteFault file bytes known report verdict is_file capture is_text is_session
      not_long first ends =
      inr (inr (inl refl))
  audit_finding_is_first_unsound never_both no_fault one settings DiskFault file bytes known report verdict is_file capture is_text is_session
      not_long first ends =
      absurd ends.3
  audit_finding_is_first_unsound never_both no_fault one settings NotFormatted file bytes known report verdict is_file capture is_text is_session
      not_long first ends =
      absurd ends.0
  audit_finding_is_first_unsound never_both no_fault one settings (Damaged slot) file bytes known report verdict is_file capture is_text is_session
      not_long first ends =
      absurd ends.0
  audit_finding_is_first_unsound never_both no_fault one settings (OtherSettings stored asked)
      file bytes known report verdict is_file capture is_text is_session not_long first ends =
      absurd ends.0
  audit_finding_is_first_unsound never_both no_fault one settings (OtherCapture stored asked)
      file bytes known report verdict is_file capture is_text is_session not_long first ends =
      absurd ends.0
  audit_finding_is_first_unsound never_both no_fault one settings (AuditNo other_report other)
      file bytes known report verdict is_file capture is_text is_session not_long first ends =
      let is =
      audit_finding_of_known_inputs settings given file bytes (λ f t. IsUnsoundAudit settings rules.dealing f t other_report other) is_file is_text ends.1.0 in
      let same = one.one_first settings is.lists is.session.reports report other_report verdict other
      (first is.lists is.session is.audited) is.first in
      inl (ap₂ AuditNo same.0 same.1)
  audit_finding_is_first_unsound never_both no_fault one settings (BadReport wrong) file bytes known report verdict is_file capture is_text is_session
      not_long first ends =
      absurd (no_fault settings.grain bytes known wrong is_session not_long
      (status_of_known_file given.text bytes (λ t. HasSessionFault settings.grain t wrong) is_text ends.0.refused.first_fault))
  audit_finding_is_first_unsound never_both no_fault one settings OutOfMemory file bytes known report verdict is_file capture is_text is_session
      not_long first ends =
      inr (inr (inr refl))

  -- what an audit that ended so found
  audit_finding_for_command : (words : List (List ℕ)) (command : Command) (report : ℕ) (verdict : Verdict)
      → AskForCommand words command → WereRead command given
      → SessionFinds command rules.dealing given (k.taken old.sink) (k.taken new.sink) (AuditNo report verdict)
      → FindsUnsound s t k d old new words rules report verdict
  audit_finding_for_command words (Weigh prefix settings) report verdict asked read finds = absurd finds
  audit_finding_for_command words (ToReport settings) report verdict asked read finds = absurd finds
  audit_finding_for_command words (Format settings) report verdict asked read finds = absurd finds
  audit_finding_for_command words (Watch rule grain) report verdict asked read finds = absurd finds
  audit_finding_for_command words (Make seed frames) report verdict asked read finds = absurd finds
  audit_finding_for_command words (Demo seed frames settings) report verdict asked read finds = absurd finds
  audit_finding_for_command words (Audit settings) report verdict asked read finds = record {
    settings = settings;
    asked = asked;
    read_to_end = read;
    found = finds.0;
    written = finds.1;
  }

  pub audit_finding_by_status : (words : List (List ℕ)) (command : Command) (status : Status) (report : ℕ) (verdict : Verdict)
      → AskForCommand words command → status ≡ AuditNo report verdict → Ended command status
      → FindsUnsound s t k d old new words rules report verdict
  audit_finding_by_status words command status report verdict asked is ends =
      let now = subst (Ended command) is ends in
      audit_finding_for_command words command report verdict asked now.0 now.1

  -- a watch of a text with a fault is refused for it, unless a source fails or memory runs out
  pub watch_finding_is_text_fault : AuditFindingHasOneFault → SessionStatusIsFaultless
      → (rule : Rule) (grain : Grain) (status : Status) (bytes : List ℕ) (fault : TextFault)
      → ((other : CaptureFault) → status ≡ BadCapture other → ⊥)
      → given.text ≡ Some bytes → HasSessionFault grain bytes fault → Ended (Watch rule grain) status
      → (status ≡ BadReport fault) ⊎ ((status ≡ ReadFault) ⊎ (status ≡ OutOfMemory))
  watch_finding_is_text_fault one_fault no_fault rule grain Done bytes fault reads is_text has ends =
      let is = status_of_known_file given.text bytes (λ t. IsWatchOf rules.judging rule grain t ends.1.text) is_text ends.1.is_text in
      absurd (no_fault grain bytes is.session fault is.is_session is.not_long has)
  watch_finding_is_text_fault one_fault no_fault rule grain (BadWords kind) bytes fault reads is_text has ends = absurd ends
  watch_finding_is_text_fault one_fault no_fault rule grain (BadCapture other) bytes fault reads is_text has ends =
      absurd (reads other refl)
  watch_finding_is_text_fault one_fault no_fault rule grain ReadFault bytes fault reads is_text has ends = inr (inl refl)
  watch_finding_is_text_fault one_fault no_fault rule grain WriteFault bytes fault reads is_text has ends =
      let is =
      status_of_known_file given.text bytes (λ t. IsUnfinished (IsWatchOf rules.judging rule grain t) ends.1.text) is_text ends.1.is_text in
      absurd (no_fault grain bytes is.is_text.session fault is.is_text.is_session is.is_text.not_long has)
  watch_finding_is_text_fault one_fault no_fault rule grain DiskFault bytes fault reads is_text has ends = absurd ends.3
  watch_finding_is_text_fault one_fault no_fault rule grain NotFormatted bytes fault reads is_text has ends = absurd ends.0
  watch_finding_is_text_fault one_fault no_fault rule grain (Damaged slot) bytes fault reads is_text has ends = absurd ends.0
  watch_finding_is_text_fault one_fault no_fault rule grain (OtherSettings stored asked) bytes fault reads is_text has ends =
      absurd ends.0
  watch_finding_is_text_fault one_fault no_fault rule grain (OtherCapture stored asked) bytes fault reads is_text has ends =
      absurd ends.0
  watch_finding_is_text_fault one_fault no_fault rule grain (AuditNo report verdict) bytes fault reads is_text has ends =
      absurd ends.1
  watch_finding_is_text_fault one_fault no_fault rule grain (BadReport wrong) bytes fault reads is_text has ends =
      inl (ap BadReport (one_fault grain bytes wrong fault
      (status_of_known_file given.text bytes (λ t. HasSessionFault grain t wrong) is_text ends.0.first_fault) has))
  watch_finding_is_text_fault one_fault no_fault rule grain OutOfMemory bytes fault reads is_text has ends = inr (inr refl)

  -- the text of a session that was refused
  session_finding_is_refusal : (command : Command) (fault : TextFault)
      → SessionFinds command rules.dealing given (k.taken old.sink) (k.taken new.sink) (BadReport fault)
      → SessionRefused command given fault
  session_finding_is_refusal (Weigh prefix settings) fault finds = finds
  session_finding_is_refusal (ToReport settings) fault finds = finds
  session_finding_is_refusal (Format settings) fault finds = finds
  session_finding_is_refusal (Audit settings) fault finds = finds
  session_finding_is_refusal (Watch rule grain) fault finds = finds
  session_finding_is_refusal (Make seed frames) fault finds = finds
  session_finding_is_refusal (Demo seed frames settings) fault finds = finds

  pub session_finding_refuses_by_status : (words : List (List ℕ)) (command : Command) (status : Status) (fault : TextFault)
      → AskForCommand words command → status ≡ BadReport fault → Ended command status
      → RefusesText s t k d old new words fault
  session_finding_refuses_by_status words command status fault asked is ends =
      let now = subst (Ended command) is ends in record {
        command = command;
        asked = asked;
        refusal = session_finding_is_refusal command fault now.0;
        nothing = record { unwritten = now.1; untouched = now.2 };
      }
