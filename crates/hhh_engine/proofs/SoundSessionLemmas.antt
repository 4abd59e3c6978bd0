-- How an audit of a session ends whose reports are all sound.
use Rattle.std.proofs.Common.{◌≡◌, ◌⊎◌, ◌≤◌, ℕ, List, length, All, Some, inl, inr, refl}
use Rattle.prefix_lattice.specs.{RecordValue}
use Rattle.frame_records.specs.{IsRefusedFile}
use Rattle.report_text.specs.{HasSessionFault, IsSessionText, longest_session}
use Rattle.report_text.specs.declared.session.Session.{Session}
use Rattle.command_words.specs.declared.command.Command.{Command}
use Rattle.command_words.specs.declared.command.Command.TheVariants.{Audit}
use Rattle.command_words.specs.declared.settings.Settings.{Settings}
use Rattle.session_audit.specs.{AreAudited, IsAuditedSound, IsUnsoundAudit}
use Rattle.hhh_engine.specs.Inputs.{InputBytes}
use Rattle.dealt_capture.specs.{IsCaptureFile}
use Rattle.hhh_engine.specs.Rules.{RunRules}
use Rattle.run_status.specs.declared.status.Status.{Status}
use Rattle.run_status.specs.declared.status.Status.TheVariants.{Done, BadWords, BadCapture, ReadFault, WriteFault}
use Rattle.run_status.specs.declared.status.Status.TheVariants.{DiskFault, NotFormatted, Damaged, OtherSettings}
use Rattle.run_status.specs.declared.status.Status.TheVariants.{OtherCapture, AuditNo, BadReport, OutOfMemory}
use Rattle.hhh_engine.proofs.AuditFindingLemmas.{AuditFindingIsUnique, audit_finding_of_known_inputs}
use Rattle.hhh_engine.proofs.StatusLemmas.{CaptureStatusIsFaultless, SessionStatusIsFaultless, status_of_known_file}
use Rattle.outside_io.specs.declared.source.Source.{Ghosts as SourceOf}
use Rattle.outside_io.specs.declared.sink.Sink.{Ghosts as SinkOf}
use Rattle.slot_disk.specs.declared.disk.Disk.{Ghosts as DiskOf}
use Rattle.hhh_engine.specs.Commands.{CommandEnds}
use Rattle.hhh_engine.specs.TopCall.{Streams, run_inputs}

-- a run, whose command ended so
module _ {S T K D : Type 0} (s : SourceOf S) (t : SourceOf T) (k : SinkOf K) (d : DiskOf D) (old new : Streams S T K D)
    (rules : RunRules) where
  -- its inputs, and how a command of it ends
  abbrev given : InputBytes
  given = run_inputs s t k d old new

  abbrev Ended : Command → Status → Type 0
  Ended = CommandEnds s t k d old new rules

  -- it is found so, however the records are dealt, unless a source or the sink fails or memory runs out
  pub sound_session_is_found : CaptureStatusIsFaultless → SessionStatusIsFaultless → AuditFindingIsUnique
      → (settings : Settings) (status : Status) (file bytes : List ℕ) (known : Session)
      → given.capture ≡ Some file → IsCaptureFile settings.front file → given.text ≡ Some bytes → IsSessionText settings.grain bytes known
      → length bytes ≤ longest_session
      → ((lists : List (List RecordValue)) (session : Session) → AreAudited settings rules.dealing file bytes lists session
      → All (IsAuditedSound settings lists) session.reports)
      → Ended (Audit settings) status
      → (status ≡ Done) ⊎ ((status ≡ ReadFault) ⊎ ((status ≡ WriteFault) ⊎ (status ≡ OutOfMemory)))
  sound_session_is_found never_both no_fault one settings Done file bytes known is_file capture is_text
      is_session not_long sound ends =
      inl refl
  sound_session_is_found never_both no_fault one settings (BadWords kind) file bytes known is_file capture is_text
      is_session not_long sound ends =
      absurd ends
  sound_session_is_found never_both no_fault one settings (BadCapture other) file bytes known is_file capture is_text
      is_session not_long sound ends =
      absurd
      (never_both settings.front file capture other
      (status_of_known_file given.capture file (λ f. IsRefusedFile settings.front f other) is_file ends.0))
  sound_session_is_found never_both no_fault one settings ReadFault file bytes known is_file capture is_text
      is_session not_long sound ends =
      inr (inl refl)
  sound_session_is_found never_both no_fault one settings WriteFault file bytes known is_file capture is_text
      is_session not_long sound ends =
      inr (inr (inl refl))
  sound_session_is_found never_both no_fault one settings DiskFault file bytes known is_file capture is_text
      is_session not_long sound ends =
      absurd ends.3
  sound_session_is_found never_both no_fault one settings NotFormatted file bytes known is_file capture is_text
      is_session not_long sound ends =
      absurd ends.0
  sound_session_is_found never_both no_fault one settings (Damaged slot) file bytes known is_file capture is_text
      is_session not_long sound ends =
      absurd ends.0
  sound_session_is_found never_both no_fault one settings (OtherSettings stored asked) file bytes known is_file capture
      is_text is_session not_long sound ends =
      absurd ends.0
  sound_session_is_found never_both no_fault one settings (OtherCapture stored asked) file bytes known is_file capture
      is_text is_session not_long sound ends =
      absurd ends.0
  sound_session_is_found never_both no_fault one settings (AuditNo report verdict) file bytes known is_file capture is_text
      is_session not_long sound ends =
      let is =
      audit_finding_of_known_inputs settings given file bytes (λ f t. IsUnsoundAudit settings rules.dealing f t report verdict) is_file is_text ends.1.0 in
      absurd (one.never_both settings is.lists is.session.reports report verdict is.first (sound is.lists is.session is.audited))
  sound_session_is_found never_both no_fault one settings (BadReport wrong) file bytes known is_file capture is_text
      is_session not_long sound ends =
      absurd
      (no_fault settings.grain bytes known wrong is_session not_long
      (status_of_known_file given.text bytes (λ t. HasSessionFault settings.grain t wrong) is_text ends.0.refused.first_fault))
  sound_session_is_found never_both no_fault one settings OutOfMemory file bytes known is_file capture is_text
      is_session not_long sound ends =
      inr (inr (inr refl))
