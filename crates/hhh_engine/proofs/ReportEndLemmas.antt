-- What each status of a run of `report` says of what it wrote, and of its disk.
use Rattle.std.proofs.Common.{◌≡◌, ◌⊎◌, inl, inr, ⊎_elim, ℕ, true, false, List, refl, ap, subst}
use Rattle.outside_io.specs.declared.source.Source.{Ghosts as SourceOf}
use Rattle.outside_io.specs.declared.sink.Sink.{Ghosts as SinkOf}
use Rattle.slot_disk.specs.declared.disk.Disk.{Ghosts as DiskOf}
use Rattle.recovery.specs.declared.fault.OpenFault.TheVariants as opening
use Rattle.command_words.specs.{AskForCommand}
use Rattle.command_words.specs.declared.command.Command.{Command}
use Rattle.command_words.specs.declared.command.Command.TheVariants.{Report, Audit}
use Rattle.command_words.specs.declared.settings.Settings.{Settings}
use Rattle.hhh_engine.specs.Rules.{RunRules}
use Rattle.report_session.specs.{IsAsBefore, IsAsBefore-untouched, WritesAnswer}
use Rattle.hhh_engine.specs.Answer.{IsAnswer, IsAnswerInPart}
use Rattle.hhh_engine.specs.Ending.{EndsAsBefore}
use Rattle.hhh_engine.specs.StorePromise.{is_done}
use Rattle.hhh_engine.specs.TopCall.{RunEnds, Streams, WritesNothing, WritesPart, WritesText, run_inputs, run_keeping}
use Rattle.run_status.specs.declared.status.Status.{Status}
use Rattle.run_status.specs.declared.status.Status.TheVariants.{Done, BadWords, BadCapture, ReadFault, WriteFault}
use Rattle.run_status.specs.declared.status.Status.TheVariants.{DiskFault, NotFormatted, Damaged, OtherSettings}
use Rattle.run_status.specs.declared.status.Status.TheVariants.{OtherCapture, AuditNo, BadReport, OutOfMemory}

-- arguments ask for one command at most
abbrev pub OneReportCommand : Type 0
OneReportCommand =
    (words : List (List ℕ)) (asked other : Command) → AskForCommand words asked → AskForCommand words other → asked ≡ other

-- a run of `report` with these settings
module _ {S T K D : Type 0} (s : SourceOf S) (t : SourceOf T) (k : SinkOf K) (d : DiskOf D) (old new : Streams S T K D)
    (rules : RunRules) (settings : Settings) where
  -- its whole session was written
  abbrev pub WritesSession : Type 0
  WritesSession =
      WritesAnswer (IsAnswer rules (run_keeping s t k d old new) (Report settings) (run_inputs s t k d old new))
      (k.taken old.sink) (k.taken new.sink)

  -- a part of it was
  abbrev pub WritesSessionPart : Type 0
  WritesSessionPart =
      WritesAnswer (IsAnswerInPart rules (run_keeping s t k d old new) (Report settings) (run_inputs s t k d old new))
      (k.taken old.sink) (k.taken new.sink)

  -- at Done the first; else nothing was written, and the disk is as before, or a part of the session was
  abbrev pub ReportWrites : Status → Type 0
  ReportWrites status =
      ((is_done status ≡ true) × WritesSession)
      ⊎ ((is_done status ≡ false) × (WritesNothing s t k d old new ⊎ WritesSessionPart))

  -- for the arguments `words`, which ask for it
  module _ (words : List (List ℕ)) (one : OneReportCommand) (asked : AskForCommand words (Report settings))
      (only_now : (disk : D) (image : List ℕ) → d.image_since disk (d.moment disk) image → d.image_now disk image) where
    report_end_untouched : (status : Status) → is_done status ≡ false → new.sink ≡ old.sink → new.disk ≡ old.disk
        → ReportWrites status
    report_end_untouched status failed unwritten untouched =
        inr (failed, inl (unwritten, IsAsBefore-untouched d old.disk new.disk only_now untouched))

    report_end_in_part : (status : Status) → is_done status ≡ false → WritesPart s t k d old new words rules
        → ReportWrites status
    report_end_in_part status failed part =
        let same : part.command ≡ Report settings = one words part.command (Report settings) part.asked asked in
        inr (
          failed,
          inr (subst
              (λ command. WritesAnswer (IsAnswerInPart rules (run_keeping s t k d old new) command (run_inputs s t k d old new))
              (k.taken old.sink) (k.taken new.sink)) same part.answer),
        )

    report_end_done : WritesText s t k d old new words rules → ReportWrites Done
    report_end_done text =
        let same : text.command ≡ Report settings = one words text.command (Report settings) text.asked asked in
        inl (
          refl,
          subst
              (λ command. WritesAnswer (IsAnswer rules (run_keeping s t k d old new) command (run_inputs s t k d old new))
              (k.taken old.sink) (k.taken new.sink)) same text.answer,
        )

    -- so it is for every status
    pub report_end_by_status : (status : Status) → RunEnds s t k d old new words rules status → ReportWrites status
    report_end_by_status Done ends = report_end_done (ends.done refl)
    report_end_by_status (BadWords kind) ends =
        let same = (ends.bad_words kind refl).nothing in
        report_end_untouched (BadWords kind) refl (ap (λ (streams : Streams S T K D). streams.sink) same)
        (ap (λ (streams : Streams S T K D). streams.disk) same)
    report_end_by_status (BadCapture fault) ends =
        let nothing = (ends.bad_capture fault refl).nothing in
        report_end_untouched (BadCapture fault) refl nothing.unwritten nothing.untouched
    report_end_by_status ReadFault ends =
        let nothing = (ends.read_fault refl).nothing in
        report_end_untouched ReadFault refl nothing.unwritten nothing.untouched
    report_end_by_status WriteFault ends = report_end_in_part WriteFault refl (ends.write_fault refl).in_part
    report_end_by_status DiskFault ends =
        let failed = ends.disk_fault refl in
        let same : failed.command ≡ Report settings = one words failed.command (Report settings) failed.asked asked in
        ⊎_elim
        (λ nothing. inr (refl, inl (nothing.0, subst (λ command. EndsAsBefore command (IsAsBefore d old.disk new.disk)) same nothing.1)))
        (λ part. report_end_in_part DiskFault refl part) failed.in_part
    report_end_by_status NotFormatted ends =
        inr (
          refl,
          inl (ends.bad_store opening.NotFormatted
              (record { not_of_disk = λ is. cc is; not_of_memory = λ is. cc is }) refl).nothing,
        )
    report_end_by_status (Damaged slot) ends =
        inr (
          refl,
          inl (ends.bad_store (opening.Damaged slot)
              (record { not_of_disk = λ is. cc is; not_of_memory = λ is. cc is }) refl).nothing,
        )
    report_end_by_status (OtherSettings stored other) ends =
        inr (
          refl,
          inl (ends.bad_store (opening.OtherSettings stored other)
              (record { not_of_disk = λ is. cc is; not_of_memory = λ is. cc is }) refl).nothing,
        )
    report_end_by_status (OtherCapture stored other) ends =
        inr (
          refl,
          inl (ends.bad_store (opening.OtherCapture stored other)
              (record { not_of_disk = λ is. cc is; not_of_memory = λ is. cc is }) refl).nothing,
        )
    report_end_by_status (AuditNo report verdict) ends =
        let found = ends.audit_no report verdict refl in
        let same : Audit found.settings ≡ Report settings =
        one words (Audit found.settings) (Report settings) found.asked asked in
        absurd (cc same)
    report_end_by_status (BadReport fault) ends =
        let nothing = (ends.bad_text fault refl).nothing in
        report_end_untouched (BadReport fault) refl nothing.unwritten nothing.untouched
    report_end_by_status OutOfMemory ends =
        ⊎_elim (λ nothing. inr (refl, inl nothing)) (λ part. report_end_in_part OutOfMemory refl part) (ends.out_of_memory refl)
