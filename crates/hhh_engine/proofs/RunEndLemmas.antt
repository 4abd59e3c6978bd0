-- How a run ends: by the fault of its arguments, or as its command did.
use Rattle.std.proofs.Common.{◌≡◌, ◌⊎◌, ℕ, List, [], Ok, Err, inl, inr, ⊎_elim, refl, sym, ap, subst}
use Rattle.std.proofs.KnownBytes.{Consumes-nil}
use Rattle.std.specs.declared.result.Result.{Result}
use Rattle.outside_io.specs.declared.source.Source.{Ghosts as SourceOf}
use Rattle.outside_io.specs.declared.sink.Sink.{Ghosts as SinkOf}
use Rattle.slot_disk.specs.declared.disk.Disk.{Ghosts as DiskOf}
use Rattle.recovery.specs.{BelongingOpen, AreDecided}
use Rattle.command_words.specs.{AskForCommand, HasWordsFault, IsLimitedCommand}
use Rattle.command_words.specs.declared.command.Command.{Command}
use Rattle.command_words.specs.declared.command.Command.TheVariants.{Weigh, Report, Format, Audit, Watch, Make, Demo}
use Rattle.command_words.specs.declared.settings.Settings.{Settings}
use Rattle.command_words.specs.declared.words_kind.WordsKind.{WordsKind}
use Rattle.command_words.specs.declared.words_kind.WordsRefusal.{WordsRefusal}
use Rattle.command_words.specs.declared.words_kind.WordsRefusal.TheVariants as words
use Rattle.hhh_engine.specs.Commands.{AnswersCommand, CommandEnds}
use Rattle.hhh_engine.specs.Ending.{EndsAsBefore, FormatEnds}
use Rattle.frame_records.specs.{IsRefusedFile}
use Rattle.hhh_engine.specs.Inputs.{UsesCapture, UsesSession, UsesStore, takes_front}
use Rattle.hhh_engine.specs.TopCall.{RunEnds, Streams, faults_after, faults_before}
use Rattle.report_session.specs.{IsAsBefore, settings_of_store, IsAsBefore-untouched}
use Rattle.hhh_engine.specs.Rules.{RunRules}
use Rattle.run_status.specs.{status_of_words}
use Rattle.run_status.specs.declared.status.Status.{Status}
use Rattle.run_status.specs.declared.status.Status.TheVariants.{Done, BadWords, BadCapture, ReadFault, WriteFault}
use Rattle.run_status.specs.declared.status.Status.TheVariants.{DiskFault, NotFormatted, Damaged, OtherSettings}
use Rattle.run_status.specs.declared.status.Status.TheVariants.{OtherCapture, AuditNo, BadReport, OutOfMemory}
use Rattle.hhh_engine.proofs.AuditFindingLemmas.{AuditFindingHasOneFault, AuditFindingIsUnique}
use Rattle.hhh_engine.proofs.AuditFindingLemmas.{audit_finding_by_status, audit_finding_is_first_unsound}
use Rattle.hhh_engine.proofs.AuditFindingLemmas.{audit_finding_is_text_fault, session_finding_refuses_by_status, watch_finding_is_text_fault}
use Rattle.hhh_engine.proofs.ReadOrderLemmas.{read_order_at_failed_disk, read_order_at_read_failure}
use Rattle.hhh_engine.proofs.ReadOrderLemmas.{read_order_at_refused_capture}
use Rattle.hhh_engine.proofs.SoundSessionLemmas.{sound_session_is_found}
use Rattle.hhh_engine.proofs.StatusLemmas.{CaptureStatusIsFaultless, FaultStatusIsUnique, SessionStatusIsFaultless}
use Rattle.hhh_engine.proofs.StatusLemmas.{argument_status_is_no_refusal, status_is_store_refusal}
use Rattle.hhh_engine.proofs.StatusLemmas.{status_names_refusal, status_of_asked_command, status_of_refused_capture}

-- what is known of the files, the stores and the texts that a run may read
pub record RunLaws : Type 0 where
  pub never_both : CaptureStatusIsFaultless
  pub one_fault : FaultStatusIsUnique
  pub decided : AreDecided
  pub opened : BelongingOpen
  pub one_text_fault : AuditFindingHasOneFault
  pub no_text_fault : SessionStatusIsFaultless
  pub one_verdict : AuditFindingIsUnique

-- what is possible of a disk now is so of the disk since this moment
abbrev pub RunDiskIsNow : {D : Type 0} → DiskOf D → Type 0
RunDiskIsNow {D = D} d = (disk : D) (image : List ℕ) → d.image_since disk (d.moment disk) image → d.image_now disk image

-- ---- arguments that were refused

module _ {S T K D : Type 0} (s : SourceOf S) (t : SourceOf T) (k : SinkOf K) (d : DiskOf D) (old : Streams S T K D)
    (rules : RunRules) (arguments : List (List ℕ)) where
  -- for a fault
  run_refuses_words : (kind : WordsKind) → HasWordsFault arguments kind
      → ((command : Command) → AskForCommand arguments command → ⊥)
      → ((other : WordsKind) → HasWordsFault arguments other → kind ≡ other)
      → RunEnds s t k d old old arguments rules (BadWords kind)
  run_refuses_words kind has none one = record {
    done = λ is. cc is;
    bad_words = λ other is. record {
      first_fault = subst (HasWordsFault arguments) (let same : kind ≡ other = cc is in same) has;
      nothing = refl;
    };
    refuses_words = λ other has_other. inl (ap BadWords (one other has_other));
    bad_capture = λ fault is. cc is;
    refuses_capture = λ file fault asks known refused. absurd (none asks.command asks.asked);
    bad_store = λ fault shown is. argument_status_is_no_refusal (words.Bad kind) (BadWords kind) fault shown refl is;
    refuses_store = λ settings file image fault asks used known capture is_store shown refused. absurd (none (Report settings) asks);
    bad_text = λ fault is. cc is;
    refuses_text = λ settings file bytes fault asks is_file capture is_text refused. absurd (none (Audit settings) asks);
    refuses_watched = λ rule grain bytes fault asks is_text refused. absurd (none (Watch rule grain) asks);
    audit_no = λ report verdict is. cc is;
    finds_unsound = λ settings file bytes known report verdict asks is_file capture is_text is_session not_long first.
        absurd (none (Audit settings) asks);
    finds_sound = λ settings file bytes known asks is_file capture is_text is_session not_long sound.
        absurd (none (Audit settings) asks);
    read_fault = λ is. cc is;
    read_fault_reported = λ other. refl;
    write_fault = λ is. cc is;
    write_fault_reported = λ other. refl;
    disk_fault = λ is. cc is;
    disk_fault_reported = λ other. refl;
    formats = λ settings asks. absurd (none (Format settings) asks);
    unused_capture = λ avoids. refl;
    unused_text = λ avoids. refl;
    unused_disk = λ avoids. refl;
    capture_front = ([], Consumes-nil (s.left old.capture));
    text_front = ([], Consumes-nil (t.left old.text));
    out_of_memory = λ is. cc is;
    complete = λ command asks can no_capture no_text no_sink no_disk. absurd (none command asks);
  }

  -- for want of memory
  run_lacks_memory_for_words : RunDiskIsNow d → RunEnds s t k d old old arguments rules OutOfMemory
  run_lacks_memory_for_words only_now = record {
    done = λ is. cc is;
    bad_words = λ kind is. cc is;
    refuses_words = λ kind has. inr (refl, refl);
    bad_capture = λ fault is. cc is;
    refuses_capture = λ file fault asks known refused. inr (inr refl);
    bad_store = λ fault shown is. argument_status_is_no_refusal words.OutOfMemory OutOfMemory fault shown refl is;
    refuses_store = λ settings file image fault asks used known capture is_store shown refused. inr (inr (inr refl));
    bad_text = λ fault is. cc is;
    refuses_text = λ settings file bytes fault asks is_file capture is_text refused. inr (inr refl);
    refuses_watched = λ rule grain bytes fault asks is_text refused. inr (inr refl);
    audit_no = λ report verdict is. cc is;
    finds_unsound = λ settings file bytes known report verdict asks is_file capture is_text is_session not_long first.
        inr (inr (inr refl));
    finds_sound = λ settings file bytes known asks is_file capture is_text is_session not_long sound. inr (inr (inr refl));
    read_fault = λ is. cc is;
    read_fault_reported = λ other. refl;
    write_fault = λ is. cc is;
    write_fault_reported = λ other. refl;
    disk_fault = λ is. cc is;
    disk_fault_reported = λ other. refl;
    formats = λ settings asks. (refl, refl);
    unused_capture = λ avoids. refl;
    unused_text = λ avoids. refl;
    unused_disk = λ avoids. refl;
    capture_front = ([], Consumes-nil (s.left old.capture));
    text_front = ([], Consumes-nil (t.left old.text));
    out_of_memory = λ is. inl (refl, IsAsBefore-untouched d old.disk old.disk only_now refl);
    complete = λ command asks can no_capture no_text no_sink no_disk. inr refl;
  }

  -- for either
  pub run_ends_by_refusal : RunDiskIsNow d → (result : Result Command WordsRefusal) (refusal : WordsRefusal) (status : Status)
      → result ≡ Err refusal → status ≡ status_of_words refusal
      → ((kind : WordsKind) → result ≡ Err (words.Bad kind) → HasWordsFault arguments kind)
      → ((command : Command) → AskForCommand arguments command → (result ≡ Ok command) ⊎ (result ≡ Err words.OutOfMemory))
      → ((kind : WordsKind) → HasWordsFault arguments kind → (result ≡ Err (words.Bad kind)) ⊎ (result ≡ Err words.OutOfMemory))
      → RunEnds s t k d old old arguments rules status
  run_ends_by_refusal only_now result (words.Bad kind) status was is bad complete exact =
      subst (RunEnds s t k d old old arguments rules) (sym is)
      (run_refuses_words kind (bad kind was)
      (λ command asks. ⊎_elim (λ read. cc (read, was)) (λ memory. cc (memory, was)) (complete command asks))
      (λ other has.
      ⊎_elim (λ found. let one : kind ≡ other = cc (found, was) in one) (λ memory. cc (memory, was)) (exact other has)))
  run_ends_by_refusal only_now result words.OutOfMemory status was is bad complete exact =
      subst (RunEnds s t k d old old arguments rules) (sym is) (run_lacks_memory_for_words only_now)

-- ---- a command that was answered

module _ {S T K D : Type 0} (s : SourceOf S) (t : SourceOf T) (k : SinkOf K) (d : DiskOf D) (old new : Streams S T K D)
    (rules : RunRules) where
  -- a fault of a source, or of the sink, is never ignored
  run_reports_read_fault : (command : Command) (status : Status) → (status ≡ ReadFault → ⊥)
      → CommandEnds s t k d old new rules command status → faults_after s t k d old new ≡ faults_before s t k d old new
  run_reports_read_fault command Done none ends = ends.2
  run_reports_read_fault command (BadWords kind) none ends = absurd ends
  run_reports_read_fault command (BadCapture fault) none ends = ends.3
  run_reports_read_fault command ReadFault none ends = absurd (none refl)
  run_reports_read_fault command WriteFault none ends = ends.3
  run_reports_read_fault command DiskFault none ends = ends.4
  run_reports_read_fault command NotFormatted none ends = ends.3
  run_reports_read_fault command (Damaged slot) none ends = ends.3
  run_reports_read_fault command (OtherSettings stored asked) none ends = ends.3
  run_reports_read_fault command (OtherCapture stored asked) none ends = ends.3
  run_reports_read_fault command (AuditNo report verdict) none ends = ends.2
  run_reports_read_fault command (BadReport fault) none ends = ends.3
  run_reports_read_fault command OutOfMemory none ends = ends.1

  run_reports_write_fault : (command : Command) (status : Status) → (status ≡ WriteFault → ⊥)
      → CommandEnds s t k d old new rules command status → k.faults new.sink ≡ k.faults old.sink
  run_reports_write_fault command Done none ends = ends.3
  run_reports_write_fault command (BadWords kind) none ends = absurd ends
  run_reports_write_fault command (BadCapture fault) none ends = ends.4
  run_reports_write_fault command ReadFault none ends = ends.3
  run_reports_write_fault command WriteFault none ends = absurd (none refl)
  run_reports_write_fault command DiskFault none ends = ends.5
  run_reports_write_fault command NotFormatted none ends = ends.4
  run_reports_write_fault command (Damaged slot) none ends = ends.4
  run_reports_write_fault command (OtherSettings stored asked) none ends = ends.4
  run_reports_write_fault command (OtherCapture stored asked) none ends = ends.4
  run_reports_write_fault command (AuditNo report verdict) none ends = ends.3
  run_reports_write_fault command (BadReport fault) none ends = ends.4
  run_reports_write_fault command OutOfMemory none ends = ends.2

  -- where nothing was written for want of memory, the disk is as before, also if the command is `format`
  run_is_as_before : RunDiskIsNow d → (command : Command) → EndsAsBefore command (IsAsBefore d old.disk new.disk)
      → ((settings : Settings) → command ≡ Format settings
      → FormatEnds d (settings_of_store settings) old.sink new.sink old.disk new.disk OutOfMemory)
      → IsAsBefore d old.disk new.disk
  run_is_as_before only_now (Weigh prefix settings) as_before formats = as_before
  run_is_as_before only_now (Report settings) as_before formats = as_before
  run_is_as_before only_now (Format settings) as_before formats =
      IsAsBefore-untouched d old.disk new.disk only_now (formats settings refl).1
  run_is_as_before only_now (Audit settings) as_before formats = as_before
  run_is_as_before only_now (Watch rule grain) as_before formats = as_before
  run_is_as_before only_now (Make seed frames) as_before formats = as_before
  run_is_as_before only_now (Demo seed frames settings) as_before formats = as_before

  -- the run ends as its command
  pub run_ends_by_command : RunLaws → RunDiskIsNow d → (arguments : List (List ℕ)) (result : Result Command WordsRefusal)
      (command : Command) (status : Status) → result ≡ Ok command → AskForCommand arguments command
      → ((other : Command) → AskForCommand arguments other → (result ≡ Ok other) ⊎ (result ≡ Err words.OutOfMemory))
      → ((kind : WordsKind) → HasWordsFault arguments kind → (result ≡ Err (words.Bad kind)) ⊎ (result ≡ Err words.OutOfMemory))
      → IsLimitedCommand command → AnswersCommand s t k d old new rules command status
      → RunEnds s t k d old new arguments rules status
  run_ends_by_command laws only_now arguments result command status read asked complete exact limited answers =
      let same : (other : Command) → AskForCommand arguments other → command ≡ other = λ other asks.
      ⊎_elim (λ is. let one : command ≡ other = cc (is, read) in one) (λ memory. cc (memory, read)) (complete other asks) in
      let Ended = CommandEnds s t k d old new rules in
      let ends : Ended command status = answers.ends in
      record {
        done = λ is.
            let ended = subst (Ended command) is ends in
            record { command = command; asked = asked; read_to_end = ended.0; answer = ended.1 };
        bad_words = λ kind is. let ended = subst (Ended command) is ends in absurd ended;
        refuses_words = λ kind has. ⊎_elim (λ is. cc (is, read)) (λ memory. cc (memory, read)) (exact kind has);
        bad_capture = λ fault is.
            read_order_at_refused_capture s t k d old new rules arguments command status fault asked is answers.order ends;
        refuses_capture = λ file fault asks known has.
            let one = same asks.command asks.asked in
            status_of_refused_capture s t k d old new rules laws.never_both laws.one_fault command status file fault
            (subst UsesCapture (sym one) asks.uses) known
            (subst (λ c. IsRefusedFile (takes_front c) file fault) (sym one) has) ends;
        bad_store = λ fault shown is. status_names_refusal s t k d old new rules arguments command status fault asked shown is ends;
        refuses_store = λ settings file image fault asks used known capture is_store shown refused.
            status_is_store_refusal s t k d old new rules laws.never_both laws.decided settings status file image fault
            (subst IsLimitedCommand (same (Report settings) asks) limited).0 used known capture is_store shown refused
            (subst (λ c. Ended c status) (same (Report settings) asks) ends);
        bad_text = λ fault is. session_finding_refuses_by_status s t k d old new rules arguments command status fault asked is ends;
        refuses_text = λ settings file bytes fault asks is_file capture is_text has.
            audit_finding_is_text_fault s t k d old new rules laws.never_both laws.one_text_fault laws.no_text_fault settings status file
            bytes fault is_file capture is_text has (subst (λ c. Ended c status) (same (Audit settings) asks) ends);
        refuses_watched = λ rule grain bytes fault asks is_text has.
            let one = same (Watch rule grain) asks in
            watch_finding_is_text_fault s t k d old new rules laws.one_text_fault laws.no_text_fault rule grain status bytes fault
            (λ other is. absurd (subst UsesCapture one (answers.reads other is))) is_text has
            (subst (λ c. Ended c status) one ends);
        audit_no = λ report verdict is.
            audit_finding_by_status s t k d old new rules arguments command status report verdict asked is ends;
        finds_unsound = λ settings file bytes known report verdict asks is_file capture is_text is_session not_long first.
            audit_finding_is_first_unsound s t k d old new rules laws.never_both laws.no_text_fault laws.one_verdict settings status file
            bytes known report verdict is_file capture is_text is_session not_long first
            (subst (λ c. Ended c status) (same (Audit settings) asks) ends);
        finds_sound = λ settings file bytes known asks is_file capture is_text is_session not_long sound.
            sound_session_is_found s t k d old new rules laws.never_both laws.no_text_fault laws.one_verdict settings status file bytes
            known is_file capture is_text is_session not_long sound
            (subst (λ c. Ended c status) (same (Audit settings) asks) ends);
        read_fault = λ is. read_order_at_read_failure s t k d old new rules arguments command status asked same is answers.order ends;
        read_fault_reported = λ none. run_reports_read_fault command status none ends;
        write_fault = λ is.
            let ended = subst (Ended command) is ends in
            record {
              rose = ended.2;
              in_part = record { command = command; asked = asked; read_to_end = ended.0; answer = ended.1 };
            };
        write_fault_reported = λ none. run_reports_write_fault command status none ends;
        disk_fault = λ is. read_order_at_failed_disk s t k d old new rules arguments command status asked is ends;
        disk_fault_reported = answers.told;
        formats = λ settings asks. answers.formats settings (same (Format settings) asks);
        unused_capture = λ avoids.
            answers.unread (subst (λ c. UsesCapture c → ⊥) (sym (same avoids.command avoids.asked)) avoids.unused);
        unused_text = λ avoids.
            answers.text_unread (subst (λ c. UsesSession c → ⊥) (sym (same avoids.command avoids.asked)) avoids.unused);
        unused_disk = λ avoids.
            answers.unused (subst (λ c. UsesStore c → ⊥) (sym (same avoids.command avoids.asked)) avoids.unused);
        capture_front = answers.fronts.0;
        text_front = answers.fronts.1;
        out_of_memory = λ is.
            let ended = subst (Ended command) is ends in
            ⊎_elim
            (λ (nothing : (new.sink ≡ old.sink) × EndsAsBefore command (IsAsBefore d old.disk new.disk)).
            inl (
              nothing.0,
              run_is_as_before only_now command nothing.1 (λ settings formatted.
                  subst (FormatEnds d (settings_of_store settings) old.sink new.sink old.disk new.disk) is
                  (answers.formats settings formatted)),
            ))
            (λ part. inr (record { command = command; asked = asked; read_to_end = part.0; answer = part.1 })) ended.0;
        complete = λ other asks can no_capture no_text no_sink no_disk.
            status_of_asked_command s t k d old new rules laws.never_both laws.decided laws.opened laws.no_text_fault other command status
            (same other asks) limited can (λ rose. ⊎_elim no_capture no_text rose) no_sink no_disk answers.reads ends;
      }
