-- What a run promises: what each status says of the arguments, of what was read and written, and of the store's disk.
use Rattle.std.specs.Prelude.{ℕ, ◌≡◌, ◌⊎◌, ◌≤◌, true, List, length, All, Some, IfSome}
use Rattle.std.specs.Io.KnownBytes.{Appends, IsAtEnd}
use Rattle.outside_io.specs.{FaultRose, ReadsFront}
use Rattle.outside_io.specs.declared.source.Source.{Ghosts as SourceOf}
use Rattle.outside_io.specs.declared.sink.Sink.{Ghosts as SinkOf}
use Rattle.prefix_lattice.specs.{RecordValue}
use Rattle.pcap_frames.specs.declared.fault.CaptureFault.{CaptureFault}
use Rattle.frame_records.specs.{IsRefusedFile}
use Rattle.frame_records.specs.declared.records.Records.{Records}
use Rattle.slot_disk.specs.declared.disk.Disk.{Ghosts as DiskOf}
use Rattle.recovery.specs.{RefusesOpening, IsShownByBytes}
use Rattle.recovery.specs.declared.fault.OpenFault.{OpenFault}
use Rattle.report_text.specs.{HasSessionFault, IsSessionText, longest_session}
use Rattle.report_text.specs.declared.session.Session.{Session}
use Rattle.report_text.specs.declared.session_fault.TextFault.{TextFault}
use Rattle.exact_audit.specs.declared.verdict.Verdict.{Verdict}
use Rattle.command_words.specs.{AskForCommand, HasWordsFault}
use Rattle.command_words.specs.declared.command.Command.{Command}
use Rattle.command_words.specs.declared.command.Command.TheVariants as command
use Rattle.command_words.specs.declared.settings.Settings.{Settings}
use Rattle.command_words.specs.declared.words_kind.WordsKind.{WordsKind}
use Rattle.hhh_engine.specs.Answer.{Answers, AnswersInPart}
use Rattle.session_audit.specs.{AreAudited, IsFirstUnsound, IsAuditedSound, IsUnsoundAudit}
use Rattle.session_audit.specs.{unsound_audit}
use Rattle.hhh_engine.specs.Ending.{SourceFaults, Sources, EndsAnswered, EndsAsBefore, FailsAtSource, sources}
use Rattle.hhh_engine.specs.Ending.{FormatEnds, IsRefusedStore, SessionRefused, faults_of_source}
use Rattle.hhh_engine.specs.Inputs.{CommandAvoids, CommandUses, HoldsOfAudit, InputBytes}
use Rattle.hhh_engine.specs.Inputs.{CanBeAnswered, WereRead, MayUseStore, UsesCapture}
use Rattle.hhh_engine.specs.Inputs.{ReadsSession, UsesSession, UsesStore, inputs, takes_front}
use Rattle.report_session.specs.{IsAsBefore, AreKeptOnDisk, settings_of_store, SessionKeeping}
use Rattle.dealt_capture.specs.{AreDealtRecords, IsCaptureFile}
use Rattle.watch_rules.specs.declared.rule.Rule.{Rule}
use Rattle.prefix_lattice.specs.declared.grain.Grain.{Grain}
use Rattle.hhh_engine.specs.Rules.{RunRules}
use Rattle.run_status.specs.{status_of_opening}
use Rattle.run_status.specs.declared.status.Status.{Status}
use Rattle.run_status.specs.declared.status.Status.TheVariants.{Done, BadWords, BadCapture, ReadFault, WriteFault}
use Rattle.run_status.specs.declared.status.Status.TheVariants.{DiskFault, AuditNo, BadReport, OutOfMemory}

-- what a run is handed: a capture, the text of a session, the sink of its output, and the disk of a store
pub record Streams (S T K D : Type 0) : Type 0 where
  pub capture : S
  pub text : T
  pub sink : K
  pub disk : D

-- these four
abbrev pub streams : {S T K D : Type 0} → S → T → K → D → Streams S T K D
streams capture text sink disk = record { capture = capture; text = text; sink = sink; disk = disk }

-- A run whose streams were `old` when it began, and `new` when it ended. Of a source, `left` is the bytes that remain; of a
-- sink, `taken` is what it has taken; of a disk, `reads` is what it holds, and `image_now` and `image_since` say what a crash
-- may leave of it, now or at any time since some moment. What isn't known is None. `faults` counts the calls that failed.
module _ {S T K D : Type 0} (s : SourceOf S) (t : SourceOf T) (k : SinkOf K) (d : DiskOf D) (old new : Streams S T K D) where
  -- the bytes of its inputs
  abbrev pub run_inputs : InputBytes
  run_inputs = inputs (s.left old.capture) (s.left new.capture) (t.left old.text) (t.left new.text) (d.reads old.disk)

  -- the faults of its sources, before it and after it
  abbrev pub faults_before : SourceFaults
  faults_before = faults_of_source (s.faults old.capture) (t.faults old.text)

  abbrev pub faults_after : SourceFaults
  faults_after = faults_of_source (s.faults new.capture) (t.faults new.text)

  -- its sources, before it and after it
  abbrev pub sources_before : Sources T
  sources_before = sources s t old.capture old.text

  abbrev pub sources_after : Sources T
  sources_after = sources s t new.capture new.text

  -- what its disk keeps of the cuts that it saved
  abbrev pub run_keeping : SessionKeeping
  run_keeping = AreKeptOnDisk d old.disk new.disk

  -- nothing was written, and the disk reads, and will read after a crash, as before
  abbrev pub WritesNothing : Type 0
  WritesNothing = (new.sink ≡ old.sink) × IsAsBefore d old.disk new.disk

  -- nothing was written, and the disk is untouched
  pub record LeavesUnwritten : Type 0 where
    pub unwritten : new.sink ≡ old.sink
    pub untouched : new.disk ≡ old.disk

  -- for the arguments `words`
  module _ (words : List (List ℕ)) where
    -- BadWords: this is the first fault of the arguments, and nothing was read or written
    pub record RefusesWords (kind : WordsKind) : Type 0 where
      pub first_fault : HasWordsFault words kind
      pub nothing : new ≡ old

    -- BadCapture: the command reads a capture; this is the first fault of the file, where its bytes are known, and no cut frame
    -- where the command takes the front of a cut capture; no text of a session was read before
    pub record RefusesCapture (fault : CaptureFault) : Type 0 where
      pub asked : CommandUses UsesCapture words
      pub first_fault : IfSome (s.left old.capture) (λ file. IsRefusedFile (takes_front asked.command) file fault)
      pub text_unread : new.text ≡ old.text
      pub nothing : LeavesUnwritten

    -- BadReport: an audit or a watch was asked for, and the text of the session was refused for this fault
    pub record RefusesText (fault : TextFault) : Type 0 where
      pub command : Command
      pub asked : AskForCommand words command
      pub refusal : SessionRefused command run_inputs fault
      pub nothing : LeavesUnwritten

    -- ReadFault: a source failed, the capture's first; nothing was written
    pub record FailsToRead : Type 0 where
      pub failed : FailsAtSource (CommandUses UsesCapture words) (CommandUses (ReadsSession run_inputs) words) run_inputs
          sources_before sources_after
      pub nothing : LeavesUnwritten

    -- arguments with a fault are refused for it, unless memory runs out, and nothing is read or written
    abbrev pub MustRefuseWords : Status → Type 0
    MustRefuseWords status =
        (kind : WordsKind) → HasWordsFault words kind → (status ≡ BadWords kind) ⊎ ((status ≡ OutOfMemory) × (new ≡ old))

    -- a capture with a fault is refused for it, unless the source fails or memory runs out first
    abbrev pub MustRefuseCapture : Status → Type 0
    MustRefuseCapture status =
        (file : List ℕ) (fault : CaptureFault) (asked : CommandUses UsesCapture words) → s.left old.capture ≡ Some file
        → IsRefusedFile (takes_front asked.command) file fault → (status ≡ BadCapture fault) ⊎ ((status ≡ ReadFault) ⊎ (status ≡ OutOfMemory))

    -- the text of a session with a fault is refused for it, once the capture was accepted, unless a source fails or memory
    -- runs out first
    abbrev pub MustRefuseText : Status → Type 0
    MustRefuseText status =
        (settings : Settings) (file bytes : List ℕ) (fault : TextFault)
        → AskForCommand words (command.Audit settings) → s.left old.capture ≡ Some file → IsCaptureFile settings.front file
        → t.left old.text ≡ Some bytes → HasSessionFault settings.grain bytes fault
        → (status ≡ BadReport fault) ⊎ ((status ≡ ReadFault) ⊎ (status ≡ OutOfMemory))

    -- the same of a watch, which reads no capture
    abbrev pub MustRefuseWatched : Status → Type 0
    MustRefuseWatched status =
        (rule : Rule) (grain : Grain) (bytes : List ℕ) (fault : TextFault) → AskForCommand words (command.Watch rule grain)
        → t.left old.text ≡ Some bytes → HasSessionFault grain bytes fault
        → (status ≡ BadReport fault) ⊎ ((status ≡ ReadFault) ⊎ (status ≡ OutOfMemory))

    -- under `rules`, which say to which shards the dealers may deal a record, and which severities the judge may give
    module _ (rules : RunRules) where
      -- the text of the command was written, for its inputs, which were read to their ends
      abbrev pub WritesText : Type 0
      WritesText = Answers rules run_keeping words run_inputs (k.taken old.sink) (k.taken new.sink)

      -- bytes with which it begins were written, after the inputs were read to their ends
      abbrev pub WritesPart : Type 0
      WritesPart = AnswersInPart rules run_keeping words run_inputs (k.taken old.sink) (k.taken new.sink)

      -- NotFormatted, Damaged, OtherSettings, OtherCapture: a report with a store was asked for; the capture was read to its
      -- end, and over its records the store was refused for this fault
      pub record RefusesStore (fault : OpenFault) : Type 0 where
        pub settings : Settings
        pub asked : AskForCommand words (command.Report settings)
        pub used : settings.store ≡ true
        pub read_to_end : IsAtEnd (s.left new.capture)
        pub refused : IfSome (s.left old.capture) (λ file. IsRefusedStore settings rules.dealing (d.reads old.disk) file fault)
        pub nothing : WritesNothing

      -- AuditNo: an audit was asked for, and the inputs were read to their ends; this report is the first of the session that
      -- is not sound, by this verdict, and the line that says so was written in full
      pub record FindsUnsound (report : ℕ) (verdict : Verdict) : Type 0 where
        pub settings : Settings
        pub asked : AskForCommand words (command.Audit settings)
        pub read_to_end : WereRead (command.Audit settings) run_inputs
        pub found : HoldsOfAudit settings run_inputs (λ file text. IsUnsoundAudit settings rules.dealing file text report verdict)
        pub written : Appends (k.taken old.sink) (k.taken new.sink) (unsound_audit report verdict)

      -- WriteFault: the sink failed, after bytes with which the text of the command begins
      pub record FailsToWrite : Type 0 where
        pub rose : FaultRose (k.faults old.sink) (k.faults new.sink)
        pub in_part : WritesPart

      -- DiskFault: the command may use a store, whose disk failed. Either nothing was written, and a store that was to be opened
      -- is as before; or bytes with which the text begins were written
      pub record FailsToStore : Type 0 where
        pub command : Command
        pub asked : AskForCommand words command
        pub may_use : MayUseStore command
        pub rose : FaultRose (d.faults old.disk) (d.faults new.disk)
        pub in_part : ((new.sink ≡ old.sink) × EndsAsBefore command (IsAsBefore d old.disk new.disk)) ⊎ WritesPart

      -- a store that has a fault however the records of the capture are dealt is refused for it, unless the source or the disk
      -- fails or memory runs out first
      abbrev pub MustRefuseStore : Status → Type 0
      MustRefuseStore status =
          (settings : Settings) (file image : List ℕ) (fault : OpenFault)
          → AskForCommand words (command.Report settings) → settings.store ≡ true → s.left old.capture ≡ Some file
          → IsCaptureFile settings.front file → d.reads old.disk ≡ Some image → IsShownByBytes fault
          → ((records : Records) (lists : List (List RecordValue)) → AreDealtRecords settings rules.dealing file records lists
          → RefusesOpening (settings_of_store settings) lists image fault)
          → (status ≡ status_of_opening fault) ⊎ ((status ≡ ReadFault) ⊎ ((status ≡ DiskFault) ⊎ (status ≡ OutOfMemory)))

      -- where the same report is the first unsound one, by the same verdict, however the records are dealt, the audit names it,
      -- unless a source or the sink fails or memory runs out first
      abbrev pub MustFindUnsound : Status → Type 0
      MustFindUnsound status =
          (settings : Settings) (file bytes : List ℕ) (known : Session) (report : ℕ) (verdict : Verdict)
          → AskForCommand words (command.Audit settings) → s.left old.capture ≡ Some file → IsCaptureFile settings.front file
          → t.left old.text ≡ Some bytes → IsSessionText settings.grain bytes known → length bytes ≤ longest_session
          → ((lists : List (List RecordValue)) (session : Session) → AreAudited settings rules.dealing file bytes lists session
          → IsFirstUnsound settings lists session.reports report verdict)
          → (status ≡ AuditNo report verdict) ⊎ ((status ≡ ReadFault) ⊎ ((status ≡ WriteFault) ⊎ (status ≡ OutOfMemory)))

      -- a session whose reports are all sound however the records are dealt is found so, unless a source or the sink fails or
      -- memory runs out
      abbrev pub MustFindSound : Status → Type 0
      MustFindSound status =
          (settings : Settings) (file bytes : List ℕ) (known : Session)
          → AskForCommand words (command.Audit settings) → s.left old.capture ≡ Some file → IsCaptureFile settings.front file
          → t.left old.text ≡ Some bytes → IsSessionText settings.grain bytes known → length bytes ≤ longest_session
          → ((lists : List (List RecordValue)) (session : Session) → AreAudited settings rules.dealing file bytes lists session
          → All (IsAuditedSound settings lists) session.reports)
          → (status ≡ Done) ⊎ ((status ≡ ReadFault) ⊎ ((status ≡ WriteFault) ⊎ (status ≡ OutOfMemory)))

      -- with arguments that ask for a command, inputs that are known and in their formats, and no fault of a source, the sink or
      -- the disk, the command is answered, unless memory runs out
      abbrev pub MustAnswer : Status → Type 0
      MustAnswer status =
          (command : Command) → AskForCommand words command → CanBeAnswered rules.dealing command run_inputs
          → (FaultRose (s.faults old.capture) (s.faults new.capture) → ⊥) → (FaultRose (t.faults old.text) (t.faults new.text) → ⊥)
          → (FaultRose (k.faults old.sink) (k.faults new.sink) → ⊥) → (FaultRose (d.faults old.disk) (d.faults new.disk) → ⊥)
          → EndsAnswered command status ⊎ (status ≡ OutOfMemory)

      -- the run ended with this status
      pub record RunEnds (status : Status) : Type 0 where
        -- the text of the command was written for its inputs, which were read to their ends. What a report says of weights holds
        -- for the records themselves, unless the run went on from a saved cut whose tables aren't those of its records. A crash
        -- at any moment of a report with a store leaves what it could have left when the run began, or a store that opens as
        -- before or to one of the cuts that the run saves, whichever lines were written by then; a crash afterwards leaves one
        -- that opens to the last of them. What the written lines say of the store is `KeepsItsStore` in specs/StorePromise
        pub done : status ≡ Done → WritesText
        -- the arguments are checked first, before anything is read
        pub bad_words : (kind : WordsKind) → status ≡ BadWords kind → RefusesWords kind
        pub refuses_words : MustRefuseWords status
        -- a capture, a store and the text of a session are refused for their first fault, and nothing is written
        pub bad_capture : (fault : CaptureFault) → status ≡ BadCapture fault → RefusesCapture fault
        pub refuses_capture : MustRefuseCapture status
        pub bad_store : (fault : OpenFault) → IsShownByBytes fault → status ≡ status_of_opening fault → RefusesStore fault
        pub refuses_store : MustRefuseStore status
        pub bad_text : (fault : TextFault) → status ≡ BadReport fault → RefusesText fault
        pub refuses_text : MustRefuseText status
        pub refuses_watched : MustRefuseWatched status
        -- an audit finds the first report that isn't sound, or that all are
        pub audit_no : (report : ℕ) (verdict : Verdict) → status ≡ AuditNo report verdict → FindsUnsound report verdict
        pub finds_unsound : MustFindUnsound status
        pub finds_sound : MustFindSound status
        -- a fault of a source, the sink or the disk is returned only where there was one in this run, and always then
        pub read_fault : status ≡ ReadFault → FailsToRead
        pub read_fault_reported : (status ≡ ReadFault → ⊥) → faults_after ≡ faults_before
        pub write_fault : status ≡ WriteFault → FailsToWrite
        pub write_fault_reported : (status ≡ WriteFault → ⊥) → k.faults new.sink ≡ k.faults old.sink
        pub disk_fault : status ≡ DiskFault → FailsToStore
        pub disk_fault_reported : (status ≡ DiskFault → ⊥) → d.faults new.disk ≡ d.faults old.disk
        -- `format` leaves an empty store where its line was written, or began to be; where the disk failed, no more than its
        -- first 64 bytes, and what is past its old end, have changed. What the command doesn't use is untouched
        pub formats : (settings : Settings) → AskForCommand words (command.Format settings)
            → FormatEnds d (settings_of_store settings) old.sink new.sink old.disk new.disk status
        pub unused_capture : CommandAvoids UsesCapture words → new.capture ≡ old.capture
        pub unused_text : CommandAvoids UsesSession words → new.text ≡ old.text
        pub unused_disk : CommandAvoids UsesStore words → new.disk ≡ old.disk
        -- of each source a front was read, which may be empty or all of it, and the bytes after it remain
        pub capture_front : ReadsFront (s.left old.capture) (s.left new.capture)
        pub text_front : ReadsFront (t.left old.text) (t.left new.text)
        -- memory may run out at any time: then nothing was written, and the disk is as before; or a part of the text was
        -- written, which may be empty
        pub out_of_memory : status ≡ OutOfMemory → WritesNothing ⊎ WritesPart
        -- with arguments that ask for a command, inputs in their formats and no fault, the command is answered
        pub complete : MustAnswer status
