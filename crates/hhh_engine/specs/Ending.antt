-- What each status says of the arguments, of the source, of the sink and of the disk.
use Rattle.std.specs.Prelude.{⊤, ℕ, ◌≡◌, ◌⊎◌, Bool, true, List, Option, None, IfSome}
use Rattle.std.specs.Io.KnownBytes.{Appends, IsAtEnd}
use Rattle.outside_io.specs.{FaultRose}
use Rattle.prefix_lattice.specs.{RecordValue}
use Rattle.frame_records.specs.{IsRefusedFile}
use Rattle.frame_records.specs.declared.records.Records.{Records}
use Rattle.slot_disk.specs.{CrashLeaves, IfBothKnown, IfImageKnown, IsTornFrom, IsTornImage}
use Rattle.slot_disk.specs.{front_bytes}
use Rattle.slot_disk.specs.declared.disk.Disk.{Ghosts as DiskOf}
use Rattle.checkpoint.specs.{StoreOpensTo, written_header}
use Rattle.checkpoint.specs.declared.settings.StoreSettings.{StoreSettings}
use Rattle.recovery.specs.{RefusesOpening}
use Rattle.recovery.specs.declared.fault.OpenFault.{OpenFault}
use Rattle.recovery.specs.declared.fault.OpenFault.TheVariants as opening
use Rattle.report_text.specs.{HasSessionFault}
use Rattle.report_text.specs.declared.session_fault.TextFault.{TextFault}
use Rattle.exact_audit.specs.declared.verdict.Verdict.{Verdict}
use Rattle.command_words.specs.declared.command.Command.{Command}
use Rattle.command_words.specs.declared.command.Command.TheVariants as command
use Rattle.command_words.specs.declared.settings.Settings.{Settings}
use Rattle.report_session.specs.{WritesAnswer, settings_of_store}
use Rattle.session_audit.specs.{IsUnsoundAudit, ReadOnFault, unsound_audit}
use Rattle.hhh_engine.specs.Inputs.{InputBytes, HoldsOfAudit}
use Rattle.dealt_capture.specs.{IsCaptureFile, AreDealtRecords, DealingRules}
use Rattle.run_status.specs.declared.status.Status.{Status}
use Rattle.run_status.specs.declared.status.Status.TheVariants.{Done, BadWords, BadCapture, ReadFault, WriteFault}
use Rattle.run_status.specs.declared.status.Status.TheVariants.{DiskFault, NotFormatted, Damaged, OtherSettings}
use Rattle.run_status.specs.declared.status.Status.TheVariants.{OtherCapture, AuditNo, BadReport, OutOfMemory}
use Rattle.outside_io.specs.declared.source.Source.{Ghosts as SourceOf}
use Rattle.outside_io.specs.declared.sink.Sink.{Ghosts as SinkOf}
use Rattle.prefix_lattice.specs.declared.grain.Grain.{Grain}

-- the counts of faults of the two sources: that of the capture, and that of the text of a session
pub record SourceFaults : Type 0 where
  pub capture : ℕ
  pub text : ℕ

-- the sources with these counts of faults
abbrev pub faults_of_source : ℕ → ℕ → SourceFaults
faults_of_source capture text = record { capture = capture; text = text }

-- the count of faults of one of the sources rose
abbrev pub SourceFaultsRose : SourceFaults → SourceFaults → Type 0
SourceFaultsRose before now = FaultRose before.capture now.capture ⊎ FaultRose before.text now.text

-- the two sources at a moment: their counts of faults, and the source of the text itself
pub record Sources (T : Type 0) : Type 0 where
  pub faults : SourceFaults
  pub text : T

-- a capture and the text of a session, as sources
abbrev pub sources : {S T : Type 0} → SourceOf S → SourceOf T → S → T → Sources T
sources s t capture text = record { faults = faults_of_source (s.faults capture) (t.faults text); text = text }

-- the source of a capture, which the command reads, failed before any text of a session was read
pub record FailsAtCapture {T : Type 0} (Reads : Type 0) (before now : Sources T) : Type 0 where
  pub reads : Reads
  pub rose : FaultRose before.faults.capture now.faults.capture
  pub text_unread : now.text ≡ before.text

-- the source of the text of a session, which the command reads, failed after the capture, where the command reads one, was
-- accepted and read to its end without a fault
pub record FailsAtText {T : Type 0} (Reads ReadsText : Type 0) (read : InputBytes) (before now : Sources T) : Type 0 where
  pub reads : ReadsText
  pub rose : FaultRose before.faults.text now.faults.text
  pub capture_kept : now.faults.capture ≡ before.faults.capture
  pub read_to_end : Reads → IsAtEnd read.capture_left

-- one of the sources failed, the capture's first
abbrev pub FailsAtSource : {T : Type 0} → (Reads ReadsText : Type 0) → InputBytes → (before now : Sources T) → Type 0
FailsAtSource Reads ReadsText read before now = FailsAtCapture Reads before now ⊎ FailsAtText Reads ReadsText read before now

-- where no byte was written: the disk is as before, unless the command is `format`, which may have begun a store
abbrev pub EndsAsBefore : Command → (AsBefore : Type 0) → Type 0
EndsAsBefore (command.Weigh prefix settings) AsBefore = AsBefore
EndsAsBefore (command.Report settings) AsBefore = AsBefore
EndsAsBefore (command.Format settings) AsBefore = ⊤
EndsAsBefore (command.Audit settings) AsBefore = AsBefore
EndsAsBefore (command.Watch rule grain) AsBefore = AsBefore
EndsAsBefore (command.Make seed frames) AsBefore = AsBefore
EndsAsBefore (command.Demo seed frames settings) AsBefore = AsBefore

-- over a capture, whose records are dealt, the store is refused for this fault, where the bytes of the disk are known
pub record IsRefusedStore (settings : Settings) (rules : DealingRules) (store : Option (List ℕ)) (file : List ℕ)
    (fault : OpenFault) : Type 0 where
  pub records : Records
  pub lists : List (List RecordValue)
  pub dealt : AreDealtRecords settings rules file records lists
  pub refused : IfImageKnown store (λ image. RefusesOpening (settings_of_store settings) lists image fault)

-- the text of a session by a grain was refused: this is its first fault, where its bytes are known; it was read to its end, or to
-- one byte past the longest one
pub record TextRefused (grain : Grain) (read : InputBytes) (fault : TextFault) : Type 0 where
  pub first_fault : IfSome read.text (λ text. HasSessionFault grain text fault)
  pub read_to_limit : ReadOnFault fault read.text read.text_left

-- the text of a session was refused in an audit, whose capture is one and was read to its end
pub record AuditRefused (settings : Settings) (read : InputBytes) (fault : TextFault) : Type 0 where
  pub read_to_end : IsAtEnd read.capture_left
  pub accepted : IfSome read.capture (IsCaptureFile settings.front)
  pub refused : TextRefused settings.grain read fault

-- the text of a session was refused, which the command reads
abbrev pub SessionRefused : Command → InputBytes → TextFault → Type 0
SessionRefused (command.Weigh prefix settings) read fault = ⊥
SessionRefused (command.Report settings) read fault = ⊥
SessionRefused (command.Format settings) read fault = ⊥
SessionRefused (command.Audit settings) read fault = AuditRefused settings read fault
SessionRefused (command.Watch rule grain) read fault = TextRefused grain read fault
SessionRefused (command.Make seed frames) read fault = ⊥
SessionRefused (command.Demo seed frames settings) read fault = ⊥

-- the command was answered: its text was written, or an audit found a report that is not sound
abbrev pub EndsAnswered : Command → Status → Type 0
EndsAnswered (command.Audit settings) status =
    (status ≡ Done) ⊎ ((report : ℕ) × (verdict : Verdict) × (status ≡ AuditNo report verdict))
EndsAnswered (command.Weigh prefix settings) status = status ≡ Done
EndsAnswered (command.Report settings) status = status ≡ Done
EndsAnswered (command.Format settings) status = status ≡ Done
EndsAnswered (command.Watch rule grain) status = status ≡ Done
EndsAnswered (command.Make seed frames) status = status ≡ Done
EndsAnswered (command.Demo seed frames settings) status = status ≡ Done

-- the disk holds a store with the header that `format` writes for these settings and with no gate open, whatever a crash now leaves, where its bytes are known
abbrev pub EndsEmpty : Option (List ℕ) → (List ℕ → Type 0) → StoreSettings → Type 0
EndsEmpty reads possible settings =
    IfImageKnown reads (λ bytes. (image : List ℕ) → possible image → StoreOpensTo (written_header settings) image None)

-- of a disk no more than the 64 bytes of gates and header, and what is past its old end, has changed: in what a read gives,
-- where that is known, and in what a crash leaves at any moment
pub record EndsTearing {D : Type 0} (d : DiskOf D) (old new : D) : Type 0 where
  pub reading : IfBothKnown (d.reads old) (d.reads new) (IsTornImage 0 front_bytes)
  pub any_moment : CrashLeaves d.moment d.image_since old new (IsTornFrom (d.image_now old) 0 front_bytes)

-- how `format` ends: the store is formatted once its text is written, or the sink failed; nothing was written where the
-- disk failed, and of it no more than the front has changed; the disk is as before where memory ran out
abbrev pub FormatEnds : {K D : Type 0} → DiskOf D → StoreSettings → (sink written : K) → (disk stands : D) → Status → Type 0
FormatEnds d settings sink written disk stands Done = EndsEmpty (d.reads stands) (d.image_now stands) settings
FormatEnds d settings sink written disk stands WriteFault = EndsEmpty (d.reads stands) (d.image_now stands) settings
FormatEnds d settings sink written disk stands DiskFault = (written ≡ sink) × EndsTearing d disk stands
FormatEnds d settings sink written disk stands OutOfMemory = (written ≡ sink) × (stands ≡ disk)
FormatEnds d settings sink written disk stands _ = ⊥

-- within the crate: a report with a store was asked for, the store is refused for this fault, and the disk is as before
abbrev pub EndsRefusing : Settings → DealingRules → (capture store : Option (List ℕ)) → (AsBefore : Type 0) → OpenFault → Type 0
EndsRefusing settings rules capture store AsBefore fault =
    (settings.store ≡ true) × AsBefore × IfSome capture (λ file. IsRefusedStore settings rules store file fault)

-- within the crate: the same of any command: only a report opens a store
abbrev pub Refuses : Command → DealingRules → InputBytes → (AsBefore : Type 0) → OpenFault → Type 0
Refuses (command.Weigh prefix settings) rules read AsBefore fault = ⊥
Refuses (command.Report settings) rules read AsBefore fault =
    EndsRefusing settings rules read.capture read.store AsBefore fault
Refuses (command.Format settings) rules read AsBefore fault = ⊥
Refuses (command.Audit settings) rules read AsBefore fault = ⊥
Refuses (command.Watch rule grain) rules read AsBefore fault = ⊥
Refuses (command.Make seed frames) rules read AsBefore fault = ⊥
Refuses (command.Demo seed frames settings) rules read AsBefore fault = ⊥

-- within the crate: this happened to the disk, which the command may use
abbrev pub DiskHappened : Command → Type 0 → Type 0
DiskHappened (command.Weigh prefix settings) happened = ⊥
DiskHappened (command.Report settings) happened = happened
DiskHappened (command.Format settings) happened = happened
DiskHappened (command.Audit settings) happened = ⊥
DiskHappened (command.Watch rule grain) happened = ⊥
DiskHappened (command.Make seed frames) happened = ⊥
DiskHappened (command.Demo seed frames settings) happened = ⊥

-- within the crate: how far a command read its inputs that ended at a fault of the capture, or of a source
abbrev pub EndsInOrder : {T : Type 0} → (Reads ReadsText : Type 0) → InputBytes → (before now : Sources T) → Status → Type 0
EndsInOrder Reads ReadsText read before now (BadCapture fault) = Reads × (now.text ≡ before.text)
EndsInOrder Reads ReadsText read before now ReadFault = FailsAtSource Reads ReadsText read before now
EndsInOrder Reads ReadsText read before now _ = ⊤

-- within the crate: what an audit found that ended so, and what it wrote of it
abbrev pub EndsByFinding : Settings → DealingRules → InputBytes → (old new : Option (List ℕ)) → Status → Type 0
EndsByFinding settings rules read old new (AuditNo report verdict) =
    HoldsOfAudit settings read (λ file text. IsUnsoundAudit settings rules file text report verdict)
    × Appends old new (unsound_audit report verdict)
EndsByFinding settings rules read old new (BadReport fault) = AuditRefused settings read fault
EndsByFinding settings rules read old new _ = ⊥

-- within the crate: what a watch found that ended so: only a fault of its text
abbrev pub EndsByWatching : Grain → InputBytes → Status → Type 0
EndsByWatching grain read (BadReport fault) = TextRefused grain read fault
EndsByWatching grain read _ = ⊥

-- within the crate: the same of any command: only `audit` and `watch` read the text of a session
abbrev pub SessionFinds : Command → DealingRules → InputBytes → (old new : Option (List ℕ)) → Status → Type 0
SessionFinds (command.Weigh prefix settings) rules read old new status = ⊥
SessionFinds (command.Report settings) rules read old new status = ⊥
SessionFinds (command.Format settings) rules read old new status = ⊥
SessionFinds (command.Make seed frames) rules read old new status = ⊥
SessionFinds (command.Demo seed frames settings) rules read old new status = ⊥
SessionFinds (command.Audit settings) rules read old new status = EndsByFinding settings rules read old new status
SessionFinds (command.Watch rule grain) rules read old new status = EndsByWatching grain read status

-- within the crate: what a command owes, over what it read
pub record Task : Type 1 where
  -- whether it takes the front of a capture that ends inside a frame
  pub front : Bool
  -- its text, and the bytes that may begin it
  pub is_text : List ℕ → Type 0
  pub is_part : List ℕ → Type 0
  -- its inputs were read to their ends, and are in their formats
  pub read : Type 0
  pub accepted : Type 0
  -- the disk's count of faults rose; the disk is untouched; its store is as before
  pub disk_failed : Type 0
  pub disk_same : Type 0
  pub store_same : Type 0
  -- its store is refused for this fault; it ended so by what its session says
  pub refuses : OpenFault → Type 0
  pub finds : Status → Type 0

-- within the crate: how the streams of a command stood, before it and after it: the capture's remaining bytes before, the
-- counts of faults of the sources, the sink, what that took, and its count of faults
pub record Course (K : Type 0) : Type 0 where
  pub capture : Option (List ℕ)
  pub read_before : SourceFaults
  pub read_now : SourceFaults
  pub sink : K
  pub written : K
  pub old : Option (List ℕ)
  pub new : Option (List ℕ)
  pub write_before : ℕ
  pub write_now : ℕ

-- within the crate: the course of a command that wrote to this sink
abbrev pub course : {K : Type 0} → SinkOf K → (capture : Option (List ℕ)) → (before now : SourceFaults)
    → (sink written : K) → Course K
course k capture before now sink written = record {
  capture = capture;
  read_before = before;
  read_now = now;
  sink = sink;
  written = written;
  old = k.taken sink;
  new = k.taken written;
  write_before = k.faults sink;
  write_now = k.faults written;
}

-- within the crate: how a command with this task ended
module _ {K : Type 0} (task : Task) (c : Course K) where
  -- no source failed, and neither did the sink
  abbrev NoReadFault : Type 0
  NoReadFault = c.read_now ≡ c.read_before

  abbrev NoWriteFault : Type 0
  NoWriteFault = c.write_now ≡ c.write_before

  -- nothing was written
  abbrev Unwritten : Type 0
  Unwritten = c.written ≡ c.sink

  -- bytes that begin the text were written
  abbrev WritesSome : Type 0
  WritesSome = WritesAnswer task.is_part c.old c.new

  -- the store is refused for this fault
  abbrev RefusedFor : OpenFault → Type 0
  RefusedFor fault = task.refuses fault × task.read × Unwritten × NoReadFault × NoWriteFault

  -- it ended with this status
  abbrev pub Ends : Status → Type 0
  Ends Done = task.read × WritesAnswer task.is_text c.old c.new × NoReadFault × NoWriteFault
  Ends (BadWords kind) = ⊥
  Ends (BadCapture fault) =
      IfSome c.capture (λ file. IsRefusedFile task.front file fault) × Unwritten × task.disk_same × NoReadFault × NoWriteFault
  Ends ReadFault = SourceFaultsRose c.read_before c.read_now × Unwritten × task.disk_same × NoWriteFault
  Ends WriteFault = task.read × WritesSome × FaultRose c.write_before c.write_now × NoReadFault
  Ends DiskFault =
      task.read × task.accepted × ((Unwritten × task.store_same) ⊎ WritesSome) × task.disk_failed × NoReadFault × NoWriteFault
  Ends NotFormatted = RefusedFor opening.NotFormatted
  Ends (Damaged slot) = RefusedFor (opening.Damaged slot)
  Ends (OtherSettings stored asked) = RefusedFor (opening.OtherSettings stored asked)
  Ends (OtherCapture stored asked) = RefusedFor (opening.OtherCapture stored asked)
  Ends (AuditNo report verdict) = task.read × task.finds (AuditNo report verdict) × NoReadFault × NoWriteFault
  Ends (BadReport fault) = task.finds (BadReport fault) × Unwritten × task.disk_same × NoReadFault × NoWriteFault
  Ends OutOfMemory = ((Unwritten × task.store_same) ⊎ (task.read × WritesSome)) × NoReadFault × NoWriteFault
