-- The session over a capture, by the dealt lists over which it was written.
use Rattle.std.proofs.Common.{◌≡◌, ◌⊎◌, inl, inr, ⊎_elim, ℕ, true, List, [], Option, None, Some, IfSome, refl, ap}
use Rattle.std.proofs.Common.{subst}
use Rattle.prefix_lattice.specs.{RecordValue}
use Rattle.recovery.specs.declared.fault.OpenFault.{OpenFault}
use Rattle.recovery.specs.declared.fault.OpenFault.TheVariants as opening
use Rattle.command_words.specs.declared.settings.Settings.{Settings}
use Rattle.report_session.specs.{WritesAnswer, FeedEnds, FeedRefuses, FeedWrites}
use Rattle.report_session.specs.{FeedWritesPart, RoundFaults, settings_of_store, BeginsSession}
use Rattle.report_session.specs.{IsSession, IsSessionInPart, SessionKeeping, IsOverShards, session_opening}
use Rattle.hhh_engine.specs.Ending.{Ends, IsRefusedStore, EndsRefusing, SourceFaults}
use Rattle.report_session.specs.{IsFeedCapture}
use Rattle.dealt_capture.specs.{AreDealtRecords, IsCaptureFile, DealingRules}
use Rattle.run_status.specs.declared.status.Status.{Status}
use Rattle.run_status.specs.declared.status.Status.TheVariants.{Done, BadWords, BadCapture, ReadFault, WriteFault}
use Rattle.run_status.specs.declared.status.Status.TheVariants.{DiskFault, NotFormatted, Damaged, OtherSettings}
use Rattle.run_status.specs.declared.status.Status.TheVariants.{OtherCapture, AuditNo, BadReport, OutOfMemory}
use Rattle.std.specs.Io.KnownBytes.{IsAtEnd}
use Rattle.outside_io.specs.declared.sink.Sink.{Ghosts as SinkOf}
use Rattle.slot_disk.specs.declared.disk.Disk.{Ghosts as DiskOf}
use Rattle.hhh_engine.specs.Ending.{course}
use Rattle.hhh_engine.specs.Tasks.{report_task}
use Rattle.report_session.specs.{IsAsBefore, AreKeptOnDisk}
use Rattle.report_session.specs.{asked_shape}
use Rattle.hhh_engine.specs.Ending.{Task, faults_of_source}
use Rattle.hhh_engine.specs.Reading.{HasNoText}

-- what follows of each capture that may be known follows of the one that is
pub capture_report_if_known : (left : Option (List ℕ)) (P Q : List ℕ → Type 0) → ((file : List ℕ) → P file → Q file) → IfSome left P
    → IfSome left Q
capture_report_if_known None P Q follows has = tt
capture_report_if_known (Some file) P Q follows has = follows file has

-- the whole session over a capture
capture_report_writes_session : (settings : Settings) (rules : DealingRules) (keeping : SessionKeeping) (left store : Option (List ℕ))
    (lists : List (List RecordValue)) (tail : List ℕ) (old new : Option (List ℕ)) → IsFeedCapture settings rules left lists tail
    → FeedWrites settings lists tail keeping store old new
    → WritesAnswer (IsSession settings rules keeping store left) old new
capture_report_writes_session settings rules keeping left store lists tail old new capture writes = record {
  text = writes.writes.text;
  is_text = record {
    records = capture.records;
    lists = lists;
    dealt = capture.dealt;
    as_many = capture.as_many;
    base = writes.base;
    begins = writes.begins;
    represents = writes.represents;
    spelled =
        subst (λ t. IsOverShards (session_opening (asked_shape settings) lists writes.base) settings
        (λ cuts. settings.store ≡ true → keeping (settings_of_store settings) lists cuts []) t writes.writes.text)
        capture.is_tail writes.writes.is_text;
  };
  written = writes.writes.written;
}

-- the session in part
capture_report_writes_in_part : (settings : Settings) (rules : DealingRules) (keeping : SessionKeeping) (left store : Option (List ℕ))
    (lists : List (List RecordValue)) (tail : List ℕ) (old new : Option (List ℕ)) → IsFeedCapture settings rules left lists tail
    → FeedWritesPart settings lists tail keeping store old new
    → WritesAnswer (IsSessionInPart settings rules keeping store left) old new
capture_report_writes_in_part settings rules keeping left store lists tail old new capture writes = record {
  text = writes.writes.text;
  is_text = record {
    records = capture.records;
    lists = lists;
    dealt = capture.dealt;
    as_many = capture.as_many;
    base = writes.base;
    begins = writes.begins;
    represents = writes.represents;
    shards = writes.shards;
    begun =
        subst (λ t. BeginsSession (session_opening (asked_shape settings) lists writes.base) settings
        (λ saved unfinished. settings.store ≡ true → keeping (settings_of_store settings) lists saved unfinished) t
        writes.writes.text) capture.is_tail writes.writes.is_text;
  };
  written = writes.writes.written;
}

-- the store is refused over the dealt lists of a capture
capture_report_refuses_store : (settings : Settings) (rules : DealingRules) (left store : Option (List ℕ)) (AsBefore : Type 0)
    (lists : List (List RecordValue)) (tail : List ℕ) (fault : OpenFault)
    → IsFeedCapture settings rules left lists tail
    → FeedRefuses settings lists store AsBefore fault
    → EndsRefusing settings rules left store AsBefore fault
capture_report_refuses_store settings rules left store AsBefore lists tail fault capture refuses = (
  refuses.used,
  refuses.as_before,
  capture_report_if_known left (λ file. AreDealtRecords settings rules file capture.records lists)
      (λ file. IsRefusedStore settings rules store file fault)
      (λ file dealt. record {
        records = capture.records;
        lists = lists;
        dealt = dealt;
        refused = refuses.refused;
      }) capture.dealt,
)

-- nothing was written, or a part of the text was
capture_report_nothing_or_part : (settings : Settings) (rules : DealingRules) (keeping : SessionKeeping) (left store : Option (List ℕ))
    (lists : List (List RecordValue)) (tail : List ℕ) (ReadToEnd Nothing : Type 0) (old new : Option (List ℕ))
    → IsFeedCapture settings rules left lists tail → ReadToEnd
    → Nothing ⊎ FeedWritesPart settings lists tail keeping store old new
    → Nothing ⊎ (ReadToEnd × WritesAnswer (IsSessionInPart settings rules keeping store left) old new)
capture_report_nothing_or_part settings rules keeping left store lists tail ReadToEnd Nothing old new dealt read =
    ⊎_elim (λ nothing. inl nothing)
    (λ part. inr (read, capture_report_writes_in_part settings rules keeping left store lists tail old new dealt part))

-- how a report over a capture ended, from how it ended over its dealt lists
pub capture_report_ends : {K D : Type 0} (k : SinkOf K) (d : DiskOf D) (settings : Settings) (rules : DealingRules)
    (left left_now : Option (List ℕ)) (before now : SourceFaults) (sink written : K) (old new : D)
    (lists : List (List RecordValue)) (tail : List ℕ) (status : Status)
    → IsFeedCapture settings rules left lists tail → IsAtEnd left_now → now ≡ before
    → FeedEnds k d settings lists tail sink written old new status
    → Ends (report_task d settings rules left left_now old new) (course k left before now sink written) status
capture_report_ends k d settings rules left left_now before now sink written old new lists tail Done dealt read same ends = (
  read,
  capture_report_writes_session settings rules (AreKeptOnDisk d old new) left (d.reads old) lists tail (k.taken sink) (k.taken written) dealt ends.0,
  same,
  ap (λ (f : RoundFaults). f.sink) ends.1,
)
capture_report_ends k d settings rules left left_now before now sink written old new lists tail WriteFault dealt read same ends = (
  read,
  capture_report_writes_in_part settings rules (AreKeptOnDisk d old new) left (d.reads old) lists tail
      (k.taken sink) (k.taken written) dealt ends.0,
  ends.1.rose,
  same,
)
capture_report_ends k d settings rules left left_now before now sink written old new lists tail DiskFault dealt read same ends = (
  read,
  capture_report_if_known left (λ file. AreDealtRecords settings rules file dealt.records lists) (IsCaptureFile settings.front)
      (λ file are. (are.frames, dealt.records.cut, are.capture)) dealt.dealt,
  ⊎_elim (λ none. inl none)
      (λ part. inr (capture_report_writes_in_part settings rules (AreKeptOnDisk d old new) left (d.reads old) lists tail
      (k.taken sink) (k.taken written) dealt part)) ends.0,
  ends.1.rose,
  same,
  ends.1.sink,
)
capture_report_ends k d settings rules left left_now before now sink written old new lists tail NotFormatted dealt read same ends = (
  capture_report_refuses_store settings rules left (d.reads old) (IsAsBefore d old new) lists tail opening.NotFormatted dealt ends.0,
  read,
  ends.1,
  same,
  ap (λ (f : RoundFaults). f.sink) ends.2,
)
capture_report_ends k d settings rules left left_now before now sink written old new lists tail (Damaged slot) dealt read same ends = (
  capture_report_refuses_store settings rules left (d.reads old) (IsAsBefore d old new) lists tail (opening.Damaged slot) dealt ends.0,
  read,
  ends.1,
  same,
  ap (λ (f : RoundFaults). f.sink) ends.2,
)
capture_report_ends k d settings rules left left_now before now sink written old new lists tail (OtherSettings stored asked) dealt read same ends = (
  capture_report_refuses_store settings rules left (d.reads old) (IsAsBefore d old new) lists tail (opening.OtherSettings stored asked) dealt ends.0,
  read,
  ends.1,
  same,
  ap (λ (f : RoundFaults). f.sink) ends.2,
)
capture_report_ends k d settings rules left left_now before now sink written old new lists tail (OtherCapture stored asked) dealt read same ends = (
  capture_report_refuses_store settings rules left (d.reads old) (IsAsBefore d old new) lists tail (opening.OtherCapture stored asked) dealt ends.0,
  read,
  ends.1,
  same,
  ap (λ (f : RoundFaults). f.sink) ends.2,
)
capture_report_ends k d settings rules left left_now before now sink written old new lists tail OutOfMemory dealt read same ends = (
  capture_report_nothing_or_part settings rules (AreKeptOnDisk d old new) left (d.reads old) lists tail (IsAtEnd left_now)
      ((written ≡ sink) × IsAsBefore d old new) (k.taken sink) (k.taken written) dealt read ends.0,
  same,
  ap (λ (f : RoundFaults). f.sink) ends.1,
)
capture_report_ends k d settings rules left left_now before now sink written old new lists tail (BadWords kind) dealt read same ends = absurd ends
capture_report_ends k d settings rules left left_now before now sink written old new lists tail (BadCapture fault) dealt read same ends = absurd ends
capture_report_ends k d settings rules left left_now before now sink written old new lists tail ReadFault dealt read same ends = absurd ends
capture_report_ends k d settings rules left left_now before now sink written old new lists tail (AuditNo report verdict) dealt read same ends = absurd ends
capture_report_ends k d settings rules left left_now before now sink written old new lists tail (BadReport fault) dealt read same ends = absurd ends

-- the disk's count of faults rose only where the status says so
pub capture_report_tells_disk_fault : {K D : Type 0} (k : SinkOf K) (d : DiskOf D) (settings : Settings)
    (lists : List (List RecordValue)) (tail : List ℕ) (sink written : K) (old new : D) (status : Status)
    → FeedEnds k d settings lists tail sink written old new status → (status ≡ DiskFault → ⊥) → d.faults new ≡ d.faults old
capture_report_tells_disk_fault k d settings lists tail sink written old new Done ends other = ap (λ (f : RoundFaults). f.disk) ends.1
capture_report_tells_disk_fault k d settings lists tail sink written old new WriteFault ends other = ends.1.disk
capture_report_tells_disk_fault k d settings lists tail sink written old new DiskFault ends other = absurd (other refl)
capture_report_tells_disk_fault k d settings lists tail sink written old new NotFormatted ends other = ap (λ (f : RoundFaults). f.disk) ends.2
capture_report_tells_disk_fault k d settings lists tail sink written old new (Damaged slot) ends other = ap (λ (f : RoundFaults). f.disk) ends.2
capture_report_tells_disk_fault k d settings lists tail sink written old new (OtherSettings stored asked) ends other = ap (λ (f : RoundFaults). f.disk) ends.2
capture_report_tells_disk_fault k d settings lists tail sink written old new (OtherCapture stored asked) ends other = ap (λ (f : RoundFaults). f.disk) ends.2
capture_report_tells_disk_fault k d settings lists tail sink written old new OutOfMemory ends other = ap (λ (f : RoundFaults). f.disk) ends.1
capture_report_tells_disk_fault k d settings lists tail sink written old new (BadWords kind) ends other = absurd ends
capture_report_tells_disk_fault k d settings lists tail sink written old new (BadCapture fault) ends other = absurd ends
capture_report_tells_disk_fault k d settings lists tail sink written old new ReadFault ends other = absurd ends
capture_report_tells_disk_fault k d settings lists tail sink written old new (AuditNo report verdict) ends other = absurd ends
capture_report_tells_disk_fault k d settings lists tail sink written old new (BadReport fault) ends other = absurd ends

-- a command that reads a capture alone, and had no text of it
module _ {K : Type 0} (task : Task) (k : SinkOf K) (capture : Option (List ℕ)) (before now other : ℕ) (sink : K)
    (disk_same : task.disk_same) (store_same : task.store_same) where
  pub capture_report_ends_without_text : (status : Status) → HasNoText task.front capture before now status
      → ((status ≡ ReadFault → ⊥) → now ≡ before)
      → Ends task (course k capture (faults_of_source before other) (faults_of_source now other) sink sink) status
  capture_report_ends_without_text Done none told = absurd none
  capture_report_ends_without_text (BadWords kind) none told = absurd none
  capture_report_ends_without_text (BadCapture fault) none told =
      (none, refl, disk_same, ap (λ count. faults_of_source count other) (told (λ is. cc is)), refl)
  capture_report_ends_without_text ReadFault none told =
      (inl none, refl, disk_same, refl)
  capture_report_ends_without_text WriteFault none told = absurd none
  capture_report_ends_without_text DiskFault none told = absurd none
  capture_report_ends_without_text NotFormatted none told = absurd none
  capture_report_ends_without_text (Damaged slot) none told = absurd none
  capture_report_ends_without_text (OtherSettings stored asked) none told = absurd none
  capture_report_ends_without_text (OtherCapture stored asked) none told = absurd none
  capture_report_ends_without_text (AuditNo report verdict) none told = absurd none
  capture_report_ends_without_text (BadReport fault) none told = absurd none
  capture_report_ends_without_text OutOfMemory none told =
      (inl (refl, store_same), ap (λ count. faults_of_source count other) (told (λ is. cc is)), refl)
