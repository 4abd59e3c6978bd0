-- What a run of `report` promises of its store, however it ended.
use Rattle.std.specs.Prelude.{ℕ, ◌≡◌, ◌==◌, ◌⊎◌, Bool, List, Option, None, IfSome}
use Rattle.std.specs.Io.KnownBytes.{Appends}
use Rattle.outside_io.specs.declared.source.Source.{Ghosts as SourceOf}
use Rattle.outside_io.specs.declared.sink.Sink.{Ghosts as SinkOf}
use Rattle.prefix_lattice.specs.{RecordValue}
use Rattle.shard_state.specs.{CutValue}
use Rattle.frame_records.specs.declared.records.Records.{Records}
use Rattle.slot_disk.specs.declared.disk.Disk.{Ghosts as DiskOf}
use Rattle.command_words.specs.declared.settings.Settings.{Settings}
use Rattle.checkpoint.specs.{stored_header}
use Rattle.dealt_capture.specs.{AreDealtRecords, DealingRules}
use Rattle.report_session.specs.{BelongThroughout, BelongsToLists, GoesOnFrom, StoreIsKept, settings_of_store}
use Rattle.run_status.specs.{status_number}
use Rattle.run_status.specs.declared.status.Status.{Status}
use Rattle.hhh_engine.specs.TopCall.{Streams}

-- whether the run ended with Done
abbrev pub is_done : Status → Bool
is_done status = status_number status == 0

-- some bytes were written, and by them the store is kept, whose bytes were `store` as the run began
pub record KeepsItsStore {S T K D : Type 0} (k : SinkOf K) (d : DiskOf D) (old new : Streams S T K D) (settings : Settings)
    (store : List ℕ) (status : Status) : Type 0 where
  pub written : List ℕ
  pub appended : Appends (k.taken old.sink) (k.taken new.sink) written
  pub kept : StoreIsKept d (stored_header (settings_of_store settings) store) old.disk new.disk store written (is_done status)

-- whatever a crash could have left of the store on this disk belongs to these lists
abbrev pub BelongsBefore : {D : Type 0} → DiskOf D → D → Settings → List (List RecordValue) → Type 0
BelongsBefore d disk settings lists = (image : List ℕ) → d.image_now disk image → BelongsToLists (settings_of_store settings) lists image

-- the records of the capture, which are those of its bytes where these are known, were dealt to lists, and `base` is the saved
-- cut that the run went on from, if any. If the store belonged to the lists as the run began, then the base represents them, and
-- the store belongs to them at any moment of the run, and after it
pub record BelongsAsDealt {S T K D : Type 0} (s : SourceOf S) (d : DiskOf D) (old new : Streams S T K D) (settings : Settings)
    (rules : DealingRules) : Type 0 where
  pub records : Records
  pub lists : List (List RecordValue)
  pub dealt : IfSome (s.left old.capture) (λ file. AreDealtRecords settings rules file records lists)
  pub base : Option CutValue
  pub begins : GoesOnFrom settings lists (d.reads old.disk) base
  pub belongs : BelongsBefore d old.disk settings lists
      → BelongThroughout d (settings_of_store settings) lists base old.disk new.disk

-- the store of a run keeps belonging to what it belonged to: to any lists where nothing was written, and else to those of the
-- records as they were dealt
abbrev pub KeepsBelonging : {S T K D : Type 0} → SourceOf S → DiskOf D → (old new : Streams S T K D) → Settings → DealingRules
    → Type 0
KeepsBelonging s d old new settings rules =
    ((new.sink ≡ old.sink)
    × ((lists : List (List RecordValue)) → BelongsBefore d old.disk settings lists
    → BelongThroughout d (settings_of_store settings) lists None old.disk new.disk))
    ⊎ BelongsAsDealt s d old new settings rules
