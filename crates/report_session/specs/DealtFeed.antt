-- What `report` does after its capture was read, step by step.
use Rattle.std.specs.Prelude.{ℕ, ◌≡◌, ◌+◌, ◌≤◌, ◌⊎◌, true, List, [], ◌++◌, length, map, All, Option, IfSome}
use Rattle.std.specs.Prelude.{slice_index, is_some}
use Rattle.std.specs.Io.KnownBytes.{Appends}
use Rattle.prefix_lattice.specs.{RecordValue}
use Rattle.hhh_report.specs.{AreNotPast}
use Rattle.shard_state.specs.{CutValue, HasCoreShape, IsShard, ShardValue, core_shape, cut_positions}
use Rattle.hhh_report.specs.declared.reports.Reported.{Reported}
use Rattle.gate_workers.specs.declared.gathered.Called.{Called}
use Rattle.gate_workers.specs.declared.gathered.Gathered.{Gathered}
use Rattle.gate_workers.specs.declared.plan.ThreadPlan.{ThreadPlan}
use Rattle.gate_workers.specs.{HasSeenEnds, BringBack, View, cut_at}
use Rattle.pass_tokens.specs.{IsPassOf, WordsValue, first_view, view}
use Rattle.report_text.specs.{report_text}
use Rattle.checkpoint.specs.{AreSettings, SaverState, DiskMatches, lists_digest, greatest_sequence}
use Rattle.outside_io.specs.{FaultRose}
use Rattle.slot_disk.specs.{IfImageKnown}
use Rattle.recovery.specs.{ContinuesLists, RefusesOpening, greatest_opened}
use Rattle.recovery.specs.declared.fault.OpenFault.{OpenFault}
use Rattle.recovery.specs.declared.fault.OpenFault.TheVariants as opening
use Rattle.command_words.specs.declared.settings.Settings.{Settings}
use Rattle.report_session.specs.LiveRounds.{DiskFailed, RoundFaults, SinkFailed, round_faults}
use Rattle.report_session.specs.Saving.{settings_of_store}
use Rattle.report_session.specs.Session.{AreOfCaller, AreSessionShards, BeginsSession, BreaksOffInRounds}
use Rattle.report_session.specs.Session.{GoesOnFrom, IsShownInSession, SessionKeeping, GoesOnSoundly}
use Rattle.report_session.specs.Session.{SessionSaving, IsOverShards, other_parts, session_ends}
use Rattle.report_session.specs.Session.{session_opening, session_parts, saved_cuts, save_line}
use Rattle.report_session.specs.Session.{session_start, WritesAnswer}
use Rattle.run_status.specs.{status_of_opening}
use Rattle.report_session.specs.declared.base.Base.{Base}
use Rattle.report_session.specs.declared.session.Opened.{Opened}
use Rattle.report_session.specs.declared.feed.Fed.{Fed}
use Rattle.report_session.specs.declared.session.Rest.{Rest}
use Rattle.run_status.specs.declared.status.Status.{Status}
use Rattle.run_status.specs.declared.status.Status.TheVariants.{Done, WriteFault, DiskFault, NotFormatted, Damaged}
use Rattle.run_status.specs.declared.status.Status.TheVariants.{OtherSettings, OtherCapture, OutOfMemory}
use Rattle.frame_records.specs.declared.records.Records.{Records}
use Rattle.report_text.specs.{tail_text}
use Rattle.dealt_capture.specs.{AreDealtRecords, DealingRules}
use Rattle.outside_io.specs.declared.sink.Sink.{Ghosts as SinkOf}
use Rattle.slot_disk.specs.declared.disk.Disk.{Ghosts as DiskOf}
use Rattle.report_session.specs.Saving.{IsAsBefore, AreKeptOnDisk}
use Rattle.report_session.specs.Session.{asked_shape}
use Rattle.shard_state.specs.{TableShape}
use Rattle.checkpoint.specs.{settings_shape}

-- the dealt lists of a capture, as many as shards, and the last lines of the session over them
pub record IsFeedCapture (settings : Settings) (rules : DealingRules) (file : Option (List ℕ)) (lists : List (List RecordValue))
    (tail : List ℕ) : Type 0 where
  pub records : Records
  pub dealt : IfSome file (λ bytes. AreDealtRecords settings rules bytes records lists)
  pub as_many : length lists ≡ settings.shards
  pub is_tail : tail ≡ tail_text records

-- a saver of the store that the settings ask for, over dealt lists, from these positions on
pub record IsFeedSaver (settings : Settings) (lists : List (List RecordValue)) (positions : List ℕ) (saver : SaverState)
    : Type 0 where
  pub settings_are : saver.header.settings ≡ settings_of_store settings
  pub digest_is : saver.digest ≡ lists_digest saver.header lists
  pub early : saver.sequence ≤ greatest_opened
  pub positions_are : saver.positions ≡ positions

-- what a run over dealt lists goes on from: the bytes of its store as it began are these, where they are known
pub record IsFeedBase (settings : Settings) (lists : List (List RecordValue)) (store : Option (List ℕ)) (base : Base)
    : Type 0 where
  pub begins : GoesOnFrom settings lists store base.cut
  pub used : is_some base.saver ≡ settings.store
  pub positions_are : base.positions ≡ session_start (session_opening (asked_shape settings) lists base.cut)
  pub saver : IfSome base.saver (IsFeedSaver settings lists base.positions)

-- why a run has no base: its store was refused for a fault, or memory ran out
pub record HasNoBase (settings : Settings) (lists : List (List RecordValue)) (store : Option (List ℕ))
    (before now : ℕ) (status : Status) : Type 0 where
  pub fault : OpenFault
  pub status_is : status ≡ status_of_opening fault
  pub used : (settings.store ≡ true) ⊎ (fault ≡ opening.OutOfMemory)
  pub refused : IfImageKnown store (λ image. RefusesOpening (settings_of_store settings) lists image fault)
  pub rose : fault ≡ opening.DiskFault → FaultRose before now
  pub kept : (fault ≡ opening.DiskFault → ⊥) → now ≡ before

-- a cut of this shape from which the shards of dealt lists may go on
pub record FeedGoesOn (shape : TableShape) (lists : List (List RecordValue)) (cut : CutValue) : Type 0 where
  pub alike : cut.shape ≡ shape
  pub continues : ContinuesLists cut lists

-- why a save failed: the disk's count of faults rose, or memory ran out, and the count is as before
abbrev pub IsSaveFault : (before now : ℕ) → Status → Type 0
IsSaveFault before now DiskFault = FaultRose before now
IsSaveFault before now OutOfMemory = now ≡ before
IsSaveFault before now _ = ⊥

-- the session over dealt lists was written, from the base of its store on
pub record FeedWrites (settings : Settings) (lists : List (List RecordValue)) (tail : List ℕ) (keeping : SessionKeeping)
    (store old new : Option (List ℕ)) : Type 0 where
  pub base : Option CutValue
  pub begins : GoesOnFrom settings lists store base
  pub represents : GoesOnSoundly lists base (session_opening (asked_shape settings) lists base)
  pub writes : WritesAnswer (IsOverShards (session_opening (asked_shape settings) lists base) settings
      (λ cuts. settings.store ≡ true → keeping (settings_of_store settings) lists cuts []) tail) old new

-- bytes of it were written, before it broke off
pub record FeedWritesPart (settings : Settings) (lists : List (List RecordValue)) (tail : List ℕ)
    (keeping : SessionKeeping) (store old new : Option (List ℕ)) : Type 0 where
  pub base : Option CutValue
  pub begins : GoesOnFrom settings lists store base
  pub represents : GoesOnSoundly lists base (session_opening (asked_shape settings) lists base)
  pub shards : AreSessionShards (asked_shape settings) (session_opening (asked_shape settings) lists base)
  pub writes : WritesAnswer (BeginsSession (session_opening (asked_shape settings) lists base) settings
      (λ saved unfinished. settings.store ≡ true → keeping (settings_of_store settings) lists saved unfinished) tail) old new

-- a store is refused for this fault over dealt lists, and its disk is as before
pub record FeedRefuses (settings : Settings) (lists : List (List RecordValue)) (store : Option (List ℕ))
    (AsBefore : Type 0) (fault : OpenFault) : Type 0 where
  pub used : settings.store ≡ true
  pub as_before : AsBefore
  pub refused : IfImageKnown store (λ image. RefusesOpening (settings_of_store settings) lists image fault)

-- how a report over dealt lists ended, which wrote to a sink, and saved to a disk
module _ {K D : Type 0} (k : SinkOf K) (d : DiskOf D) (settings : Settings) (lists : List (List RecordValue)) (tail : List ℕ)
    (sink written : K) (old new : D) where
  -- nothing was written, and the counts of faults are as before
  abbrev Unwritten : Type 0
  Unwritten = written ≡ sink

  abbrev Faultless : Type 0
  Faultless = round_faults k d written new ≡ round_faults k d sink old

  -- a part of the session was written
  abbrev WritesInPart : Type 0
  WritesInPart =
      FeedWritesPart settings lists tail (AreKeptOnDisk d old new) (d.reads old) (k.taken sink) (k.taken written)

  -- the store is refused for this fault
  abbrev RefusesFor : OpenFault → Type 0
  RefusesFor fault =
      FeedRefuses settings lists (d.reads old) (IsAsBefore d old new) fault × Unwritten × Faultless

  -- it ended with this status
  abbrev pub FeedEnds : Status → Type 0
  FeedEnds Done =
      FeedWrites settings lists tail (AreKeptOnDisk d old new) (d.reads old) (k.taken sink) (k.taken written) × Faultless
  FeedEnds WriteFault = WritesInPart × SinkFailed (round_faults k d sink old) (round_faults k d written new)
  FeedEnds DiskFault =
      ((Unwritten × IsAsBefore d old new) ⊎ WritesInPart)
      × DiskFailed (round_faults k d sink old) (round_faults k d written new)
  FeedEnds NotFormatted = RefusesFor opening.NotFormatted
  FeedEnds (Damaged slot) = RefusesFor (opening.Damaged slot)
  FeedEnds (OtherSettings stored asked) = RefusesFor (opening.OtherSettings stored asked)
  FeedEnds (OtherCapture stored asked) = RefusesFor (opening.OtherCapture stored asked)
  FeedEnds OutOfMemory = ((Unwritten × IsAsBefore d old new) ⊎ WritesInPart) × Faultless
  FeedEnds _ = ⊥

-- shards on a board, within their limits, whose records are not counted further yet, its first pass, and a cut of its
-- shape
pub record IsFeedOpening (shards : List ShardValue) (opened : Opened) : Type 0 where
  pub opening : opened.board.opening ≡ shards
  pub kept : All IsShard shards
  pub pass : IsPassOf opened.board opened.reader.pass
  pub view : view opened.reader.pass ≡ first_view shards
  pub shape : HasCoreShape (length shards) (core_shape shards) opened.reader.cut

-- no shard starts past the end of its list
abbrev pub StartsBefore : List ShardValue → Type 0
StartsBefore opening = (shard : ℕ) → slice_index (session_start opening) shard ≤ slice_index (session_ends opening) shard

-- the reports of the other callers
abbrev pub other_reports : List Called → List (List Reported)
other_reports called = map (λ caller. caller.reports) called

-- the plan of the threads that the settings ask for
abbrev pub feed_plan : Settings → ThreadPlan
feed_plan settings = record {
  workers = settings.workers;
  callers = settings.callers;
  rounds = settings.rounds;
  block = settings.block;
  phi = settings.phi;
  grain = settings.grain;
  capacity = settings.capacity;
}

-- a pass made steps, and split off no other and took in none
abbrev pub MakesSteps : View → View → Type 0
MakesSteps before now = now ≡ record before { trails = now.trails }

-- the threads of this plan were run over a board, with passes that were split off from this view; the calling thread made
-- steps alone
abbrev pub RunsPlan : WordsValue → Settings → View → Gathered → Type 0
RunsPlan board settings before gathered =
    BringBack board.opening (feed_plan settings) MakesSteps before gathered

-- what threads bring back that fed a board to the ends: the calling thread's rounds were written, and the other callers
-- made theirs
pub record IsGathered (board : WordsValue) (settings : Settings) (Kept : List CutValue → Type 0)
    (old new : Option (List ℕ)) (gathered : Gathered) : Type 0 where
  pub pass : IsPassOf board gathered.pass
  pub ends : HasSeenEnds board.opening (view gathered.pass)
  pub rounds : List Reported
  pub are_rounds : AreOfCaller board.opening settings settings.rounds rounds
  pub written : Appends old new (session_parts settings.store rounds)
  pub kept : Kept (saved_cuts settings.store board.opening rounds)
  pub as_many : length gathered.called.items ≡ settings.callers
  pub callers : All (AreOfCaller board.opening settings settings.rounds) (other_reports gathered.called.items)

-- and the cut into which the calling thread read
pub record IsFeedResult (board : WordsValue) (settings : Settings) (Kept : List CutValue → Type 0)
    (old new : Option (List ℕ)) (fed : Fed) : Type 0 where
  pub gathered : IsGathered board settings Kept old new fed.gathered
  pub shape : HasCoreShape (length board.opening) (core_shape board.opening) fed.cut

-- the rest of a session over a board, which ends with the lines `tail`: the last report, which counts all records, the cut
-- that it is of, the text up to it, and the text after it
pub record IsFeedRest (board : WordsValue) (settings : Settings) (called : List Called) (tail : List ℕ) (rest : Rest)
    : Type 0 where
  pub last : Reported
  pub shown : IsShownInSession board.opening settings last
  pub at_ends : last.report.positions ≡ session_ends board.opening
  pub cut_is : rest.cut ≡ cut_at board.opening last.report.positions
  pub front_is : rest.front.items ≡ other_parts (other_reports called) ++ report_text last.report
  pub back_is : rest.back.items ≡ save_line settings.store last.report.positions ++ tail

-- a saver that may save this cut, into the disk as it is
pub record CanSaveCut (reads : Option (List ℕ)) (possible : List ℕ → Type 0) (cut : CutValue) (saver : SaverState)
    : Type 0 where
  pub settings : AreSettings saver.header.settings
  pub stands : DiskMatches reads possible saver
  pub early : saver.sequence + 1 ≤ greatest_sequence
  pub shape : HasCoreShape saver.header.settings.shards (settings_shape saver.header.settings) cut
  pub no_earlier : AreNotPast saver.positions (cut_positions cut)

-- bytes of the calling thread's rounds were written, before they broke off
pub record FeedBreaksOff (opening : List ShardValue) (settings : Settings) (Kept : SessionSaving)
    (old new : Option (List ℕ)) : Type 0 where
  pub front : List ℕ
  pub breaks_off : BreaksOffInRounds opening settings Kept front
  pub written : Appends old new front

-- how the session broke off with a fault: the sink or the disk failed, or memory ran out, which leaves the counts as
-- they were
abbrev pub IsFeedFault : (before now : RoundFaults) → Status → Type 0
IsFeedFault before now WriteFault = SinkFailed before now
IsFeedFault before now DiskFault = DiskFailed before now
IsFeedFault before now OutOfMemory = now ≡ before
IsFeedFault before now _ = ⊥
