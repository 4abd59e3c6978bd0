-- What the rounds of the calling thread write, and what they save.
use Rattle.std.specs.Prelude.{ℕ, ◌≡◌, ◌<◌, ◌⊎◌, ⊤, Bool, true, false, List, [], ◌∷◌, Option, None, Some}
use Rattle.std.specs.Io.KnownBytes.{Appends}
use Rattle.outside_io.specs.{AppendsPart, FaultRose}
use Rattle.outside_io.specs.declared.sink.Sink.{Ghosts as SinkOf}
use Rattle.slot_disk.specs.declared.disk.Disk.{Ghosts as DiskOf}
use Rattle.shard_state.specs.{BasesRepresent, CutValue, ShardValue, core_shape, core_lists}
use Rattle.hhh_report.specs.{IsSound}
use Rattle.hhh_report.specs.declared.report.Report.{Report}
use Rattle.hhh_report.specs.declared.reports.Reported.{Reported}
use Rattle.gate_workers.specs.{AreSoundReports, Calls, ReadsOnce, View}
use Rattle.report_text.specs.{report_text}
use Rattle.report_session.specs.Session.{SessionSaving, rest_after_saves, session_parts, saved_cuts}
use Rattle.report_session.specs.Session.{save_line}
use Rattle.run_status.specs.declared.status.Status.{Status}
use Rattle.run_status.specs.declared.status.Status.TheVariants.{WriteFault, DiskFault, OutOfMemory}

-- counts of faults: of the sink, and of the disk
pub record RoundFaults : Type 0 where
  pub sink : ℕ
  pub disk : ℕ

-- the faults of a sink and of a disk
abbrev pub round_faults : {K D : Type 0} → SinkOf K → DiskOf D → K → D → RoundFaults
round_faults k d sink disk = record { sink = k.faults sink; disk = d.faults disk }

-- one side of rounds, before or after them: what the pass knows, what the sink took, and the counts of faults
pub record RoundSide : Type 0 where
  pub view : View
  pub taken : Option (List ℕ)
  pub faults : RoundFaults

-- the side with this view, over a sink and a disk
abbrev pub round_side : {K D : Type 0} → SinkOf K → DiskOf D → View → K → D → RoundSide
round_side k d view sink disk = record { view = view; taken = k.taken sink; faults = round_faults k d sink disk }

-- the sink failed, and nothing else
pub record SinkFailed (before now : RoundFaults) : Type 0 where
  pub rose : FaultRose before.sink now.sink
  pub disk : now.disk ≡ before.disk

-- the disk failed, and nothing else
pub record DiskFailed (before now : RoundFaults) : Type 0 where
  pub rose : FaultRose before.disk now.disk
  pub sink : now.sink ≡ before.sink

-- rounds of the calling thread, over shards that begin as `opening`
module _ (opening : List ShardValue) where
  -- a round in which memory ran out: each shard was read once, and nothing was written or saved
  pub record IsInVain (before now : RoundSide) (Kept : SessionSaving) : Type 0 where
    pub reads : ReadsOnce opening before.view now.view
    pub unwritten : now.taken ≡ before.taken
    pub kept : Kept [] []

  -- at a share of `phi` parts per million
  module _ (phi : ℕ) where
    -- a round that read each shard once, and whose report began to be written
    pub record ReportsOnce (before now : View) (report : Report) : Type 0 where
      pub calls : Calls opening phi 1 before now (record { report = report; saved = None } ∷ [])
      pub sound : BasesRepresent opening → IsSound (core_shape opening).grain report (core_lists opening) (core_shape opening).capacity phi

    -- a round that was cut short in its report's text: its cut was not saved. Kept says which cuts were saved, and which save
    -- is unfinished
    pub record BreaksInReport (before now : RoundSide) (Kept : SessionSaving) : Type 0 where
      pub report : Report
      pub reports : ReportsOnce before.view now.view report
      pub written : AppendsPart before.taken now.taken (report_text report)
      pub kept : Kept [] []

    -- a round in which the save of the cut failed: the report's text was written whole, and no more. The save is unfinished, or
    -- it was not begun
    pub record WritesUnsaved (before now : RoundSide) (unfinished : Bool) (Kept : SessionSaving) : Type 0 where
      pub report : Report
      pub reports : ReportsOnce before.view now.view report
      pub written : Appends before.taken now.taken (report_text report)
      pub kept : Kept [] (saved_cuts unfinished opening (record { report = report; saved = None } ∷ []))

    -- with a store, or without one
    module _ (store : Bool) where
      -- this many rounds were made whole: in each the calling thread read each shard once, and wrote the report on what it
      -- read; with a store, it saved the cut and wrote its positions. No count of faults rose. Kept says what became of the
      -- cuts that were saved
      pub record WritesRounds (rounds : ℕ) (before now : RoundSide) (Kept : List CutValue → Type 0) : Type 0 where
        pub reports : List Reported
        pub calls : Calls opening phi rounds before.view now.view reports
        pub sound : BasesRepresent opening → AreSoundReports opening phi reports
        pub written : Appends before.taken now.taken (session_parts store reports)
        pub kept : Kept (saved_cuts store opening reports)
        pub faultless : now.faults ≡ before.faults

      -- a round that was cut short in the line of the saved positions: the cut was saved
      pub record BreaksInLine (before now : RoundSide) (Kept : SessionSaving) : Type 0 where
        pub report : Report
        pub reports : ReportsOnce before.view now.view report
        pub between : Option (List ℕ)
        pub whole : Appends before.taken between (report_text report)
        pub written : AppendsPart between now.taken (save_line store report.positions)
        pub kept : Kept (saved_cuts store opening (record { report = report; saved = None } ∷ [])) []

      -- how a round broke off: the sink or the disk failed, and its count of faults rose, or memory ran out before a save, and
      -- the counts are as before
      abbrev pub BreaksRound : (before now : RoundSide) (Kept : SessionSaving) → Status → Type 0
      BreaksRound before now Kept WriteFault =
          (BreaksInReport before now Kept ⊎ BreaksInLine before now Kept) × SinkFailed before.faults now.faults
      BreaksRound before now Kept DiskFault =
          (store ≡ true) × WritesUnsaved before now true Kept × DiskFailed before.faults now.faults
      BreaksRound before now Kept OutOfMemory =
          (IsInVain before now Kept ⊎ ((store ≡ true) × WritesUnsaved before now false Kept))
          × (now.faults ≡ before.faults)
      BreaksRound before now Kept _ = ⊥

      -- the rounds broke off before all were made: some were made whole, and the next one broke off
      pub record RoundsBreakOff (rounds : ℕ) (before now : RoundSide) (Kept : SessionSaving) (status : Status) : Type 0 where
        pub whole : ℕ
        pub few : whole < rounds
        pub middle : RoundSide
        pub written : WritesRounds whole before middle (λ cuts. ⊤)
        pub broken : BreaksRound middle now (rest_after_saves store opening written.reports Kept) status

      -- how the rounds of the calling thread ended: all were made, or one broke off, and its fault is kept
      abbrev pub EndRounds : (rounds : ℕ) (before now : RoundSide) (Kept : List CutValue → Type 0)
          (KeptInPart : SessionSaving) → Option Status → Type 0
      EndRounds rounds before now Kept KeptInPart None = WritesRounds rounds before now Kept
      EndRounds rounds before now Kept KeptInPart (Some status) = RoundsBreakOff rounds before now KeptInPart status
