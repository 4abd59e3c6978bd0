-- The rounds of the calling thread, and the texts of their reports.
use Rattle.std.proofs.Common.{◌≡◌, ◌∙◌, ◌≤◌, ◌<◌, ◌+◌, ℕ, List, [], ◌∷◌, ◌++◌, Option, None, Some, All, refl, sym, ap}
use Rattle.std.proofs.Common.{subst, arith, Bool, true, false, ◌⊎◌, inl, inr, ⊎_elim, ap₂, Ok, Err, length, append-nil}
use Rattle.std.specs.Prelude.{is_some, option_map}
use Rattle.std.specs.Result.{IfErr, IsErrAnd}
use Rattle.std.specs.declared.result.Result.{Result}
use Rattle.outside_io.specs.{FaultRose}
use Rattle.std.specs.Io.KnownBytes.{Appends}
use Rattle.std.proofs.KnownBytes.{Appends-trans, Appends-nil}
use Rattle.std.proofs.lemmas.List.Concat.{flat_map-append}
use Rattle.std.proofs.lemmas.List.Elements.{All-nil, All-cons, All-head, All-tail, All-append}
use Rattle.shard_state.specs.{AreCoreShards, CutValue, IsShard, ShardValue, core_shape}
use Rattle.shard_state.specs.{core_lists, shard_state_at}
use Rattle.prefix_lattice.specs.{record_limit}
use Rattle.hhh_report.specs.{IsSound}
use Rattle.hhh_report.specs.declared.report.Report.{Report}
use Rattle.hhh_report.specs.declared.reports.Reported.{Reported}
use Rattle.gate_workers.specs.{Calls, IsCoreReport, ReadsOnce, View, states_at}
use Rattle.report_text.specs.{ShowsPositions}
use Rattle.report_session.specs.DealtFeed.{IsSaveFault}
use Rattle.report_session.specs.LiveRounds.{BreaksInLine, BreaksInReport, BreaksRound, EndRounds, IsInVain}
use Rattle.report_session.specs.LiveRounds.{ReportsOnce, RoundSide, RoundsBreakOff, WritesRounds, WritesUnsaved}
use Rattle.report_session.specs.Session.{SessionSaving, rest_after_saves, session_part, session_parts, saved_cuts}
use Rattle.run_status.specs.declared.status.Status.{Status}
use Rattle.run_status.specs.declared.status.Status.TheVariants.{WriteFault, DiskFault, OutOfMemory}
use Rattle.report_session.proofs.SaveLemmas.{saved_cuts-append_saves}

-- positions within the lists of shards are positions that a text can show
round_positions_are_within : (opening : List ShardValue) (positions : List ℕ) → length positions ≡ length opening
    → All IsShard (states_at opening positions) → All (λ position. position ≤ record_limit) positions
round_positions_are_within [] [] many kept = All-nil (λ position. position ≤ record_limit)
round_positions_are_within (shard ∷ rest) (position ∷ positions) many kept =
    let is_shard : IsShard (shard_state_at position shard) =
    All-head IsShard (shard_state_at position shard) (states_at rest positions) kept in
    All-cons (λ position. position ≤ record_limit) position positions (omega (arith, is_shard.few, is_shard.within))
    (round_positions_are_within rest positions (omega (arith, many))
    (All-tail IsShard (shard_state_at position shard) (states_at rest positions) kept))
round_positions_are_within _ _ many kept = absurd (omega (arith, many))

pub round_report_has_positions : (opening : List ShardValue) (phi : ℕ) (report : Report) → AreCoreShards opening
    → IsCoreReport opening phi report → ShowsPositions report.positions
round_report_has_positions opening phi report shards at = record {
  some = subst (λ n. 1 ≤ n) (sym at.as_many) shards.some;
  few = subst (λ n. n ≤ 16) (sym at.as_many) shards.few;
  within = round_positions_are_within opening report.positions at.as_many at.kept;
}

-- a report of which no line of saved positions was written
abbrev pub round_of : Report → Reported
round_of report = record { report = report; saved = None }

-- the report of one round
pub round_makes_report : (opening : List ShardValue) (phi : ℕ) (before now : View) (report : Report)
    → Calls opening phi 1 before now (round_of report ∷ []) → IsCoreReport opening phi report
round_makes_report opening phi before now report calls =
    All-head (λ (reported : Reported). IsCoreReport opening phi reported.report) (round_of report) [] calls.each

-- no report, no saved cut
pub saved_cuts-no_rounds : (store : Bool) (opening : List ShardValue) → saved_cuts store opening [] ≡ []
saved_cuts-no_rounds false opening = refl
saved_cuts-no_rounds true opening = refl

-- rounds that follow rounds of the same pass are rounds
abbrev pub RoundsFollowRounds : List ShardValue → View → Type 0
RoundsFollowRounds opening before = (phi rounds more : ℕ) (middle now : View) (reports later : List Reported)
    → Calls opening phi rounds before middle reports → Calls opening phi more middle now later
    → Calls opening phi (rounds + more) before now (reports ++ later)

-- what is said of saves says less
abbrev pub RoundSavesImply : SessionSaving → SessionSaving → Type 0
RoundSavesImply Kept Less = (saved unfinished : List CutValue) → Kept saved unfinished → Less saved unfinished

-- the report of a round is sound
abbrev pub IsSoundRound : List ShardValue → ℕ → Reported → Type 0
IsSoundRound opening phi reported =
    IsSound (core_shape opening).grain reported.report (core_lists opening) (core_shape opening).capacity phi

-- rounds over shards, at a share, with a store or without one
module _ (opening : List ShardValue) (phi : ℕ) (store : Bool) where
  -- one round that was written whole
  pub writes_one_round : (before now : RoundSide) (Kept : List CutValue → Type 0) (report : Report)
      → ReportsOnce opening phi before.view now.view report
      → Appends before.taken now.taken (session_part store (round_of report))
      → Kept (saved_cuts store opening (round_of report ∷ [])) → now.faults ≡ before.faults
      → WritesRounds opening phi store 1 before now Kept
  writes_one_round before now Kept report once written kept faultless = record {
    reports = round_of report ∷ [];
    calls = once.calls;
    sound = λ bases.
        All-cons (IsSoundRound opening phi) (round_of report) [] (once.sound bases) (All-nil (IsSoundRound opening phi));
    written = subst (Appends before.taken now.taken) (sym (append-nil (session_part store (round_of report)))) written;
    kept = kept;
    faultless = faultless;
  }

  -- at first no round was made
  pub writes_no_round : (now : RoundSide) (Kept : List CutValue → Type 0) → Calls opening phi 0 now.view now.view []
      → Kept [] → WritesRounds opening phi store 0 now now Kept
  writes_no_round now Kept calls kept = record {
    reports = [];
    calls = calls;
    sound = λ bases. All-nil (IsSoundRound opening phi);
    written = Appends-nil now.taken;
    kept = subst Kept (sym (saved_cuts-no_rounds store opening)) kept;
    faultless = refl;
  }

  -- rounds, and more of them
  pub writes_more_rounds : (share rounds more : ℕ) (before middle now : RoundSide) (stored : Bool)
      (First Second Both : List CutValue → Type 0) → share ≡ phi → stored ≡ store → RoundsFollowRounds opening before.view
      → ((cuts later : List CutValue) → First cuts → Second later → Both (cuts ++ later))
      → WritesRounds opening phi store rounds before middle First
      → WritesRounds opening share stored more middle now Second
      → WritesRounds opening phi store (rounds + more) before now Both
  writes_more_rounds share rounds more before middle now stored First Second Both same_share same_store follow both one
      later =
      let two : WritesRounds opening phi store more middle now Second =
      subst (λ b. WritesRounds opening phi b more middle now Second) same_store
      (subst (λ n. WritesRounds opening n stored more middle now Second) same_share later) in record {
        reports = one.reports ++ two.reports;
        calls = follow phi rounds more middle.view now.view one.reports two.reports one.calls two.calls;
        sound = λ bases.
            All-append (IsSoundRound opening phi) one.reports two.reports (one.sound bases) (two.sound bases);
        written =
            subst (Appends before.taken now.taken)
            (sym (flat_map-append (session_part store) one.reports two.reports))
            (Appends-trans before.taken middle.taken now.taken (session_parts store one.reports)
            (session_parts store two.reports) one.written two.written);
        kept =
            subst Both (sym (saved_cuts-append_saves store opening one.reports two.reports))
            (both (saved_cuts store opening one.reports) (saved_cuts store opening two.reports) one.kept two.kept);
        faultless = two.faultless ∙ one.faultless;
      }

  -- all rounds were made, for the shards that a view names
  pub all_rounds_were_made : (shards : List ShardValue) (made rounds : ℕ) (before now : RoundSide)
      (Kept : List CutValue → Type 0) (KeptInPart : SessionSaving) (stop : Option Status)
      → shards ≡ opening → stop ≡ None → made ≡ rounds → WritesRounds opening phi store made before now Kept
      → EndRounds shards phi store rounds before now Kept KeptInPart stop
  all_rounds_were_made shards made rounds before now Kept KeptInPart stop same none all written =
      subst (EndRounds shards phi store rounds before now Kept KeptInPart) (sym none)
      (subst (λ ss. WritesRounds ss phi store rounds before now Kept) (sym same)
      (subst (λ n. WritesRounds opening phi store n before now Kept) all written))

  -- a round whose cut wasn't saved, of which less is said
  unsaved_round_says_less : (before now : RoundSide) (unfinished : Bool) (Kept Less : SessionSaving)
      → RoundSavesImply Kept Less → WritesUnsaved opening phi before now unfinished Kept
      → WritesUnsaved opening phi before now unfinished Less
  unsaved_round_says_less before now unfinished Kept Less less unsaved = record {
    report = unsaved.report;
    reports = unsaved.reports;
    written = unsaved.written;
    kept = less [] (saved_cuts unfinished opening (round_of unsaved.report ∷ [])) unsaved.kept;
  }

  -- a round that broke off, of which less is said
  broken_round_says_less : (before now : RoundSide) (Kept Less : SessionSaving) (status : Status)
      → RoundSavesImply Kept Less → BreaksRound opening phi store before now Kept status
      → BreaksRound opening phi store before now Less status
  broken_round_says_less before now Kept Less WriteFault less broken = (
    ⊎_elim (λ (part : BreaksInReport opening phi before now Kept). inl (record {
      report = part.report;
      reports = part.reports;
      written = part.written;
      kept = less [] [] part.kept;
    })) (λ (part : BreaksInLine opening phi store before now Kept). inr (record {
      report = part.report;
      reports = part.reports;
      between = part.between;
      whole = part.whole;
      written = part.written;
      kept = less (saved_cuts store opening (round_of part.report ∷ [])) [] part.kept;
    })) broken.0,
    broken.1,
  )
  broken_round_says_less before now Kept Less DiskFault less broken =
      (broken.0, unsaved_round_says_less before now true Kept Less less broken.1, broken.2)
  broken_round_says_less before now Kept Less OutOfMemory less broken = (
    ⊎_elim (λ (vain : IsInVain opening before now Kept).
        inl (record { reads = vain.reads; unwritten = vain.unwritten; kept = less [] [] vain.kept }))
        (λ unsaved. inr (unsaved.0, unsaved_round_says_less before now false Kept Less less unsaved.1)) broken.0,
    broken.1,
  )
  broken_round_says_less before now Kept Less _ less broken = absurd broken

  -- rounds that ended, of whose saves less is said where they broke off
  pub ended_rounds_say_less : (rounds : ℕ) (before now : RoundSide) (Kept : List CutValue → Type 0)
      (KeptInPart Less : SessionSaving) (stop : Option Status)
      → EndRounds opening phi store rounds before now Kept KeptInPart stop → RoundSavesImply KeptInPart Less
      → EndRounds opening phi store rounds before now Kept Less stop
  ended_rounds_say_less rounds before now Kept KeptInPart Less None ended less = ended
  ended_rounds_say_less rounds before now Kept KeptInPart Less (Some status) off less = record {
    whole = off.whole;
    few = off.few;
    middle = off.middle;
    written = off.written;
    broken =
        broken_round_says_less off.middle now (rest_after_saves store opening off.written.reports KeptInPart)
        (rest_after_saves store opening off.written.reports Less) status
        (λ saved. less (saved_cuts store opening off.written.reports ++ saved)) off.broken;
  }

  -- a round broke off
  pub one_round_broke_off : (shards : List ShardValue) (share made rounds : ℕ) (before middle now : RoundSide)
      (stored : Bool) (Kept : List CutValue → Type 0) (KeptInRound KeptInPart : SessionSaving) (status : Status)
      → shards ≡ opening → share ≡ phi → stored ≡ store → made < rounds
      → ((cuts saved unfinished : List CutValue) → Kept cuts → KeptInRound saved unfinished
      → KeptInPart (cuts ++ saved) unfinished) → WritesRounds opening phi store made before middle Kept
      → BreaksRound opening share stored middle now KeptInRound status
      → RoundsBreakOff shards phi store rounds before now KeptInPart status
  one_round_broke_off shards share made rounds before middle now stored Kept KeptInRound KeptInPart status same same_share
      same_store few both written broken =
      subst (λ ss. RoundsBreakOff ss phi store rounds before now KeptInPart status) (sym same) (record {
        whole = made;
        few = few;
        middle = middle;
        written = record {
          reports = written.reports;
          calls = written.calls;
          sound = written.sound;
          written = written.written;
          kept = tt;
          faultless = written.faultless;
        };
        broken =
            broken_round_says_less middle now KeptInRound (rest_after_saves store opening written.reports KeptInPart) status
            (λ saved unfinished. both (saved_cuts store opening written.reports) saved unfinished written.kept)
            (subst (λ b. BreaksRound opening phi b middle now KeptInRound status) same_store
            (subst (λ n. BreaksRound opening n stored middle now KeptInRound status) same_share broken));
      })

  -- the sink failed in a round
  pub round_broken_by_sink : (before now : RoundSide) (Kept : SessionSaving) (between : ℕ) (status : Status)
      → (status ≡ WriteFault) × FaultRose between now.faults.sink → between ≡ before.faults.sink
      → now.faults.disk ≡ before.faults.disk
      → BreaksInReport opening phi before now Kept ⊎ BreaksInLine opening phi store before now Kept
      → BreaksRound opening phi store before now Kept status
  round_broken_by_sink before now Kept between status failed earlier same part =
      subst (BreaksRound opening phi store before now Kept) (sym failed.0)
      (part, record { rose = subst (λ n. FaultRose n now.faults.sink) earlier failed.1; disk = same })

  -- the cut of a round wasn't saved
  pub round_broken_at_saving : (before now : RoundSide) (Kept : SessionSaving) (status : Status)
      → store ≡ true → IsSaveFault before.faults.disk now.faults.disk status → now.faults.sink ≡ before.faults.sink
      → (status ≡ DiskFault → WritesUnsaved opening phi before now true Kept)
      → (status ≡ OutOfMemory → WritesUnsaved opening phi before now false Kept)
      → BreaksRound opening phi store before now Kept status
  round_broken_at_saving before now Kept DiskFault used fault same unsaved untouched =
      (used, unsaved refl, record { rose = fault; sink = same })
  round_broken_at_saving before now Kept OutOfMemory used fault same unsaved untouched =
      (inr (used, untouched refl), ap₂ (λ s d. record { sink = s; disk = d }) same fault)
  round_broken_at_saving before now Kept _ used fault same unsaved untouched = absurd fault

  -- memory ran out before a round was written
  pub round_broken_by_memory : {T : Type 0} (result : Result T Status) (before now : RoundSide) (Kept : SessionSaving)
      → IsErrAnd result (λ status. status ≡ OutOfMemory) → ReadsOnce opening before.view now.view
      → now.taken ≡ before.taken → now.faults ≡ before.faults → Kept [] []
      → IfErr result (BreaksRound opening phi store before now Kept)
  round_broken_by_memory (Ok value) before now Kept none reads unwritten same kept = tt
  round_broken_by_memory (Err status) before now Kept is reads unwritten same kept =
      subst (BreaksRound opening phi store before now Kept) (sym is)
      (inl (record { reads = reads; unwritten = unwritten; kept = kept }), same)

-- there is a saver after exactly if there was one before
pub round_saver_stays_or_none : {A : Type 0} (before after : Option A) (f : A → A) → after ≡ option_map f before
    → is_some after ≡ is_some before
round_saver_stays_or_none None after f is = ap is_some is
round_saver_stays_or_none (Some x) after f is = ap is_some is
