-- The reports of a session, by what threads did.
use Rattle.std.proofs.Common.{Bool, false, ⊎_elim, ◌≡◌, ◌∙◌, ◌≤◌, ◌<◌, ◌+◌, ◌⊎◌, inl, inr, ℕ, List, [], ◌∷◌, ◌++◌}
use Rattle.std.proofs.Common.{Option, None, Some, Ok, Err, All, refl, sym, ap, ap₂, subst, arith, length, map}
use Rattle.std.proofs.Common.{append-nil, get_or, take, zero, suc, slice_get}
use Rattle.std.specs.Prelude.{slice_index, ⊤}
use Rattle.std.specs.Result.{IfOk, OnErr}
use Rattle.std.specs.List.Sorted.{IsNonDecreasing}
use Rattle.std.specs.declared.result.Result.{Result}
use Rattle.std.specs.Io.KnownBytes.{Appends}
use Rattle.std.proofs.KnownBytes.{Appends-trans, Appends-nil}
use Rattle.std.proofs.lemmas.List.{length-map, take_more}
use Rattle.std.proofs.lemmas.List.Concat.{flat_map-append}
use Rattle.std.proofs.lemmas.Option.{slice_get_within}
use Rattle.std.proofs.lemmas.Simd.{map-map}
use Rattle.std.proofs.lemmas.List.Elements.{All-map, All-append, All-cons, All-head, All-nil, All-tail}
use Rattle.std.proofs.lemmas.List.Sorted.{IsNonDecreasingBy-short}
use Rattle.shard_state.specs.{BasesRepresent, CutValue, IsShard, ShardValue, core_shape, core_lists, shard_state_at}
use Rattle.hhh_report.specs.{IsSound}
use Rattle.hhh_report.specs.declared.report.Report.{Report}
use Rattle.hhh_report.specs.declared.reports.Reported.{Reported}
use Rattle.pass_tokens.specs.{first_view, newcomer_view, seen_in, view as view_of}
use Rattle.gate_workers.specs.{AreSoundReports, Calls, BringBack, MakesRounds, HasSeenEnds, View, states_at}
use Rattle.gate_workers.specs.declared.gathered.Called.{Called}
use Rattle.gate_workers.specs.declared.gathered.Gathered.{Gathered}
use Rattle.gate_workers.specs.declared.plan.ThreadPlan.{ThreadPlan}
use Rattle.command_words.specs.declared.settings.Settings.{Settings}
use Rattle.report_text.specs.{report_text}
use Rattle.report_session.specs.DealtFeed.{FeedBreaksOff, MakesSteps, other_reports}
use Rattle.report_session.specs.LiveRounds.{BreaksInLine, BreaksInReport, EndRounds, IsInVain, ReportsOnce}
use Rattle.report_session.specs.LiveRounds.{RoundFaults, RoundSide, RoundsBreakOff, WritesRounds}
use Rattle.report_session.specs.Session.{AreOfCaller, BreaksOffAround, IsShownInSession, SessionSaving}
use Rattle.report_session.specs.Session.{rest_after_saves, other_parts, session_ends, session_part, session_parts}
use Rattle.report_session.specs.Session.{saved_cuts, save_line, session_start, asked_shape}
use Rattle.run_status.specs.declared.status.Status.{Status}
use Rattle.run_status.specs.declared.status.Status.TheVariants.{WriteFault, DiskFault, OutOfMemory}
use Rattle.report_session.proofs.RoundLemmas.{IsSoundRound, RoundsFollowRounds, round_makes_report}
use Rattle.report_session.proofs.RoundLemmas.{round_of, saved_cuts-no_rounds}
use Rattle.report_session.proofs.SeenPositionLemmas.{seen_position_report_count, seen_position_before_one_read}

-- a view has seen the positions at which shards start, and no others
abbrev pub HasSessionThreadSeenStarts : List ShardValue → View → Type 0
HasSessionThreadSeenStarts opening view = map (λ trail. trail.seen) view.trails ≡ session_start opening

pub first_session_thread_sees_starts : (opening : List ShardValue) → HasSessionThreadSeenStarts opening (first_view opening)
first_session_thread_sees_starts [] = refl
first_session_thread_sees_starts (shard ∷ rest) = ap (λ positions. shard.position ∷ positions) (first_session_thread_sees_starts rest)

-- so has one that was split off from it
pub new_session_thread_sees_starts : (opening : List ShardValue) (view : View) → HasSessionThreadSeenStarts opening view
    → HasSessionThreadSeenStarts opening (newcomer_view view)
new_session_thread_sees_starts opening view seen = map-map (λ trail. trail.seen) _ view.trails ∙ seen

-- what a caller with such a view reports in its rounds
pub session_thread_reports_of_calls : (opening : List ShardValue) (settings : Settings) (rounds : ℕ) (before now : View)
    (reports : List Reported) → core_shape opening ≡ asked_shape settings → HasSessionThreadSeenStarts opening before
    → Calls opening settings.phi rounds before now reports → (BasesRepresent opening → AreSoundReports opening settings.phi reports)
    → AreOfCaller opening settings rounds reports
session_thread_reports_of_calls opening settings rounds before now reports alike seen calls sound = record {
  as_many = seen_position_report_count opening settings.phi rounds before now reports calls;
  shown = λ k d lt. record {
    is_report = calls.each k d lt;
    is_sound = λ bases.
        subst (λ shape. IsSound shape.grain (get_or reports k d).report (core_lists opening) shape.capacity settings.phi) alike
        (sound bases k d lt);
  };
  never_fall = λ shard inside.
      let many : length (session_start opening) ≡ length opening = length-map opening _ in
      let read : List ℕ = map (λ reads. slice_index (map (λ read. read.position) reads) shard) calls.reads in
      let same : map (λ (reported : Reported). slice_index reported.report.positions shard) reports ≡ read =
      sym (map-map (λ ps. slice_index ps shard) (λ (reported : Reported). reported.report.positions) reports)
      ∙ ap (map (λ ps. slice_index ps shard)) calls.positions ∙ map-map (λ ps. slice_index ps shard) _ calls.reads in
      subst (λ ps. IsNonDecreasing (slice_index (session_start opening) shard ∷ ps)) (sym same)
      (subst (λ positions. IsNonDecreasing (slice_index positions shard ∷ read)) seen
      (calls.never_fall shard (omega (arith, inside, many))));
}

-- rounds over shards of the shape that the settings ask for, by a pass that has seen where the shards start
module _ (opening : List ShardValue) (settings : Settings) (alike : core_shape opening ≡ asked_shape settings)
    (before : RoundSide) (seen : HasSessionThreadSeenStarts opening before.view) where
  -- whole rounds, and nothing more
  session_thread_between_rounds : (Kept : SessionSaving) (Whole : List CutValue → Type 0) (whole : ℕ) (middle : RoundSide)
      (new : Option (List ℕ)) → whole ≤ settings.rounds
      → (made : WritesRounds opening settings.phi settings.store whole before middle Whole) → new ≡ middle.taken
      → Kept (saved_cuts settings.store opening made.reports) [] → FeedBreaksOff opening settings Kept before.taken new
  session_thread_between_rounds Kept Whole whole middle new few made same kept =
      let are : AreOfCaller opening settings whole made.reports =
      session_thread_reports_of_calls opening settings whole before.view middle.view made.reports alike seen made.calls made.sound in
      record {
        front = session_parts settings.store made.reports;
        breaks_off = inl (record {
          rounds = made.reports;
          few = omega (arith, few, are.as_many);
          are_reports = subst (λ n. AreOfCaller opening settings n made.reports) (sym are.as_many) are;
          written = refl;
          kept = kept;
        });
        written = subst (λ o. Appends before.taken o (session_parts settings.store made.reports)) (sym same) made.written;
      }

  module _ (follow : RoundsFollowRounds opening before.view) (now : RoundSide) (Kept : SessionSaving) where
    -- whole rounds, and one more that broke off
    session_thread_breaks_in_round : (status : Status)
        (off : RoundsBreakOff opening settings.phi settings.store settings.rounds before now Kept status)
        (report : Report) (more : List ℕ) → ReportsOnce opening settings.phi off.middle.view now.view report
        → BreaksOffAround (report_text report) (save_line settings.store report.positions)
        (saved_cuts settings.store opening (round_of report ∷ []))
        (rest_after_saves settings.store opening off.written.reports Kept) more
        → Appends off.middle.taken now.taken more → FeedBreaksOff opening settings Kept before.taken now.taken
    session_thread_breaks_in_round status off report more once breaks_off appended =
        let made = off.written in
        let all : List Reported = made.reports ++ round_of report ∷ [] in
        let are : AreOfCaller opening settings (off.whole + 1) all =
        session_thread_reports_of_calls opening settings (off.whole + 1) before.view now.view all alike seen
        (follow settings.phi off.whole 1 off.middle.view now.view made.reports (round_of report ∷ []) made.calls once.calls)
        (λ bases. All-append (IsSoundRound opening settings.phi) made.reports (round_of report ∷ []) (made.sound bases)
        (All-cons (IsSoundRound opening settings.phi) (round_of report) [] (once.sound bases)
        (All-nil (IsSoundRound opening settings.phi)))) in
        let many : length made.reports ≡ off.whole =
        seen_position_report_count opening settings.phi off.whole before.view off.middle.view made.reports made.calls in
        record {
          front = session_parts settings.store made.reports ++ more;
          breaks_off = inr (record {
            rounds = made.reports;
            next = round_of report;
            few = omega (arith, off.few, many);
            are_reports = subst (λ n. AreOfCaller opening settings (n + 1) all) (sym many) are;
            more = more;
            breaks_off = breaks_off;
            written = refl;
          });
          written =
              Appends-trans before.taken off.middle.taken now.taken (session_parts settings.store made.reports) more
              made.written appended;
        }

    -- rounds that broke off: whole ones, and one more that broke off
    session_thread_broken_rounds : (status : Status)
        → RoundsBreakOff opening settings.phi settings.store settings.rounds before now Kept status
        → FeedBreaksOff opening settings Kept before.taken now.taken
    session_thread_broken_rounds WriteFault off =
        let After : SessionSaving = rest_after_saves settings.store opening off.written.reports Kept in
        ⊎_elim (λ (part : BreaksInReport opening settings.phi off.middle now After).
        session_thread_breaks_in_round WriteFault off part.report part.written.front part.reports
        (inl (part.written.is_beginning, part.kept)) part.written.appended)
        (λ (part : BreaksInLine opening settings.phi settings.store off.middle now After).
        let text : List ℕ = report_text part.report in
        let line : List ℕ = part.written.front in
        session_thread_breaks_in_round WriteFault off part.report (text ++ line) part.reports
        (inr (inr (line, (part.written.is_beginning, part.written.cut), refl, part.kept)))
        (Appends-trans off.middle.taken part.between now.taken text line part.whole part.written.appended)) off.broken.0
    session_thread_broken_rounds DiskFault off =
        let unsaved = off.broken.1 in
        session_thread_breaks_in_round DiskFault off unsaved.report (report_text unsaved.report) unsaved.reports
        (inr (inl (
          refl,
          subst (λ store. rest_after_saves settings.store opening off.written.reports Kept []
              (saved_cuts store opening (round_of unsaved.report ∷ []))) (sym off.broken.0) unsaved.kept,
        ))) unsaved.written
    session_thread_broken_rounds OutOfMemory off =
        let whole = off.written in
        let few : off.whole < settings.rounds = off.few in
        ⊎_elim (λ (vain : IsInVain opening off.middle now (rest_after_saves settings.store opening whole.reports Kept)).
        session_thread_between_rounds Kept (λ cuts. ⊤) off.whole off.middle now.taken (omega (arith, few)) whole
        vain.unwritten (subst (λ cuts. Kept cuts []) (append-nil (saved_cuts settings.store opening whole.reports)) vain.kept))
        (λ unsaved.
        session_thread_breaks_in_round OutOfMemory off unsaved.1.report (report_text unsaved.1.report) unsaved.1.reports
        (inl (([], sym (append-nil (report_text unsaved.1.report))), unsaved.1.kept)) unsaved.1.written) off.broken.0
    session_thread_broken_rounds _ off = absurd off.broken

    -- rounds that ended, whole or not. What became of the cuts of whole rounds is also known where they are a part of a
    -- session
    session_thread_ended_rounds : (Whole : List CutValue → Type 0) (stop : Option Status)
        → ((cuts : List CutValue) → Whole cuts → Kept cuts [])
        → EndRounds opening settings.phi settings.store settings.rounds before now Whole Kept stop
        → FeedBreaksOff opening settings Kept before.taken now.taken
    session_thread_ended_rounds Whole None part whole =
        session_thread_between_rounds Kept Whole settings.rounds now now.taken (omega arith) whole refl
        (part (saved_cuts settings.store opening whole.reports) whole.kept)
    session_thread_ended_rounds Whole (Some status) part off = session_thread_broken_rounds status off

-- no round was begun
session_thread_without_round : (opening : List ShardValue) (settings : Settings) (Kept : SessionSaving) (old new : Option (List ℕ))
    → new ≡ old → Kept [] [] → FeedBreaksOff opening settings Kept old new
session_thread_without_round opening settings Kept old new same kept = record {
  front = [];
  breaks_off = inl (record {
    rounds = [];
    few = omega arith;
    are_reports = record {
      as_many = refl;
      shown = All-nil (IsShownInSession opening settings);
      never_fall = λ shard inside. IsNonDecreasingBy-short (λ x. x) (slice_index (session_start opening) shard ∷ []) (omega arith);
    };
    written = refl;
    kept = subst (λ cuts. Kept cuts []) (sym (saved_cuts-no_rounds settings.store opening)) kept;
  });
  written = subst (λ o. Appends old o []) (sym same) (Appends-nil old);
}

-- what the rounds of the calling thread leave, where the threads of a plan were run over a new board, or memory ran out
-- before they were
pub session_threads_leave_rounds : (same : Type 0) (relates : View → View → Type 0) (opening : List ShardValue) (settings : Settings)
    (passes : ℕ) (view : View) (Kept : List CutValue → Type 0) (KeptInPart : SessionSaving) (old new : Option (List ℕ))
    (faults_before faults_now : RoundFaults) (stop : Option Status)
    → view ≡ first_view opening → core_shape opening ≡ asked_shape settings
    → ((before now : View) → relates before now → EndRounds before.opening settings.phi settings.store settings.rounds
    (record { view = before; taken = old; faults = faults_before })
    (record { view = now; taken = new; faults = faults_now }) Kept KeptInPart stop)
    → ((phi rounds more : ℕ) (before middle now : View) (reports later : List Reported)
    → length before.trails ≡ length opening → Calls opening phi rounds before middle reports
    → Calls opening phi more middle now later → Calls opening phi (rounds + more) before now (reports ++ later))
    → ((cuts : List CutValue) → Kept cuts → KeptInPart cuts [])
    → (same → (new ≡ old) × KeptInPart [] []) → same ⊎ MakesRounds relates passes view
    → FeedBreaksOff opening settings KeptInPart old new
session_threads_leave_rounds same relates opening settings passes view Kept KeptInPart old new faults_before faults_now stop first alike
    ends follow part unmoved (inl is_same) =
    session_thread_without_round opening settings KeptInPart old new (unmoved is_same).0 (unmoved is_same).1
session_threads_leave_rounds same relates opening settings passes view Kept KeptInPart old new faults_before faults_now stop first alike
    ends follow part unmoved (inr once) =
    let before : View = record view { splits = view.splits + passes } in
    let seen : HasSessionThreadSeenStarts opening before =
    ap (λ (v : View). map (λ trail. trail.seen) v.trails) first ∙ first_session_thread_sees_starts opening in
    let many : length before.trails ≡ length opening =
    ap (λ (v : View). length v.trails) first ∙ length-map opening _ in
    session_thread_ended_rounds opening settings alike (record { view = before; taken = old; faults = faults_before }) seen
    (λ phi rounds more middle now reports later one two.
    follow phi rounds more before middle now reports later many one two)
    (record { view = once.now; taken = new; faults = faults_now }) KeptInPart Kept stop part
    (subst (λ shards. EndRounds shards settings.phi settings.store settings.rounds
    (record { view = before; taken = old; faults = faults_before })
    (record { view = once.now; taken = new; faults = faults_now }) Kept KeptInPart stop)
    (ap (λ (v : View). v.opening) first) (ends before once.now once.does))

-- either the threads were run, or memory ran out before
pub session_threads_ran_or_not : {E : Type 0} (same : Type 0) (relates : View → View → Type 0) (opening : List ShardValue)
    (plan : ThreadPlan) (view : View) (result : Result Gathered E) → IfOk result (BringBack opening plan relates view)
    → OnErr result (same ⊎ MakesRounds relates (plan.workers + plan.callers) view)
    → same ⊎ MakesRounds relates (plan.workers + plan.callers) view
session_threads_ran_or_not same relates opening plan view (Ok gathered) gathers memory = inr gathers.rounds
session_threads_ran_or_not same relates opening plan view (Err error) gathers memory = memory

pub session_thread_on_err : {T E : Type 0} (result : Result T E) (P : Type 0) → P → OnErr result P
session_thread_on_err (Ok value) P holds = tt
session_thread_on_err (Err error) P holds = holds

-- the share, the rounds and the store that settings ask for
pub session_thread_ended_as_set : (shards : List ShardValue) (share phi made rounds : ℕ) (before now : RoundSide)
    (stored store : Bool) (Kept : List CutValue → Type 0) (KeptInPart : SessionSaving) (stop : Option Status)
    → share ≡ phi → made ≡ rounds → stored ≡ store → EndRounds shards share stored made before now Kept KeptInPart stop
    → EndRounds shards phi store rounds before now Kept KeptInPart stop
session_thread_ended_as_set shards share phi made rounds before now stored store Kept KeptInPart stop same_share same_rounds
    same_store ended =
    subst (λ b. EndRounds shards phi b rounds before now Kept KeptInPart stop) same_store
    (subst (λ n. EndRounds shards phi stored n before now Kept KeptInPart stop) same_rounds
    (subst (λ n. EndRounds shards n stored made before now Kept KeptInPart stop) same_share ended))

-- rounds that were not stopped were all made
pub session_thread_ended_all_rounds : (shards : List ShardValue) (phi rounds : ℕ) (before now : RoundSide) (store : Bool)
    (Kept : List CutValue → Type 0) (KeptInPart : SessionSaving) (stop : Option Status) → stop ≡ None
    → EndRounds shards phi store rounds before now Kept KeptInPart stop
    → WritesRounds shards phi store rounds before now Kept
session_thread_ended_all_rounds shards phi rounds before now store Kept KeptInPart stop none ended =
    subst (EndRounds shards phi store rounds before now Kept KeptInPart) none ended

-- what the threads bring back, where the rounds of the calling thread were all made
pub session_threads_gathered_all : (relates : View → View → Type 0) (opening : List ShardValue) (settings : Settings)
    (plan : ThreadPlan) (view : View) (gathered : Gathered) (Kept : List CutValue → Type 0) (old new : Option (List ℕ))
    (faults_before faults_now : RoundFaults) → view ≡ first_view opening → core_shape opening ≡ asked_shape settings
    → plan.phi ≡ settings.phi → plan.rounds ≡ settings.rounds → plan.callers ≡ settings.callers
    → ((before now : View) → relates before now
    → WritesRounds before.opening settings.phi settings.store settings.rounds
    (record { view = before; taken = old; faults = faults_before })
    (record { view = now; taken = new; faults = faults_now }) Kept) → BringBack opening plan relates view gathered
    → (BasesRepresent opening → All (λ (called : Called). AreSoundReports opening plan.phi called.reports) gathered.called.items)
    → (rounds : List Reported) × AreOfCaller opening settings settings.rounds rounds
    × Appends old new (session_parts settings.store rounds) × (length gathered.called.items ≡ settings.callers)
    × All (AreOfCaller opening settings settings.rounds) (other_reports gathered.called.items)
    × Kept (saved_cuts settings.store opening rounds)
session_threads_gathered_all relates opening settings plan view gathered Kept old new faults_before faults_now first alike phi
    rounds callers ends gathers sound =
    let before : View = record view { splits = view.splits + (plan.workers + plan.callers) } in
    let seen : HasSessionThreadSeenStarts opening view =
    ap (λ (v : View). map (λ trail. trail.seen) v.trails) first ∙ first_session_thread_sees_starts opening in
    let whole : WritesRounds opening settings.phi settings.store settings.rounds
    (record { view = before; taken = old; faults = faults_before })
    (record { view = gathers.rounds.now; taken = new; faults = faults_now }) Kept =
    subst (λ shards. WritesRounds shards settings.phi settings.store settings.rounds
    (record { view = before; taken = old; faults = faults_before })
    (record { view = gathers.rounds.now; taken = new; faults = faults_now }) Kept)
    (ap (λ (v : View). v.opening) first) (ends before gathers.rounds.now gathers.rounds.does) in (
      whole.reports,
      session_thread_reports_of_calls opening settings settings.rounds before gathers.rounds.now whole.reports alike seen whole.calls
          whole.sound,
      whole.written,
      gathers.as_many_callers ∙ callers,
      All-map (AreOfCaller opening settings settings.rounds) (λ (called : Called). called.reports) gathered.called.items
          (λ k d lt.
          let called : Called = get_or gathered.called.items k d in
          let start : View = record view { splits = view.splits + (plan.workers + k) } in
          session_thread_reports_of_calls opening settings settings.rounds (newcomer_view start) (view_of called.pass) called.reports alike
          (new_session_thread_sees_starts opening start seen)
          (subst (λ n. Calls opening settings.phi n (newcomer_view start) (view_of called.pass) called.reports) rounds
          (subst (λ n. Calls opening n plan.rounds (newcomer_view start) (view_of called.pass) called.reports) phi
          (gathers.called k d lt)))
          (λ bases. subst (λ n. AreSoundReports opening n called.reports) phi (sound bases k d lt))),
      whole.kept,
    )

-- rounds that were all made split off no pass, and took in none
pub session_thread_rounds_make_steps : (opening : List ShardValue) (phi rounds : ℕ) (before now : View) (store : Bool)
    (Kept : List CutValue → Type 0) (old new : Option (List ℕ)) (faults_before faults_now : RoundFaults)
    → WritesRounds opening phi store rounds (record { view = before; taken = old; faults = faults_before })
    (record { view = now; taken = new; faults = faults_now }) Kept → MakesSteps before now
session_thread_rounds_make_steps opening phi rounds before now store Kept old new faults_before faults_now written =
    subst (MakesSteps before) (sym written.calls.view) refl

pub session_thread_made_no_step : (before now : View) → now ≡ before → MakesSteps before now
session_thread_made_no_step before now same = subst (MakesSteps before) (sym same) refl

-- what the threads bring back of the plan that was asked for, of which less is said
pub session_threads_ran_as_planned : (relates less : View → View → Type 0) (opening : List ShardValue) (plan asked : ThreadPlan)
    (view : View) (gathered : Gathered) → plan ≡ asked → ((before now : View) → relates before now → less before now)
    → BringBack opening plan relates view gathered → BringBack opening asked less view gathered
session_threads_ran_as_planned relates less opening plan asked view gathered same implies back =
    subst (λ p. BringBack opening p less view gathered) same (record {
      rounds = record { now = back.rounds.now; does = implies _ back.rounds.now back.rounds.does };
      workers = back.workers;
      as_many_workers = back.as_many_workers;
      fed = back.fed;
      pass = back.pass;
      as_many_callers = back.as_many_callers;
      called = back.called;
    })

-- one more report of a caller, none of whose cuts is saved
pub session_thread_adds_report : (reports : List Reported) (index : ℕ) (d : Reported) → index < length reports
    → session_parts false (take (index + 1) reports)
    ≡ session_parts false (take index reports) ++ report_text (get_or reports index d).report
session_thread_adds_report reports index d inside =
    let reported : Reported = get_or reports index d in
    ap (session_parts false) (take_more reports index d inside)
    ∙ flat_map-append (session_part false) (take index reports) (reported ∷ [])
    ∙ ap (λ rest. session_parts false (take index reports) ++ rest)
    (append-nil (session_part false reported) ∙ append-nil (report_text reported.report))

-- the reports of one of several callers
pub session_thread_caller_at_index : (called : List Called) (index : ℕ) (d : Called)
    → get_or (other_reports called) index d.reports ≡ (get_or called index d).reports
session_thread_caller_at_index [] index d = refl
session_thread_caller_at_index (first ∷ rest) zero d = refl
session_thread_caller_at_index (first ∷ rest) (suc index) d = session_thread_caller_at_index rest index d

-- one more caller's reports
pub session_thread_adds_caller : (called : List Called) (index : ℕ) (d : Called) → index < length called
    → other_parts (take (index + 1) (other_reports called))
    ≡ other_parts (take index (other_reports called)) ++ session_parts false (get_or called index d).reports
session_thread_adds_caller called index d inside =
    let callers : List (List Reported) = other_reports called in
    let within : index < length callers = omega (arith, inside, length-map called (λ (caller : Called). caller.reports)) in
    ap other_parts (take_more callers index d.reports within)
    ∙ flat_map-append (session_parts false) (take index callers) (get_or callers index d.reports ∷ [])
    ∙ ap (λ rest. other_parts (take index callers) ++ rest)
    (append-nil (session_parts false (get_or callers index d.reports)) ∙ ap (session_parts false) (session_thread_caller_at_index called index d))

-- positions that are neither before nor past the ends of lists
session_thread_positions_at_ends : (opening : List ShardValue) (positions : List ℕ) → length positions ≡ length opening
    → All IsShard (states_at opening positions)
    → ((shard : ℕ) (state : ShardValue) → slice_get opening shard ≡ Some state
    → length state.list ≤ slice_index positions shard) → positions ≡ session_ends opening
session_thread_positions_at_ends [] [] many kept behind = refl
session_thread_positions_at_ends (shard ∷ rest) (position ∷ positions) many kept behind =
    let is_shard : IsShard (shard_state_at position shard) =
    All-head IsShard (shard_state_at position shard) (states_at rest positions) kept in
    let first : position ≡ length shard.list = omega (arith, is_shard.within, behind 0 shard refl) in
    ap₂ (λ p ps. p ∷ ps) first (session_thread_positions_at_ends rest positions (omega (arith, many))
    (All-tail IsShard (shard_state_at position shard) (states_at rest positions) kept)
    (λ index state is. behind (suc index) state is))
session_thread_positions_at_ends _ _ many kept behind = absurd (omega (arith, many))

-- a report that was read after the ends of all lists were seen is that over all records
pub session_thread_reports_at_ends : (opening : List ShardValue) (settings : Settings) (before now : View) (report : Report)
    → core_shape opening ≡ asked_shape settings → HasSeenEnds opening before
    → Calls opening settings.phi 1 before now (round_of report ∷ [])
    → (BasesRepresent opening → IsSound (core_shape opening).grain report (core_lists opening) (core_shape opening).capacity settings.phi)
    → IsShownInSession opening settings (round_of report) × (report.positions ≡ session_ends opening)
session_thread_reports_at_ends opening settings before now report alike ends calls sound =
    let is_report = round_makes_report opening settings.phi before now report calls in (
      record {
        is_report = is_report;
        is_sound = λ bases.
            subst (λ shape. IsSound shape.grain report (core_lists opening) shape.capacity settings.phi) alike (sound bases);
      },
      session_thread_positions_at_ends opening report.positions is_report.as_many is_report.kept (λ shard state is.
          let seen : length state.list ≤ seen_in shard before = ends shard state is in
          let read = seen_position_before_one_read calls.reads report.positions shard (seen_in shard before) calls.positions
          (calls.never_fall shard (slice_get_within opening shard state is)) in omega (arith, seen, read)),
    )
