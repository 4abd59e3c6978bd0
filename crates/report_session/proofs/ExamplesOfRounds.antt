-- Worked examples of the rounds of the calling thread, and of the feed around them, over four shards without records.
use Rattle.std.proofs.Common.{◌≡◌, ◌≤◌, ℕ, zero, suc, List, [], ◌∷◌, Some, None, length, refl, sym, ap, subst}
use Rattle.std.proofs.Common.{codes, arith, Bool, true, false, inl, inr, ◌∙◌, append-nil, get_or, replicate}
use Rattle.std.specs.Fmt.{digits}
use Rattle.std.proofs.lemmas.List.Elements.{All-nil, All-cons, All-from_recursion}
use Rattle.std.proofs.lemmas.Option.{same_Some}
use Rattle.std.specs.Prelude.{⊤, All, slice_get}
use Rattle.shard_state.specs.{CutValue, ShardValue}
use Rattle.hhh_report.specs.{IsSound}
use Rattle.hhh_report.specs.declared.reports.Reported.{Reported}
use Rattle.pass_tokens.specs.{IsOddWord, SeatValue, ShardRead, WordsValue, after_reads, first_view}
use Rattle.gate_workers.specs.{Calls, HasSeenEnds, IsCoreReport, ReadsOnce, View, cut_at}
use Rattle.gate_workers.specs.declared.gathered.Gathered.{Gathered}
use Rattle.report_text.specs.{tail_text}
use Rattle.report_session.specs.Session.{AreOfCaller, BreaksOffInRounds, SessionSaving, saved_cuts, session_part}
use Rattle.report_session.specs.Session.{session_parts}
use Rattle.report_session.specs.LiveRounds.{BreaksRound, DiskFailed, EndRounds, RoundFaults, RoundSide, RoundsBreakOff}
use Rattle.report_session.specs.LiveRounds.{IsInVain, ReportsOnce, SinkFailed, BreaksInLine}
use Rattle.report_session.specs.LiveRounds.{BreaksInReport, WritesRounds, WritesUnsaved}
use Rattle.report_session.specs.DealtFeed.{IsFeedCapture, IsFeedFault, IsFeedResult, IsGathered, IsFeedOpening}
use Rattle.report_session.specs.DealtFeed.{IsSaveFault, StartsBefore, FeedBreaksOff, other_reports}
use Rattle.report_session.specs.declared.session.Opened.{Opened}
use Rattle.report_session.specs.declared.feed.Fed.{Fed}
use Rattle.run_status.specs.declared.status.Status.TheVariants.{Done, BadWords, ReadFault, WriteFault, DiskFault}
use Rattle.run_status.specs.declared.status.Status.TheVariants.{OutOfMemory}
use Rattle.command_words.specs.declared.words_kind.WordsKind.TheVariants.{NoCommand}
use Rattle.report_session.proofs.RoundLemmas.{saved_cuts-no_rounds}
use Rattle.report_session.proofs.OpeningShardLemmas.{new_opening_shards_before_ends}
use Rattle.report_session.proofs.Examples.{header, two_lists, two_shards}
use Rattle.report_session.proofs.ExamplesOfSessions.{broken_off_in_a_round, dealt_from_the_header, in_turn, last, lists}
use Rattle.report_session.proofs.ExamplesOfSessions.{no_reports, nothing_is_sound, once_more, one_number, opening}
use Rattle.report_session.proofs.ExamplesOfSessions.{records, report, report_at_the_ends, running, saves_nothing}
use Rattle.report_session.proofs.ExamplesOfSessions.{session_shards, settings, shard}
use Rattle.prefix_lattice.specs.declared.grain.Grain.TheVariants.{Byte}

-- what the calling thread knows before its first round
abbrev first : View
first = first_view opening

-- counts of faults: as before, and where the sink or the disk failed since
abbrev pub calm : RoundFaults
calm = record { sink = 3; disk = 3 }

abbrev pub sink_rose : RoundFaults
sink_rose = record { sink = 4; disk = 3 }

abbrev pub disk_rose : RoundFaults
disk_rose = record { sink = 3; disk = 4 }

pub sink_failed : SinkFailed calm sink_rose
sink_failed = record { rose = omega arith; disk = refl }

pub disk_failed : DiskFailed calm disk_rose
disk_failed = record { rose = omega arith; sink = refl }

pub disk_did_not_fail : DiskFailed calm sink_rose → ⊥
disk_did_not_fail failed = omega (arith, failed.rose)

-- before the first round
abbrev at_first : RoundSide
at_first = record { view = first; taken = Some []; faults = calm }

-- no cut was saved
abbrev none_saved : List CutValue → Type 0
none_saved cuts = cuts ≡ []

-- no round was made

no_calls : Calls opening 10000 0 first first []
no_calls = record {
  reads = [];
  as_many = refl;
  odd = All-nil _;
  view = refl;
  positions = refl;
  never_fall = λ place inside. one_number _;
  each = All-nil _;
  unsaved = All-nil _;
}

no_round_with : (store : Bool) (Kept : List CutValue → Type 0) → Kept [] → WritesRounds opening 10000 store 0 at_first at_first Kept
no_round_with store Kept kept = record {
  reports = [];
  calls = no_calls;
  sound = λ bases. All-nil _;
  written = refl;
  kept = subst Kept (sym (saved_cuts-no_rounds store opening)) kept;
  faultless = refl;
}

pub no_round_of_none : EndRounds opening 10000 false 0 at_first at_first none_saved saves_nothing None
no_round_of_none = no_round_with false none_saved refl

-- a fault would have ended them
pub fault_without_a_stop :
    EndRounds opening 10000 false 0 at_first (record at_first { faults = sink_rose }) none_saved saves_nothing None → ⊥
fault_without_a_stop ended =
    let same : 4 ≡ 3 = ap (λ (faults : RoundFaults). faults.sink) ended.faultless in omega (arith, same)

-- ---- a round

-- each shard was read once, at 0, and no take lost
abbrev at_start : ShardRead
at_start = record { losses = []; position = 0 }

abbrev reads : List ShardRead
reads = at_start ∷ at_start ∷ at_start ∷ at_start ∷ []

abbrev after_one : View
after_one = record first { trails = after_reads first.trails reads }

-- then these bytes were taken, with these counts of faults
abbrev took : List ℕ → RoundFaults → RoundSide
took text faults = record { view = after_one; taken = Some text; faults = faults }

no_losses : All (λ (read : ShardRead). All IsOddWord read.losses) reads
no_losses =
    All-from_recursion (λ (read : ShardRead). All IsOddWord read.losses) reads
    (All-nil IsOddWord, (All-nil IsOddWord, (All-nil IsOddWord, (All-nil IsOddWord, tt))))

one_call : Calls opening 10000 1 first after_one (last ∷ [])
one_call = record {
  reads = reads ∷ [];
  as_many = refl;
  odd = All-cons (λ (round : List ShardRead). All (λ read. All IsOddWord read.losses) round) reads [] no_losses (All-nil _);
  view = refl;
  positions = refl;
  never_fall = λ place inside. once_more _ [] (one_number _);
  each =
      All-cons (λ (reported : Reported). IsCoreReport opening 10000 reported.report) last [] report_at_the_ends
      (All-nil _);
  unsaved = All-cons (λ (reported : Reported). reported.saved ≡ None) last [] refl (All-nil _);
}

last_is_sound : All (λ (reported : Reported). IsSound Byte reported.report lists 512 10000) (last ∷ [])
last_is_sound =
    All-cons (λ (reported : Reported). IsSound Byte reported.report lists 512 10000) last [] nothing_is_sound (All-nil _)

one_round_with : (store : Bool) (Kept : List CutValue → Type 0) → Kept (saved_cuts store opening (last ∷ []))
    → WritesRounds opening 10000 store 1 at_first (took (session_part store last) calm) Kept
one_round_with store Kept kept = record {
  reports = last ∷ [];
  calls = one_call;
  sound = λ bases. last_is_sound;
  written = sym (append-nil (session_part store last));
  kept = kept;
  faultless = refl;
}

pub one_round_is_written : WritesRounds opening 10000 false 1 at_first (took (session_part false last) calm) none_saved
one_round_is_written = one_round_with false none_saved refl

pub one_round_of_one :
    EndRounds opening 10000 false 1 at_first (took (session_part false last) calm) none_saved saves_nothing None
one_round_of_one = one_round_is_written

-- with a store the cut at the positions of the report is saved, and they are written
abbrev one_saved : List CutValue → Type 0
one_saved cuts = cuts ≡ cut_at opening (0 ∷ 0 ∷ 0 ∷ 0 ∷ []) ∷ []

pub one_round_is_saved : WritesRounds opening 10000 true 1 at_first (took (session_part true last) calm) one_saved
one_round_is_saved = one_round_with true one_saved refl

-- ---- a round that broke off

pub report_of_one_round : ReportsOnce opening 10000 first after_one report
report_of_one_round = record { calls = one_call; sound = λ bases. nothing_is_sound }

-- a sink with room for 7 bytes took the first line of the report
pub report_in_part : BreaksInReport opening 10000 at_first (took (codes "report\n") sink_rose) saves_nothing
unfolding digits
report_in_part = record {
  report = report;
  reports = report_of_one_round;
  written = record {
    front = codes "report\n";
    is_beginning = (codes "at 0 0 0 0\ntotal 0\nthreshold 1\ndone\n", refl);
    cut = omega arith;
    appended = refl;
  };
  kept = (refl, refl);
}

-- of the line of the saved positions none may be written, though the cut was saved
abbrev saved_the_one : SessionSaving
saved_the_one saved unfinished = one_saved saved × (unfinished ≡ [])

pub line_in_part : BreaksInLine opening 10000 true at_first (took (session_part false last) sink_rose) saved_the_one
unfolding digits
line_in_part = record {
  report = report;
  reports = report_of_one_round;
  between = Some (session_part false last);
  whole = refl;
  written = record {
    front = [];
    is_beginning = (codes "saved 0 0 0 0\n", refl);
    cut = omega arith;
    appended = refl;
  };
  kept = (refl, refl);
}

-- and where the disk fails, the save is unfinished
abbrev unfinished_the_one : SessionSaving
unfinished_the_one saved unfinished = (saved ≡ []) × one_saved unfinished

pub unsaved_round : WritesUnsaved opening 10000 at_first (took (session_part false last) disk_rose) true unfinished_the_one
unfolding digits
unsaved_round = record { report = report; reports = report_of_one_round; written = refl; kept = (refl, refl) }

-- a save that was made is none that is unfinished
pub saved_round_is_not_unsaved :
    WritesUnsaved opening 10000 at_first (took (session_part false last) disk_rose) true saved_the_one → ⊥
saved_round_is_not_unsaved unsaved = cc unsaved.kept.1

-- where memory ran out, it was not begun
pub round_not_saved : WritesUnsaved opening 10000 at_first (took (session_part false last) calm) false saves_nothing
unfolding digits
round_not_saved = record { report = report; reports = report_of_one_round; written = refl; kept = (refl, refl) }

pub each_shard_was_read_once : ReadsOnce opening first after_one
each_shard_was_read_once = record { reads = reads; as_many = refl; odd = no_losses; view = refl }

pub round_in_vain : IsInVain opening at_first (took [] calm) saves_nothing
round_in_vain = record { reads = each_shard_was_read_once; unwritten = refl; kept = (refl, refl) }

pub round_in_vain_writes_nothing : IsInVain opening at_first (took (codes "report\n") calm) saves_nothing → ⊥
round_in_vain_writes_nothing vain = cc vain.unwritten

pub sink_breaks_a_round : BreaksRound opening 10000 false at_first (took (codes "report\n") sink_rose) saves_nothing
    WriteFault
sink_breaks_a_round = (inl report_in_part, sink_failed)

pub sink_breaks_the_line :
    BreaksRound opening 10000 true at_first (took (session_part false last) sink_rose) saved_the_one WriteFault
sink_breaks_the_line = (inr line_in_part, sink_failed)

-- a sink that failed has counted it
pub sink_that_did_not_fail :
    BreaksRound opening 10000 false at_first (took (codes "report\n") calm) saves_nothing WriteFault → ⊥
sink_that_did_not_fail breaks = omega (arith, breaks.1.rose)

pub disk_breaks_a_round :
    BreaksRound opening 10000 true at_first (took (session_part false last) disk_rose) unfinished_the_one DiskFault
disk_breaks_a_round = (refl, unsaved_round, disk_failed)

-- without a store no disk is written to
pub disk_breaks_no_round_without_a_store :
    BreaksRound opening 10000 false at_first (took (session_part false last) disk_rose) unfinished_the_one DiskFault → ⊥
disk_breaks_no_round_without_a_store breaks = cc breaks.0

pub memory_breaks_a_round : BreaksRound opening 10000 false at_first (took [] calm) saves_nothing OutOfMemory
memory_breaks_a_round = (inl round_in_vain, refl)

-- memory may also run out in a save
pub memory_breaks_a_save : BreaksRound opening 10000 true at_first (took (session_part false last) calm) saves_nothing
    OutOfMemory
memory_breaks_a_save = (inr (refl, round_not_saved), refl)

-- then no save was made, or begun
pub memory_ran_out_after_a_save :
    BreaksRound opening 10000 true at_first (took (session_part false last) calm) saved_the_one OutOfMemory → ⊥
memory_ran_out_after_a_save (inl vain, same) = cc vain.kept.0
memory_ran_out_after_a_save (inr unsaved, same) = cc unsaved.1.kept.0

pub success_breaks_no_round : BreaksRound opening 10000 false at_first (took [] calm) saves_nothing Done → ⊥
success_breaks_no_round breaks = breaks

pub source_breaks_no_round : BreaksRound opening 10000 false at_first (took [] sink_rose) saves_nothing ReadFault → ⊥
source_breaks_no_round breaks = breaks

-- the first of two rounds broke off
pub first_round_broke_off :
    RoundsBreakOff opening 10000 false 2 at_first (took (codes "report\n") sink_rose) saves_nothing WriteFault
first_round_broke_off = record {
  whole = 0;
  few = omega arith;
  middle = at_first;
  written = no_round_with false (λ cuts. ⊤) tt;
  broken = sink_breaks_a_round;
}

pub no_round_breaks_off :
    RoundsBreakOff opening 10000 false 0 at_first (took (codes "report\n") sink_rose) saves_nothing WriteFault → ⊥
no_round_breaks_off breaks = omega (arith, breaks.few)

pub two_rounds_ended_in_the_first :
    EndRounds opening 10000 false 2 at_first (took (codes "report\n") sink_rose) none_saved saves_nothing
    (Some WriteFault)
two_rounds_ended_in_the_first = first_round_broke_off

-- ---- the feed

pub dealt_capture : IsFeedCapture settings in_turn (Some header) lists (tail_text records)
dealt_capture = record { records = records; dealt = dealt_from_the_header; as_many = refl; is_tail = refl }

pub two_shards_start_before_their_ends : StartsBefore two_shards
two_shards_start_before_their_ends = new_opening_shards_before_ends (record { grain = Byte; capacity = 512 }) two_lists

-- a shard of no record can't have counted one
pub shard_past_its_end : StartsBefore (record shard { position = 1 } ∷ []) → ⊥
shard_past_its_end starts = let start : 1 ≤ 0 = starts 0 in omega (arith, start)

pub fault_of_the_sink : IsFeedFault calm sink_rose WriteFault
fault_of_the_sink = sink_failed

pub fault_without_a_count : IsFeedFault calm calm WriteFault → ⊥
fault_without_a_count failed = omega (arith, failed.rose)

pub fault_of_the_disk : IsFeedFault calm disk_rose DiskFault
fault_of_the_disk = disk_failed

-- a fault of the disk isn't reported as one of the sink
pub fault_of_the_other : IsFeedFault calm disk_rose WriteFault → ⊥
fault_of_the_other failed = omega (arith, failed.rose)

pub want_of_memory : IsFeedFault calm calm OutOfMemory
want_of_memory = refl

pub want_of_memory_counts_no_fault : IsFeedFault calm sink_rose OutOfMemory → ⊥
want_of_memory_counts_no_fault is =
    let same : 4 ≡ 3 = ap (λ (faults : RoundFaults). faults.sink) is in omega (arith, same)

pub success_is_no_fault : IsFeedFault calm calm Done → ⊥
success_is_no_fault fault = fault

-- saves fail with the disk, or when out of memory
pub disk_fails_a_save : IsSaveFault 3 4 DiskFault
disk_fails_a_save = omega arith

pub memory_fails_a_save : IsSaveFault 3 3 OutOfMemory
memory_fails_a_save = refl

pub sink_fails_no_save : IsSaveFault 3 4 WriteFault → ⊥
sink_fails_no_save fault = fault

pub bad_words_are_no_fault_of_a_session : IsFeedFault calm calm (BadWords NoCommand) → ⊥
bad_words_are_no_fault_of_a_session fault = fault

-- what two callers bring back with any passes
pub reports_of_two_callers : (one other : SeatValue)
    → other_reports (record { pass = one; reports = last ∷ [] } ∷ record { pass = other; reports = [] } ∷ [])
    ≡ (last ∷ []) ∷ [] ∷ []
reports_of_two_callers one other = refl

-- a board of the shards, and its first pass
abbrev board_of : SeatValue → WordsValue
board_of seat = record { id = seat.table_id; opening = opening }

abbrev pass_of : SeatValue → SeatValue
pass_of seat = record seat { me = (first, []) }

abbrev opened : SeatValue → Opened
opened seat = record {
  board = board_of seat;
  reader = record { pass = pass_of seat; cut = cut_at opening (0 ∷ 0 ∷ 0 ∷ 0 ∷ []) };
}

pub opened_shards : (seat : SeatValue) → IsFeedOpening opening (opened seat)
opened_shards seat = record {
  opening = refl;
  kept = session_shards.core.kept;
  pass = record { seat = record { id = refl; opening = refl; trails = refl; live = refl; slot = refl }; free = refl };
  view = refl;
  shape = record { as_many = refl; alike = refl };
}

-- a cut of no shard isn't one of four
pub opened_with_another_cut : (seat : SeatValue)
    → IsFeedOpening opening (record (opened seat) { reader = record { pass = pass_of seat; cut = cut_at [] [] } }) → ⊥
opened_with_another_cut seat is = cc is.shape.as_many

-- lists without records are at their ends
ends_were_seen : HasSeenEnds opening first
ends_were_seen = no_records 4
  where
    no_records : (count place : ℕ) (state : ShardValue) → slice_get (replicate count shard) place ≡ Some state
        → length state.list ≤ get_or (replicate count 0) place 0
    no_records zero place state is = cc is
    no_records (suc count) zero state is =
        subst (λ (s : ShardValue). length s.list ≤ 0) (same_Some shard state is) (omega arith)
    no_records (suc count) (suc place) state is = no_records count place state is

-- nothing was reported, as the settings ask
pub gathered_without_a_round : (seat : SeatValue) (gathered : Gathered) → gathered.called.items ≡ []
    → IsGathered (board_of seat) settings none_saved (Some []) (Some []) (record gathered { pass = pass_of seat })
gathered_without_a_round seat gathered nobody = record {
  pass = (opened_shards seat).pass;
  ends = ends_were_seen;
  rounds = [];
  are_rounds = no_reports;
  written = refl;
  kept = refl;
  as_many = ap length nobody;
  callers = subst (λ called. All (AreOfCaller opening settings 0) (other_reports called)) (sym nobody) (All-nil _);
}

-- another caller was asked for
pub gathered_without_a_caller : (seat : SeatValue) (gathered : Gathered) → gathered.called.items ≡ []
    → IsGathered (board_of seat) running none_saved (Some []) (Some []) gathered → ⊥
gathered_without_a_caller seat gathered nobody is = omega (arith, is.as_many, ap length nobody)

pub fed_without_a_round : (seat : SeatValue) (fed : Fed) → fed.gathered.called.items ≡ []
    → IsFeedResult (board_of seat) settings none_saved (Some []) (Some [])
    (record { gathered = record fed.gathered { pass = pass_of seat }; cut = (opened seat).reader.cut })
fed_without_a_round seat fed nobody = record {
  gathered = gathered_without_a_round seat fed.gathered nobody;
  shape = record { as_many = refl; alike = refl };
}

pub fed_with_another_cut : (seat : SeatValue) (fed : Fed)
    → IsFeedResult (board_of seat) settings none_saved (Some []) (Some []) (record fed { cut = cut_at [] [] }) → ⊥
fed_with_another_cut seat fed is = cc is.shape.as_many

-- a sink with room for 7 bytes took the first line of the only round's report
pub rounds_in_part : FeedBreaksOff opening running saves_nothing (Some []) (Some (codes "report\n"))
rounds_in_part = record { front = codes "report\n"; breaks_off = broken_off_in_a_round; written = refl }

-- without rounds nothing of them is written
pub no_rounds_in_part : FeedBreaksOff opening settings saves_nothing (Some []) (Some (codes "report\n")) → ⊥
no_rounds_in_part in_part = none in_part.front in_part.breaks_off in_part.written
  where
    whole : (rounds : List Reported) → length rounds ≤ 0 → codes "report\n" ≡ session_parts false rounds → ⊥
    whole [] few written = cc written
    whole (one ∷ rounds) few written = omega (arith, few)

    none : (text : List ℕ) → BreaksOffInRounds opening settings saves_nothing text → codes "report\n" ≡ text → ⊥
    none text (inl between) written = whole between.rounds between.few (written ∙ between.written)
    none text (inr within) written = omega (arith, within.few)
