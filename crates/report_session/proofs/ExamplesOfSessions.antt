-- Worked examples of the session over a capture without frames, and of its parts.
use Rattle.std.proofs.Common.{◌≡◌, ◌%◌, ◌≤◌, ℕ, List, [], ◌∷◌, ◌++◌, None, Some, inl, inr, refl, sym, ap, codes}
use Rattle.std.specs.Prelude.{⊤, Option, slice_index}
use Rattle.std.proofs.Common.{arith, All, subst, lit<, zero, suc, true, false, get_or}
use Rattle.std.specs.Fmt.{digits}
use Rattle.std.proofs.lemmas.List.{get_or-replicate}
use Rattle.std.specs.List.Sorted.{IsNonDecreasing}
use Rattle.std.proofs.lemmas.List.Sorted.{IsNonDecreasingBy-short}
use Rattle.std.proofs.lemmas.List.Elements.{All-nil, All-cons, All-replicate}
use Rattle.prefix_lattice.specs.{RecordValue, NodeValue, IsPrefixKey, IsNode, node_count, node_index, node_of_prefix, prefix_key}
use Rattle.deal_rules.specs.declared.deal_kind.DealKind.TheVariants.{RoundRobin}
use Rattle.deal_rules.specs.{IsDealing}
use Rattle.shard_state.specs.{CutValue, IsShard, IsSnapshot, ShardValue, TableShape, empty_snapshot, entries_at}
use Rattle.shard_state.specs.{no_entries, BasesRepresent, SnapshotRepresents, table_at}
use Rattle.space_saving.specs.declared.entry.Entry.{Entry}
use Rattle.space_saving.specs.{AreTableEntries, interval_in, table_total}
use Rattle.hhh_report.specs.{IsSound}
use Rattle.hhh_report.proofs.Examples.{no_lines, threshold_of_nothing}
use Rattle.hhh_output.specs.{IsLineOf, IsReportOf}
use Rattle.hhh_report.specs.declared.line.Line.{Line}
use Rattle.hhh_report.specs.declared.report.Report.{Report}
use Rattle.hhh_report.specs.declared.reports.Reported.{Reported}
use Rattle.gate_workers.specs.{IsCoreReport, cut_at}
use Rattle.pcap_frames.specs.declared.file_order.FileOrder.TheVariants.{Little}
use Rattle.pcap_frames.specs.{number_in_order, order_of_magic}
use Rattle.frame_records.specs.{FileHasFrames}
use Rattle.frame_records.specs.declared.records.Records.{Records}
use Rattle.frame_records.specs.declared.weigh.Weigh.TheVariants.{Bytes}
use Rattle.report_text.specs.{tail_text}
use Rattle.command_words.specs.declared.settings.Settings.{Settings}
use Rattle.dealt_capture.specs.{AreDealtRecords, DealingRules}
use Rattle.report_session.specs.Session.{AreOfCaller, AreReports, AreSessionShards, BeginsSession, BeginsWholeSession}
use Rattle.report_session.specs.Session.{BreaksOffInRounds, BreaksOffAround, BreaksOffLater, GoesOnFrom, IsSession}
use Rattle.report_session.specs.Session.{IsSessionInPart, IsShownInSession, IsStrictBeginning, SessionKeeping}
use Rattle.report_session.specs.Session.{rest_after_saves, saved_cuts, ReportsNeverFall, GoesOnSoundly, SessionSaving}
use Rattle.report_session.specs.Session.{SessionReports, IsOverShards, calling_reports, other_parts, new_shards}
use Rattle.report_session.specs.Session.{session_opening, session_part, session_parts, session_rest, save_line}
use Rattle.report_session.specs.Session.{text_of_reports, session_start, asked_shape}
use Rattle.report_session.proofs.Examples.{header, two_shards}
use Rattle.report_session.proofs.ShownSessionLemmas.{shown_session_report, shown_session_reports}
use Rattle.prefix_lattice.proofs.NodePlaceLemmas.{node_place_is_small}
use Rattle.prefix_lattice.specs.declared.grain.Grain.TheVariants.{Byte}

-- `report`, with defaults filled in
abbrev pub settings : Settings
settings = record {
  grain = Byte;
  shards = 4;
  capacity = 512;
  phi = 10000;
  block = 1024;
  workers = 4;
  callers = 0;
  rounds = 0;
  weigh = Bytes;
  deal = RoundRobin;
  front = false;
  store = false;
}

-- what is handed in for each kind of dealing: records are dealt in turn
abbrev pub in_turn : DealingRules
in_turn kind place rec shards number = number ≡ place % shards

-- a disk of which nothing holds, whatever was saved: it is asked of no run without a store
abbrev pub keeps_nothing : SessionKeeping
keeps_nothing asked dealt saved unfinished = ⊥

pub header_is_a_capture : FileHasFrames header []
unfolding number_in_order order_of_magic
header_is_a_capture = (
  Little,
  record {
    header = record { whole = omega arith; magic = refl; major = refl; minor = refl; link = refl };
    begins = refl;
    limit = omega arith;
  },
)

-- the shape of the tables that it asks for
abbrev pub shape : TableShape
shape = asked_shape settings

-- four shards without records
abbrev pub lists : List (List RecordValue)
lists = [] ∷ [] ∷ [] ∷ [] ∷ []

abbrev pub opening : List ShardValue
opening = new_shards shape lists

abbrev pub shard : ShardValue
shard = record { list = []; base = empty_snapshot shape; position = 0 }

-- no table has an entry
nothing_counted : (node : NodeValue) → IsNode Byte node → entries_at node (empty_snapshot shape) ≡ []
unfolding no_entries
nothing_counted node is_node = get_or-replicate (node_count Byte) (node_index node) [] [] (node_place_is_small node is_node)

empty_tables : IsSnapshot (empty_snapshot shape)
unfolding no_entries
empty_tables = record {
  least = omega arith;
  most = omega arith;
  of_grain = omega arith;
  placed = omega arith;
  as_many = refl;
  tables = λ node is_node. record {
    are_entries =
        subst (AreTableEntries 512) (sym (nothing_counted node is_node)) (record {
          is_table = record { fits = omega arith; ascending = tt; distinct = tt; small_errors = All-nil _ };
          bounded = lit< tt;
        });
    counted = ap table_total (nothing_counted node is_node);
    keyed =
        subst (All (λ (entry : Entry). IsPrefixKey node entry.key)) (sym (nothing_counted node is_node)) (All-nil _);
  };
}

pub empty_shard : IsShard shard
unfolding no_entries
empty_shard = record {
  few = omega arith;
  begun = omega arith;
  within = omega arith;
  weighed = All-nil _;
  bounded = All-nil _;
  counted = refl;
  tables = empty_tables;
}

-- the cut at their ends
abbrev cut : CutValue
cut = cut_at opening (0 ∷ 0 ∷ 0 ∷ 0 ∷ [])

-- its report has no line
abbrev pub report : Report
report = record { positions = 0 ∷ 0 ∷ 0 ∷ 0 ∷ []; total = 0; threshold = 1; lines = []; are_lines = no_lines }

abbrev pub last : Reported
last = record { report = report; saved = None }

high_of_nothing : (node : NodeValue) (key : ℕ) → IsNode Byte node
    → (interval_in (table_at node (empty_snapshot shape)) key).high ≡ 0
high_of_nothing node key is_node =
    ap (λ entries. (interval_in (record { capacity = 512; entries = entries }) key).high) (nothing_counted node is_node)

nothing_is_heavy : (line : Line) → IsLineOf cut 1 [] line → ⊥
unfolding no_entries
nothing_is_heavy line is_line =
    let node = node_of_prefix Byte line.prefix in
    let is_node : IsNode Byte node = record {
      of_grain = refl;
      source = record { few = is_line.is_prefix.source.few; whole = is_line.is_prefix.source_steps };
      dest = record { few = is_line.is_prefix.dest.few; whole = is_line.is_prefix.dest_steps };
    } in
    let nothing = high_of_nothing node (prefix_key line.prefix) is_node in
    omega (arith, is_line.high, is_line.heavy, nothing)

report_of_nothing : IsReportOf cut 10000 report
unfolding no_entries
report_of_nothing = record {
  positions = refl;
  total = refl;
  threshold = threshold_of_nothing;
  lines = λ line. (λ h. absurd (omega (arith, h.1)), λ is_line. absurd (nothing_is_heavy line is_line));
}

pub nothing_is_sound : IsSound Byte report lists 512 10000
nothing_is_sound = record {
  positions = (omega arith, (omega arith, (omega arith, (omega arith, tt))));
  total = refl;
  threshold = threshold_of_nothing;
  interval = All-nil _;
  width = All-nil _;
  heavy = All-nil _;
  justified = All-nil _;
  complete = λ prefix is_prefix no_line. omega arith;
}

pub report_at_the_ends : IsCoreReport opening 10000 report
report_at_the_ends = record { as_many = refl; kept = All-replicate IsShard 4 shard empty_shard; is = report_of_nothing }

-- with this many rounds and other callers
abbrev with_rounds : ℕ → ℕ → Settings
with_rounds rounds callers = record settings { rounds = rounds; callers = callers }

shown_with : (rounds callers : ℕ) → IsShownInSession opening (with_rounds rounds callers) last
shown_with rounds callers = record {
  is_report = report_at_the_ends;
  is_sound = λ bases. nothing_is_sound;
}

pub report_is_shown : IsShownInSession opening settings last
report_is_shown = shown_with 0 0

-- ---- the text

-- a later report than the last one of the session
abbrev later : Reported
later = record { report = record report { positions = 1 ∷ 0 ∷ 0 ∷ 0 ∷ [] }; saved = None }

pub nothing_is_saved_without_a_store : save_line false (1 ∷ []) ≡ []
nothing_is_saved_without_a_store = refl

pub one_position_was_saved : save_line true (1 ∷ []) ≡ codes "saved 1\n"
unfolding digits
one_position_was_saved = refl

pub text_of_a_report : session_part false last ≡ codes "report\nat 0 0 0 0\ntotal 0\nthreshold 1\ndone\n"
unfolding digits
text_of_a_report = refl

-- the positions of the cut that was saved are those of the report
pub text_of_a_saved_report :
    session_part true later ≡ codes "report\nat 1 0 0 0\ntotal 0\nthreshold 1\ndone\nsaved 1 0 0 0\n"
unfolding digits
text_of_a_saved_report = refl

pub no_report_no_text : session_parts true [] ≡ []
no_report_no_text = refl

pub text_of_two_reports : session_parts true (last ∷ later ∷ []) ≡ session_part true last ++ session_part true later
unfolding digits
text_of_two_reports = refl

-- nothing is saved after the reports of the other callers
pub text_of_two_callers : other_parts ((later ∷ []) ∷ (last ∷ []) ∷ []) ≡ session_part false later ++ session_part false last
unfolding digits
text_of_two_callers = refl

-- the reports of two callers come before the last one
pub text_behind_the_rounds : session_rest true ((later ∷ []) ∷ (last ∷ []) ∷ []) last (codes "end\n")
    ≡ session_part false later ++ session_part false last ++ session_part true last ++ codes "end\n"
unfolding digits
text_behind_the_rounds = refl

-- ---- the reports

-- a number before numbers that never fall, the first of which it is
pub once_more : (x : ℕ) (xs : List ℕ) → IsNonDecreasing (x ∷ xs) → IsNonDecreasing (x ∷ x ∷ xs)
once_more x xs up zero zero d le inside = omega arith
once_more x xs up zero (suc j) d le inside = up 0 j d (omega arith) (omega (arith, inside))
once_more x xs up (suc i) zero d le inside = absurd (omega (arith, le))
once_more x xs up (suc i) (suc j) d le inside = up i j d (omega (arith, le)) (omega (arith, inside))

pub one_number : (x : ℕ) → IsNonDecreasing (x ∷ [])
one_number x = IsNonDecreasingBy-short (λ x. x) (x ∷ []) (omega arith)

pub one_report_does_not_fall : ReportsNeverFall (session_start opening) (last ∷ [])
one_report_does_not_fall place inside = once_more _ [] (one_number _)

two_reports_do_not_fall : ReportsNeverFall (session_start opening) (last ∷ last ∷ [])
two_reports_do_not_fall place inside =
    let position = slice_index (session_start opening) place in
    once_more position (position ∷ []) (once_more position [] (one_number position))

-- the first shard began at 1
pub report_before_the_start : ReportsNeverFall (1 ∷ 0 ∷ 0 ∷ 0 ∷ []) (last ∷ []) → ⊥
report_before_the_start never =
    let later : 1 ≤ 0 = never 0 (omega arith) 0 1 0 (omega arith) (omega arith) in omega (arith, later)

pub one_report_with : (rounds callers : ℕ) → AreOfCaller opening (with_rounds rounds callers) 1 (last ∷ [])
one_report_with rounds callers = record {
  as_many = refl;
  shown =
      All-cons (IsShownInSession opening (with_rounds rounds callers)) last [] (shown_with rounds callers) (All-nil _);
  never_fall = one_report_does_not_fall;
}

pub one_report : AreOfCaller opening settings 1 (last ∷ [])
one_report = one_report_with 0 0

pub no_reports : AreOfCaller opening settings 0 []
no_reports = record { as_many = refl; shown = All-nil _; never_fall = λ place inside. one_number _ }

pub no_report_is_not_one : AreOfCaller opening settings 1 [] → ⊥
no_report_is_not_one are = cc are.as_many

-- no rounds, and no other callers
abbrev pub reports : SessionReports
reports = record { rounds = []; callers = []; last = last }

pub calling_thread_makes_the_last_report : calling_reports reports ≡ last ∷ []
calling_thread_makes_the_last_report = refl

pub reports_of_the_session : AreReports opening settings reports
reports_of_the_session = record { calling = one_report; at_ends = refl; as_many = refl; callers = All-nil _ }

-- the last report doesn't count the packet of the first shard
pub last_report_before_an_end : AreReports two_shards settings reports → ⊥
last_report_before_an_end are = cc are.at_ends

-- with a round and another caller
abbrev pub running : Settings
running = with_rounds 1 1

abbrev running_reports : SessionReports
running_reports = record { rounds = last ∷ []; callers = (last ∷ []) ∷ []; last = last }

pub reports_of_a_running_session : AreReports opening running running_reports
reports_of_a_running_session = record {
  calling = record {
    as_many = refl;
    shown =
        All-cons (IsShownInSession opening running) last (last ∷ []) (shown_with 1 1)
        (All-cons (IsShownInSession opening running) last [] (shown_with 1 1) (All-nil _));
    never_fall = two_reports_do_not_fall;
  };
  at_ends = refl;
  as_many = refl;
  callers = All-cons (AreOfCaller opening running 1) (last ∷ []) [] (one_report_with 1 1) (All-nil _);
}

-- the other caller is missing
pub session_without_its_caller : AreReports opening running (record running_reports { callers = [] }) → ⊥
session_without_its_caller are = cc are.as_many

-- ---- the session

abbrev pub records : Records
records = record { list = []; frames = 0; not_ipv4 = 0; short = 0; bad_header = 0; cut = None }

abbrev pub text : List ℕ
text = codes "opened 0 0 0 0\nreport\nat 0 0 0 0\ntotal 0\nthreshold 1\ndone\nframes 0\nskipped 0 0 0\nend\n"

pub text_of_the_session : text_of_reports false (session_start opening) reports (tail_text records) ≡ text
unfolding digits
text_of_the_session = refl

pub text_of_a_running_session : text_of_reports false (session_start opening) running_reports (codes "end\n")
    ≡ codes "opened 0 0 0 0\n" ++ session_part false last ++ session_part false last ++ session_part false last
    ++ codes "end\n"
unfolding digits
text_of_a_running_session = refl

-- with a store, the cuts of the calling thread are saved, and not that of the other caller
pub text_of_a_saving_session : text_of_reports true (session_start opening) running_reports (codes "end\n")
    ≡ codes "opened 0 0 0 0\n" ++ session_part true last ++ session_part false last ++ session_part true last
    ++ codes "end\n"
unfolding digits
text_of_a_saving_session = refl

-- no cut was saved
spelled_where : (Kept : List CutValue → Type 0) → Kept [] → IsOverShards opening settings Kept (tail_text records) text
spelled_where Kept kept = record {
  reports = reports;
  are_reports = reports_of_the_session;
  spelled = sym text_of_the_session;
  kept = kept;
}

pub session_is_spelled : IsOverShards opening settings (λ cuts. ⊤) (tail_text records) text
session_is_spelled = spelled_where (λ cuts. ⊤) tt

dealt_in_turn : IsDealing RoundRobin (in_turn RoundRobin) 4 [] lists
dealt_in_turn = record {
  numbers = [];
  dealt = record { as_many = refl; below = All-nil _; parted = refl };
  ruled = λ place number rec at numbered. let wrong : ⊥ = cc in absurd wrong;
}

pub dealt_from_the_header : AreDealtRecords settings in_turn header records lists
dealt_from_the_header = record {
  frames = [];
  capture = header_is_a_capture;
  are_records = record { list = refl; frames = refl; not_ipv4 = refl; short = refl; bad_header = refl };
  dealt = dealt_in_turn;
}

-- without a store a run goes on from nothing, whatever its disk holds
pub begins_anew : (store : Option (List ℕ)) → GoesOnFrom settings lists store None
begins_anew store = record { unused = λ unused. refl; fits = tt; opens = λ used. absurd (cc used) }

nothing_represents : SnapshotRepresents (empty_snapshot shape) []
unfolding no_entries
nothing_represents = record {
  within = omega arith;
  as_many = refl;
  tables = λ node is_node. nothing_counted node is_node;
}

pub tables_of_no_records : BasesRepresent opening
tables_of_no_records = All-replicate (λ shard. SnapshotRepresents shard.base shard.list) 4 shard nothing_represents

pub new_shards_represent : GoesOnSoundly lists None (session_opening shape lists None)
new_shards_represent none = tables_of_no_records

session_keeping : (keeping : SessionKeeping) → IsSession settings in_turn keeping None (Some header) text
session_keeping keeping = record {
  records = records;
  lists = lists;
  dealt = dealt_from_the_header;
  as_many = refl;
  base = None;
  begins = begins_anew None;
  represents = new_shards_represent;
  spelled = spelled_where (λ cuts. settings.store ≡ true → keeping _ lists cuts []) (λ used. absurd (cc used));
}

pub session_over_the_header : IsSession settings in_turn keeps_nothing None (Some header) text
session_over_the_header = session_keeping keeps_nothing

-- ---- a session that broke off

-- without a store nothing is saved
abbrev pub saves_nothing : SessionSaving
saves_nothing saved unfinished = (saved ≡ []) × (unfinished ≡ [])

-- a sink with room for 12 bytes took a part of the first line
pub first_bytes_of_the_session : BeginsSession opening settings saves_nothing (tail_text records) (codes "opened 0 0 0")
unfolding digits
first_bytes_of_the_session = inl (((codes " 0\n", refl), omega arith), (refl, refl))

-- a whole text doesn't begin itself strictly
pub whole_text_begins_nothing_more : IsStrictBeginning (codes "end\n") (codes "end\n") → ⊥
whole_text_begins_nothing_more begins = omega (arith, begins.1)

-- memory may run out after the first line, before any round
pub broken_off_before_the_rounds : BeginsSession opening settings saves_nothing (tail_text records)
    (codes "opened 0 0 0 0\n")
unfolding digits
broken_off_before_the_rounds = inr (inl (
  [],
  inl (record { rounds = []; few = omega arith; are_reports = no_reports; written = refl; kept = (refl, refl) }),
  refl,
))

-- and one with room for 22 bytes a part of the report of the first round
pub broken_off_in_a_round : BreaksOffInRounds opening running saves_nothing (codes "report\n")
unfolding digits
broken_off_in_a_round = inr (record {
  rounds = [];
  next = last;
  few = omega arith;
  are_reports = one_report_with 1 1;
  more = codes "report\n";
  breaks_off = inl ((codes "at 0 0 0 0\ntotal 0\nthreshold 1\ndone\n", refl), (refl, refl));
  written = refl;
})

pub bytes_of_a_round : BeginsSession opening running saves_nothing (tail_text records) (codes "opened 0 0 0 0\nreport\n")
unfolding digits
bytes_of_a_round = inr (inl (codes "report\n", broken_off_in_a_round, refl))

-- ---- a text, the save of a cut, and the line after it

abbrev one_cut : List CutValue
one_cut = saved_cuts true opening (last ∷ [])

-- in the line the cut was saved, though none of its bytes may be written
pub broken_off_in_the_line :
    BreaksOffAround (codes "done\n") (codes "saved 0\n") one_cut (λ saved unfinished. (saved ≡ one_cut) × (unfinished ≡ []))
    (codes "done\n")
broken_off_in_the_line = inr (inr ([], ((codes "saved 0\n", refl), omega arith), refl, (refl, refl)))

-- in the save it may be, or not
pub broken_off_in_the_save :
    BreaksOffAround (codes "done\n") (codes "saved 0\n") one_cut (λ saved unfinished. (saved ≡ []) × (unfinished ≡ one_cut))
    (codes "done\n")
broken_off_in_the_save = inr (inl (refl, (refl, refl)))

-- and before it, it isn't
pub broken_off_before_the_save :
    BreaksOffAround (codes "done\n") (codes "saved 0\n") one_cut (λ saved unfinished. (saved ≡ []) × (unfinished ≡ []))
    (codes "do")
broken_off_before_the_save = inl ((codes "ne\n", refl), (refl, refl))

-- the cuts of the rounds before come first
pub cuts_of_a_round_before :
    rest_after_saves true opening (last ∷ []) (λ saved unfinished. (saved ≡ one_cut) × (unfinished ≡ [])) [] []
cuts_of_a_round_before = (refl, refl)

-- no session begins with a report
pub session_without_a_first_line :
    BeginsSession opening settings saves_nothing (tail_text records) (codes "report\n") → ⊥
unfolding digits
session_without_a_first_line (inl (first, kept)) =
    let same : 111 ≡ 114 = ap (λ bytes. get_or bytes 0 0) first.0.1 in omega (arith, same)
session_without_a_first_line (inr (inl (more, rounds, parted))) =
    let same : 114 ≡ 111 = ap (λ bytes. get_or bytes 0 0) parted in omega (arith, same)
session_without_a_first_line (inr (inr later)) =
    let same : 114 ≡ 111 = ap (λ bytes. get_or bytes 0 0) later.written in omega (arith, same)

-- the last lines broke off
pub broken_off_in_the_last_lines : BreaksOffLater opening settings saves_nothing (tail_text records)
    (codes "opened 0 0 0 0\nreport\nat 0 0 0 0\ntotal 0\nthreshold 1\ndone\nframes")
unfolding digits
broken_off_in_the_last_lines = record {
  reports = reports;
  are_reports = reports_of_the_session;
  more = codes "report\nat 0 0 0 0\ntotal 0\nthreshold 1\ndone\nframes";
  breaks_off = inr (inr (codes "frames", ((codes " 0\nskipped 0 0 0\nend\n", refl), omega arith), refl, (refl, refl)));
  written = refl;
}

pub most_bytes_of_the_session : BeginsSession opening settings saves_nothing (tail_text records)
    (codes "opened 0 0 0 0\nreport\nat 0 0 0 0\ntotal 0\nthreshold 1\ndone\nframes")
most_bytes_of_the_session = inr (inr broken_off_in_the_last_lines)

-- its shards: four of one shape, without a record
pub session_shards : AreSessionShards shape opening
session_shards = record {
  core = record {
    are_shards = record {
      some = omega arith;
      few = omega arith;
      alike = All-replicate (λ (shard : ShardValue). shard.base.shape ≡ shape) 4 shard refl;
    };
    kept = All-replicate IsShard 4 shard empty_shard;
  };
  alike = refl;
}

pub session_in_part : (keeping : SessionKeeping) (store : Option (List ℕ))
    → IsSessionInPart settings in_turn keeping store (Some header) (codes "opened 0 0 0")
unfolding digits
session_in_part keeping store = record {
  records = records;
  lists = lists;
  dealt = dealt_from_the_header;
  as_many = refl;
  base = None;
  begins = begins_anew store;
  represents = new_shards_represent;
  shards = session_shards;
  begun = inl (((codes " 0\n", refl), omega arith), λ used. absurd (cc used));
}

-- it begins the whole session
pub session_in_part_begins_it : BeginsWholeSession settings in_turn None (Some header) (codes "opened 0 0 0")
unfolding digits
session_in_part_begins_it = (
  text,
  (codes " 0\nreport\nat 0 0 0 0\ntotal 0\nthreshold 1\ndone\nframes 0\nskipped 0 0 0\nend\n", refl),
  session_keeping (λ asked dealt saved unfinished. ⊤),
)

-- ---- the text of a session, as it is read

-- with a store, the cuts of the calling thread were saved, and not that of the other caller
pub reports_of_a_saving_session :
    shown_session_reports true (record { rounds = last ∷ []; callers = (last ∷ []) ∷ []; last = last })
    ≡ shown_session_report true last ∷ shown_session_report false last ∷ shown_session_report true last ∷ []
reports_of_a_saving_session = refl
