-- Worked examples of what commands write and read, of what may happen instead, and of what each status says.
use Rattle.std.proofs.Common.{◌≡◌, ◌≤◌, ℕ, List, [], ◌∷◌, ◌++◌, Some, None, inl, inr, ⊎_elim, refl, ap}
use Rattle.std.proofs.Common.{codes, arith, get_or, length, replicate, true, false}
use Rattle.std.specs.Prelude.{⊤}
use Rattle.std.proofs.lemmas.List.Elements.{All-nil}
use Rattle.pcap_frames.specs.declared.fault.FaultKind.TheVariants.{ShortHeader}
use Rattle.pcap_frames.specs.{header_fault, header_fault_at, number_in_order}
use Rattle.command_words.specs.{AskForCommand}
use Rattle.command_words.specs.declared.command.Command.{Command}
use Rattle.command_words.specs.declared.command.Command.TheVariants.{Weigh, Report as report_command, Format, Audit}
use Rattle.command_words.specs.declared.command.Command.TheVariants.{Watch, Make, Demo}
use Rattle.command_words.specs.declared.words_kind.WordsKind.TheVariants.{NoCommand}
use Rattle.hhh_engine.specs.Answer.{Answers, AnswersInPart, IsAnswer, IsAnswerInPart, IsWeighInPart}
use Rattle.hhh_engine.specs.Answer.{IsUnfinished, formatted_answer}
use Rattle.report_session.specs.{WritesAnswer, settings_of_store}
use Rattle.hhh_engine.specs.Inputs.{CommandAvoids, CommandUses, CanBeAnswered}
use Rattle.hhh_engine.specs.Inputs.{HasCapture, UsesCapture, UsesSession, UsesStore}
use Rattle.hhh_engine.specs.Inputs.{WereAccepted, WereRead, inputs}
use Rattle.hhh_engine.specs.Ending.{Ends, EndsAnswered, EndsAsBefore, FailsAtSource, sources}
use Rattle.hhh_engine.specs.Ending.{EndsTearing, FormatEnds, DiskHappened, Refuses}
use Rattle.hhh_engine.specs.Ending.{EndsRefusing, SourceFaultsRose, faults_of_source}
use Rattle.hhh_engine.specs.TopCall.{FailsToRead, FailsToStore, FailsToWrite, RefusesCapture, RefusesWords, RunEnds}
use Rattle.hhh_engine.specs.TopCall.{Streams, WritesNothing, WritesPart, streams}
use Rattle.outside_io.specs.declared.source.Source.{Ghosts as SourceOf}
use Rattle.outside_io.specs.declared.sink.Sink.{Ghosts as SinkOf}
use Rattle.slot_disk.specs.declared.disk.Disk.{Ghosts as DiskOf}
use Rattle.recovery.specs.declared.fault.OpenFault.{OpenFault}
use Rattle.recovery.specs.declared.fault.OpenFault.TheVariants as opening
use Rattle.hhh_engine.specs.Reading.{HasNoText}
use Rattle.run_status.specs.declared.status.Status.{Status}
use Rattle.run_status.specs.declared.status.Status.TheVariants.{Done, BadCapture, BadWords, ReadFault, WriteFault}
use Rattle.run_status.specs.declared.status.Status.TheVariants.{DiskFault, NotFormatted, Damaged, AuditNo, BadReport}
use Rattle.run_status.specs.declared.status.Status.TheVariants.{OutOfMemory}
use Rattle.exact_audit.specs.declared.verdict.Verdict.TheVariants.{BadTotal}
use Rattle.report_text.specs.declared.session_fault.TextFault.TheVariants.{TooLong}
use Rattle.hhh_engine.proofs.ExamplesOfWeights.{file, prefix, weight_of_the_file}
use Rattle.report_session.proofs.Examples.{header}
use Rattle.report_session.proofs.ExamplesOfSessions.{header_is_a_capture, in_turn, keeps_nothing, session_in_part}
use Rattle.report_session.proofs.ExamplesOfSessions.{session_over_the_header, settings, text}
use Rattle.report_session.proofs.ExamplesOfSaves.{formatted, formatted_opens_to_nothing, one}
use Rattle.checkpoint.specs.{StoreOpensTo, written_header}
use Rattle.hhh_engine.specs.Ending.{EndsEmpty}
use Rattle.prefix_lattice.specs.{RecordValue}
use Rattle.std.proofs.Common.{subst, sym}
use Rattle.hhh_engine.specs.Inputs.{IsInputStore}
use Rattle.hhh_engine.specs.Rules.{RunRules, run_rules}
use Rattle.watch_rules.specs.{judged_by}

abbrev words : List (List ℕ)
words = codes "report" ∷ []

-- records are dealt in turn, and each alarm has the least severity
abbrev in_turn_and_mild : RunRules
in_turn_and_mild = run_rules in_turn (judged_by (λ lo hi limit. 0))

pub session_is_the_answer :
    IsAnswer in_turn_and_mild keeps_nothing (report_command settings) (inputs (Some header) (Some []) None None None) text
session_is_the_answer = session_over_the_header

pub asks_for_a_report : AskForCommand words (report_command settings)
asks_for_a_report = record {
  arguments = [];
  are_words = record {
    behind = [];
    begun = refl;
    well_formed = record {
      spelled = refl;
      of_form = record {
        as_many = refl;
        known = All-nil _;
        once = λ i j d before within. absurd (omega (arith, within));
        complete = All-nil _;
      };
    };
  };
  set = record {
    weigh = refl;
    shards = refl;
    capacity = refl;
    phi = refl;
    deal = refl;
    block = refl;
    workers = refl;
    callers = refl;
    rounds = refl;
    grain = refl;
    front = refl;
    store = refl;
    fits = omega arith;
  };
  wide = omega arith;
}

abbrev pub report_asks_to_read : CommandUses UsesCapture words
report_asks_to_read = record { command = report_command settings; asked = asks_for_a_report; uses = tt }

no_words_ask : (command : Command) → AskForCommand [] command → ⊥
no_words_ask (Weigh prefix settings) asked = let begun = asked.are_words.begun in cc
no_words_ask (report_command settings) asked = let begun = asked.are_words.begun in cc
no_words_ask (Format settings) asked = let begun = asked.are_words.begun in cc
no_words_ask (Audit settings) asked = let begun = asked.are_words.begun in cc
no_words_ask (Watch rule grain) asked = let begun = asked.are_words.begun in cc
no_words_ask (Make seed frames) asked = let begun = asked.are_words.begun in cc
no_words_ask (Demo seed frames settings) asked = let begun = asked.are_words.begun in cc

pub no_words_ask_to_read : CommandUses UsesCapture [] → ⊥
no_words_ask_to_read asks = no_words_ask asks.command asks.asked

pub report_reads_a_capture : UsesCapture (report_command settings)
report_reads_a_capture = tt

pub format_reads_no_capture : UsesCapture (Format settings) → ⊥
format_reads_no_capture reads = reads

-- an audit reads two inputs, and a report one
pub audit_reads_a_session : UsesSession (Audit settings)
audit_reads_a_session = tt

pub report_reads_no_session : UsesSession (report_command settings) → ⊥
report_reads_no_session reads = reads

-- the settings ask for no store
pub report_without_a_store : UsesStore (report_command settings) → ⊥
report_without_a_store uses = cc uses

pub report_with_a_store : UsesStore (report_command (record settings { store = true }))
report_with_a_store = refl

pub report_asks_for_no_store : CommandAvoids UsesStore words
report_asks_for_no_store = record {
  command = report_command settings;
  asked = asks_for_a_report;
  unused = report_without_a_store;
}

pub source_of_a_header : HasCapture false (Some header)
source_of_a_header = record { file = header; told = refl; capture = ([], None, header_is_a_capture) }

pub silent_source_tells_no_capture : HasCapture false None → ⊥
silent_source_tells_no_capture tells = let told = tells.told in cc

-- nothing needs to be known of the disk
pub report_over_a_header_can_be_answered :
    CanBeAnswered in_turn (report_command settings) (inputs (Some header) (Some []) None None None)
report_over_a_header_can_be_answered = (source_of_a_header, λ used. absurd (cc used))

-- but with a store its bytes need to be
pub report_over_an_unknown_store :
    CanBeAnswered in_turn (report_command (record settings { store = true })) (inputs (Some header) (Some []) None None None) → ⊥
report_over_an_unknown_store can = let store = can.1 refl in cc store.told

pub header_was_accepted : WereAccepted (report_command settings) (inputs (Some header) (Some []) None None None)
header_was_accepted = ([], None, header_is_a_capture)

-- a source with a remaining byte was not read to its end
pub one_byte_left : WereRead (report_command settings) (inputs (Some header) (Some (1 ∷ [])) None None None) → ⊥
one_byte_left read = cc read

-- the text follows what the sink held
pub session_was_written :
    Answers in_turn_and_mild keeps_nothing words (inputs (Some header) (Some []) None None None) (Some (codes "# "))
    (Some (codes "# " ++ text))
session_was_written = record {
  command = report_command settings;
  asked = asks_for_a_report;
  read_to_end = refl;
  answer = record { text = text; is_text = session_over_the_header; written = refl };
}

-- a sink with room for 12 bytes took a part of the first line
pub session_was_written_in_part :
    AnswersInPart in_turn_and_mild keeps_nothing words (inputs (Some header) (Some []) None None None) (Some []) (Some (codes "opened 0 0 0"))
session_was_written_in_part = record {
  command = report_command settings;
  asked = asks_for_a_report;
  read_to_end = refl;
  answer = record { text = codes "opened 0 0 0"; is_text = session_in_part keeps_nothing None; written = refl };
}

-- a text follows what the sink held
pub two_bytes_were_written : WritesAnswer (λ text. text ≡ codes "no") (Some (codes "no ")) (Some (codes "no no"))
two_bytes_were_written = record { text = codes "no"; is_text = refl; written = refl }

pub nothing_is_not_written : WritesAnswer (λ text. text ≡ codes "no") (Some []) (Some []) → ⊥
nothing_is_not_written writes = cc (writes.written, writes.is_text)

-- a sink with room for 6 bytes took the least weight, but not the end of its line
pub weight_in_part : IsWeighInPart prefix settings file (codes "low 10")
weight_in_part = record {
  text = codes "low 100\nhigh 100\ntotal 100\n";
  is_text = weight_of_the_file;
  begins = (codes "0\nhigh 100\ntotal 100\n", refl);
  cut = omega arith;
}

pub weight_in_part_is_an_answer_in_part :
    IsAnswerInPart in_turn_and_mild keeps_nothing (Weigh prefix settings) (inputs (Some file) (Some []) None None None) (codes "low 10")
weight_in_part_is_an_answer_in_part = weight_in_part

-- `format` writes one line, whatever its inputs are
pub text_of_format : formatted_answer ≡ codes "formatted\n"
text_of_format = refl

pub format_answers_in_a_line :
    IsAnswer in_turn_and_mild keeps_nothing (Format settings) (inputs None None None None None) (codes "formatted\n")
format_answers_in_a_line = refl

pub format_is_cut_short :
    IsAnswerInPart in_turn_and_mild keeps_nothing (Format settings) (inputs None None None None None) (codes "format")
format_is_cut_short = record {
  text = formatted_answer;
  is_text = refl;
  begins = (codes "ted\n", refl);
  cut = omega arith;
}

-- a whole text isn't cut short
pub whole_text_is_not_cut_short : IsUnfinished (λ text. text ≡ codes "yes") (codes "yes") → ⊥
whole_text_is_not_cut_short short =
    let same : length short.text ≡ 3 = ap length short.is_text in omega (arith, same, short.cut)

-- no text comes of an empty file, nor where the source failed
pub empty_file_has_no_text : HasNoText false (Some []) 0 0 (BadCapture (header_fault_at ShortHeader 0))
unfolding header_fault number_in_order
empty_file_has_no_text = record {
  first = ([], inr (inl (record { none_shown = refl; short = omega arith; none_before = refl; is_fault = refl })));
  no_front = λ asked. cc asked;
}

pub failed_source_has_no_text : HasNoText false (Some header) 3 4 ReadFault
failed_source_has_no_text = omega arith

pub no_read_fault_without_a_count : HasNoText false (Some header) 3 3 ReadFault → ⊥
no_read_fault_without_a_count fault = omega (arith, fault)

pub memory_may_want_at_any_time : HasNoText false (Some header) 3 3 OutOfMemory
memory_may_want_at_any_time = tt

pub success_has_a_text : HasNoText false (Some header) 3 3 Done → ⊥
success_has_a_text no_text = no_text

-- ---- what a status says, of streams of which all is known: their bytes, and how many calls failed

-- a stream
pub record Known : Type 0 where
  pub bytes : List ℕ
  pub faults : ℕ

abbrev known : List ℕ → ℕ → Known
known bytes faults = record { bytes = bytes; faults = faults }

abbrev source : SourceOf Known
source = record { left = λ stream. Some stream.bytes; faults = λ stream. stream.faults }

abbrev sink : SinkOf Known
sink = record { taken = λ stream. Some stream.bytes; faults = λ stream. stream.faults }

-- a disk, of which a crash at any moment leaves what it reads
abbrev disk : DiskOf Known
disk = record {
  reads = λ stream. Some stream.bytes;
  image_now = λ stream image. image ≡ stream.bytes;
  moment = λ stream. 0;
  image_since = λ stream moment image. image ≡ stream.bytes;
  faults = λ stream. stream.faults;
}

-- the streams of a run with these sources, with a sink that took these bytes, and a disk with these
abbrev run_with : (capture text sink disk : Known) → Streams Known Known Known Known
run_with = streams

-- nothing is there, and nothing failed
abbrev nothing : Known
nothing = known [] 0

-- the first byte was read before the missing command was seen
pub no_command_before_a_read :
    RefusesWords source source sink disk (run_with (known (1 ∷ 2 ∷ []) 0) nothing nothing nothing)
    (run_with (known (2 ∷ []) 0) nothing nothing nothing) [] NoCommand → ⊥
no_command_before_a_read refused =
    let same : 2 ≡ 1 = ap (λ (now : Streams Known Known Known Known). get_or now.capture.bytes 0 0) refused.nothing in
    omega (arith, same)

pub no_command :
    RefusesWords source source sink disk (run_with (known (1 ∷ 2 ∷ []) 0) nothing nothing nothing)
    (run_with (known (1 ∷ 2 ∷ []) 0) nothing nothing nothing) [] NoCommand
no_command = record { first_fault = refl; nothing = refl }

pub empty_file_is_refused :
    RefusesCapture source source sink disk (run_with nothing (known (3 ∷ []) 0) nothing (known (7 ∷ []) 0))
    (run_with nothing (known (3 ∷ []) 0) nothing (known (7 ∷ []) 0)) words (header_fault_at ShortHeader 0)
empty_file_is_refused = record {
  asked = report_asks_to_read;
  first_fault = empty_file_has_no_text;
  text_unread = refl;
  nothing = record { unwritten = refl; untouched = refl };
}

-- a disk that changed isn't untouched
pub capture_refused_after_a_save :
    RefusesCapture source source sink disk (run_with nothing nothing nothing (known (7 ∷ []) 0))
    (run_with nothing nothing nothing (known (8 ∷ []) 0)) words (header_fault_at ShortHeader 0) → ⊥
capture_refused_after_a_save refused =
    let same : 8 ≡ 7 = ap (λ (stream : Known). get_or stream.bytes 0 0) refused.nothing.untouched in omega (arith, same)

-- nor is a text of which a byte was read before the capture was refused
pub capture_refused_after_the_text_was_read :
    RefusesCapture source source sink disk (run_with nothing (known (3 ∷ 4 ∷ []) 0) nothing nothing)
    (run_with nothing (known (4 ∷ []) 0) nothing nothing) words (header_fault_at ShortHeader 0) → ⊥
capture_refused_after_the_text_was_read refused =
    let same : 4 ≡ 3 = ap (λ (stream : Known). get_or stream.bytes 0 0) refused.text_unread in omega (arith, same)

pub source_failed :
    FailsToRead source source sink disk (run_with (known header 3) nothing nothing (known (7 ∷ []) 0))
    (run_with (known header 4) nothing nothing (known (7 ∷ []) 0)) words
source_failed = record {
  failed = inl (record { reads = report_asks_to_read; rose = omega arith; text_unread = refl });
  nothing = record { unwritten = refl; untouched = refl };
}

-- the source of a text fails only once the capture was read to its end
pub text_failed_too_early :
    FailsAtSource ⊤ ⊤ (inputs (Some header) (Some (1 ∷ [])) None None None)
    (sources source source (known header 3) (known (3 ∷ []) 0)) (sources source source (known (1 ∷ []) 3) (known [] 1)) → ⊥
text_failed_too_early failed =
    ⊎_elim
    (λ capture. omega (arith, capture.rose))
    (λ text. let none : 1 ≡ 0 = ap (λ (bytes : List ℕ). length bytes) (text.read_to_end tt) in omega (arith, none)) failed

-- the source of the text of a session may fail instead, as its count alone shows
pub text_failed : SourceFaultsRose (faults_of_source 3 0) (faults_of_source 3 1)
text_failed = inr (omega arith)

pub no_source_failed : SourceFaultsRose (faults_of_source 3 0) (faults_of_source 3 0) → ⊥
no_source_failed rose = ⊎_elim (λ capture. omega (arith, capture)) (λ text. omega (arith, text)) rose

-- a run over a header that wrote a part of the session, or nothing, to a sink that failed so often
abbrev wrote : (written : List ℕ) → (sink_faults disk_faults : ℕ) → Streams Known Known Known Known
wrote written sink_faults disk_faults = run_with (known [] 0) nothing (known written sink_faults) (known [] disk_faults)

abbrev began : (sink_faults disk_faults : ℕ) → Streams Known Known Known Known
began sink_faults disk_faults = run_with (known header 0) nothing (known [] sink_faults) (known [] disk_faults)

sessions_part : WritesPart source source sink disk (began 3 3) (wrote (codes "opened 0 0 0") 4 4) words in_turn_and_mild
sessions_part = record {
  command = report_command settings;
  asked = asks_for_a_report;
  read_to_end = refl;
  answer = record { text = codes "opened 0 0 0"; is_text = session_in_part _ _; written = refl };
}

pub sink_failed_in_the_session :
    FailsToWrite source source sink disk (began 3 3) (wrote (codes "opened 0 0 0") 4 4) words in_turn_and_mild
sink_failed_in_the_session = record { rose = omega arith; in_part = sessions_part }

-- where nothing was written, the disk is as before
pub disk_changed_before_the_first_byte :
    WritesNothing source source sink disk (run_with nothing nothing nothing (known (7 ∷ []) 0))
    (run_with nothing nothing nothing (known (8 ∷ []) 0)) → ⊥
disk_changed_before_the_first_byte nothing =
    let same : Some (8 ∷ []) ≡ Some (7 ∷ []) = nothing.1.same_reads in cc same

pub disk_failed_in_the_session :
    FailsToStore source source sink disk (began 3 3) (wrote (codes "opened 0 0 0") 4 4) words in_turn_and_mild
disk_failed_in_the_session = record {
  command = report_command settings;
  asked = asks_for_a_report;
  may_use = tt;
  rose = omega arith;
  in_part = inr sessions_part;
}

-- a run without arguments that took nothing and gave nothing, with these counts of faults of its source and its disk
abbrev idle_run : (source_faults disk_faults : ℕ) → Status → Type 0
idle_run source_faults disk_faults status =
    RunEnds source source sink disk (run_with nothing nothing nothing nothing)
    (run_with (known [] source_faults) nothing nothing (known [] disk_faults)) [] in_turn_and_mild status

-- it doesn't end with a read fault that no source had
pub read_fault_of_no_source : idle_run 0 0 ReadFault → ⊥
read_fault_of_no_source ends = ⊎_elim
    (λ capture. let rose : 1 ≤ 0 = capture.rose in omega (arith, rose))
    (λ text. let rose : 1 ≤ 0 = text.rose in omega (arith, rose)) (ends.read_fault refl).failed

-- nor with Done, after a fault of a source or of the disk
pub read_fault_reported_as_done : idle_run 1 0 Done → ⊥
read_fault_reported_as_done ends =
    let same : 1 ≡ 0 = ap (λ faults. faults.capture) (ends.read_fault_reported (λ is. cc is)) in
    omega (arith, same)

pub disk_fault_reported_as_done : idle_run 0 1 Done → ⊥
disk_fault_reported_as_done ends =
    let same : 1 ≡ 0 = ends.disk_fault_reported (λ is. cc is) in
    omega (arith, same)

-- where no store is asked for, none is refused
pub no_store_is_refused : (fault : OpenFault)
    → EndsRefusing settings in_turn (Some header) None ⊤ fault → ⊥
no_store_is_refused fault refuses = cc refuses.0

pub format_refuses_no_store : (fault : OpenFault)
    → Refuses (Format settings) in_turn (inputs None None None None None) ⊤ fault → ⊥
format_refuses_no_store fault refuses = refuses

-- where the disk fails, `format` writes nothing, and changes no more than the front; where memory runs out, the disk is as
-- before too
pub format_without_memory :
    FormatEnds {K = Known} disk (settings_of_store settings) nothing nothing nothing (known (8 ∷ []) 0) OutOfMemory → ⊥
format_without_memory ended =
    let same : 1 ≡ 0 = ap (λ (stream : Known). length stream.bytes) ended.1 in omega (arith, same)

-- a disk of 65 bytes, of which the last one is behind the front
abbrev disk_ending_in : ℕ → Known
disk_ending_in last = known (replicate 64 0 ++ last ∷ []) 0

pub byte_behind_the_front_was_torn : EndsTearing disk (disk_ending_in 1) (disk_ending_in 2) → ⊥
byte_behind_the_front_was_torn torn =
    let last : 2 ≡ 1 = (torn.reading (disk_ending_in 1).bytes (disk_ending_in 2).bytes refl refl).after 64 (omega arith) (omega arith) in
    omega (arith, last)

-- `format` reads no capture that could be refused
pub format_refuses_no_capture :
    FormatEnds {K = Known} disk (settings_of_store settings) nothing nothing nothing nothing
    (BadCapture (header_fault_at ShortHeader 0)) → ⊥
format_refuses_no_capture ended = ended

-- ---- how a command ended, whose text is "yes", whose sink held nothing, and whose disk failed but didn't change

-- bytes of "yes", which is the text, or of "ye", which is a part
abbrev yes : List ℕ → Type 0
yes text = text ≡ codes "yes"

abbrev part : List ℕ → Type 0
part text = text ≡ codes "ye"

-- its store isn't formatted
abbrev unformatted : OpenFault → Type 0
unformatted fault = fault ≡ opening.NotFormatted

-- the number of the report that an audit found
abbrev report_number : Status → ℕ
report_number (AuditNo report verdict) = report
report_number status = 0

-- its audit found that the second report isn't sound
abbrev audited : Status → Type 0
audited status = status ≡ AuditNo 2 BadTotal

-- how it ended with these counts of faults of its capture and its sink, and these bytes in the sink
abbrev ends_with : (read_before read_now : ℕ) → List ℕ → (write_before write_now : ℕ) → Status → Type 0
ends_with read_before read_now written write_before write_now status =
    Ends
    (record {
      front = false;
      is_text = yes;
      is_part = part;
      read = ⊤;
      accepted = ⊤;
      disk_failed = ⊤;
      disk_same = ⊤;
      store_same = ⊤;
      refuses = unformatted;
      finds = audited;
    })
    (record {
      capture = Some [];
      read_before = faults_of_source read_before 0;
      read_now = faults_of_source read_now 0;
      sink = [];
      written = written;
      old = Some [];
      new = Some written;
      write_before = write_before;
      write_now = write_now;
    }) status

pub command_that_wrote_its_text :
    ends_with 0 0 (codes "yes") 0 0 Done
command_that_wrote_its_text = (tt, record { text = codes "yes"; is_text = refl; written = refl }, refl, refl)

pub command_that_wrote_a_part :
    ends_with 0 0 (codes "ye") 0 1 WriteFault
command_that_wrote_a_part =
    (tt, record { text = codes "ye"; is_text = refl; written = refl }, omega arith, refl)

pub command_whose_source_failed : ends_with 3 4 [] 0 0 ReadFault
command_whose_source_failed = (inl (omega arith), refl, tt, refl)

-- the count of faults stayed
pub source_that_did_not_fail :
    ends_with 3 3 [] 0 0 ReadFault → ⊥
source_that_did_not_fail ended =
    ⊎_elim (λ capture. omega (arith, capture)) (λ text. omega (arith, text)) ended.0

-- bad arguments are reported before anything is read
pub bad_words_end_no_command :
    ends_with 0 0 [] 0 0 (BadWords NoCommand) → ⊥
bad_words_end_no_command ended = ended

-- memory may run out before anything is written
pub memory_that_ran_out : ends_with 0 0 [] 0 0 OutOfMemory
memory_that_ran_out = (inl (refl, tt), refl, refl)

-- the disk may fail after a part of the text
pub command_whose_disk_failed :
    ends_with 0 0 (codes "ye") 0 0 DiskFault
command_whose_disk_failed =
    (tt, tt, inr (record { text = codes "ye"; is_text = refl; written = refl }), tt, refl, refl)

pub command_whose_store_is_refused : ends_with 0 0 [] 0 0 NotFormatted
command_whose_store_is_refused = (refl, tt, refl, refl, refl)

-- a store that isn't formatted has no damaged body
pub command_whose_store_has_another_fault : ends_with 0 0 [] 0 0 (Damaged 1) → ⊥
command_whose_store_has_another_fault ended = cc ended.0

-- an audit names the first report that isn't sound, and no other
pub command_that_found_a_report : ends_with 0 0 (codes "ye") 0 0 (AuditNo 2 BadTotal)
command_that_found_a_report = (tt, refl, refl, refl)

pub command_that_found_another_report : ends_with 0 0 (codes "ye") 0 0 (AuditNo 1 BadTotal) → ⊥
command_that_found_another_report ended =
    let same : 1 ≡ 2 = ap report_number ended.1 in omega (arith, same)

-- this command never ends with a text that is not that of a session
pub command_whose_text_is_refused : ends_with 0 0 [] 0 0 (BadReport TooLong) → ⊥
command_whose_text_is_refused ended = cc ended.0

-- a command that found a report that isn't sound was answered if it is an audit
pub audit_that_found_a_report : EndsAnswered (Audit settings) (AuditNo 2 BadTotal)
audit_that_found_a_report = inr (2, BadTotal, refl)

pub report_that_found_a_report : EndsAnswered (report_command settings) (AuditNo 2 BadTotal) → ⊥
report_that_found_a_report answered = cc answered

-- something can happen to a disk only by a command that may use a store
pub audit_uses_no_disk : DiskHappened (Audit settings) ⊤ → ⊥
audit_uses_no_disk happened = happened

pub report_may_use_a_disk : DiskHappened (report_command settings) ⊤
report_may_use_a_disk = tt

-- where no byte was written, a store that was to be opened is as before, and one that `format` began to make need not be
pub report_leaves_a_disk_as_before : EndsAsBefore (report_command settings) ⊥ → ⊥
report_leaves_a_disk_as_before as_before = as_before

pub format_may_have_begun_a_store : EndsAsBefore (Format settings) ⊥
format_may_have_begun_a_store = tt

-- ---- stores

-- what `format` leaves
pub formatted_store_is_empty : EndsEmpty (Some formatted) (λ image. image ≡ formatted) one
formatted_store_is_empty bytes told image is =
    subst (λ bytes. StoreOpensTo (written_header one) bytes None) (sym is) formatted_opens_to_nothing

-- a formatted store is one of any lists, and a run goes on from nothing
pub formatted_store_is_of_any_lists : (lists : List (List RecordValue)) → IsInputStore one lists formatted
formatted_store_is_of_any_lists lists = (None, formatted_opens_to_nothing, tt, omega arith)
