-- Worked examples of audits and of the demonstration.
use Rattle.std.proofs.Common.{◌≡◌, ◌+◌, ◌∙◌, ℕ, List, [], ◌∷◌, length, Some, None, inr, refl, ap, arith}
use Rattle.std.proofs.Common.{codes}
use Rattle.std.proofs.lemmas.List.{length-append}
use Rattle.std.specs.Fmt.{digits}
use Rattle.std.proofs.lemmas.List.Elements.{All-cons, All-nil}
use Rattle.hhh_report.specs.declared.report.Report.{Report}
use Rattle.exact_audit.specs.{IsVerdict}
use Rattle.exact_audit.specs.declared.verdict.Verdict.TheVariants.{BadPositions, BadTotal, TooWide, Good}
use Rattle.pcap_frames.specs.declared.fault.FaultKind.TheVariants.{ShortHeader}
use Rattle.report_text.specs.declared.session_fault.TextFault.TheVariants.{BadLine}
use Rattle.pcap_frames.specs.{header_fault_at}
use Rattle.session_audit.specs.{IsFirstUnsound, IsAuditedSound, ReadOnFault, ReadPastLimit}
use Rattle.session_audit.specs.{sound_audit, unsound_audit, verdict_text, HasNoBytes}
use Rattle.session_audit.specs.{Says}
use Rattle.hhh_engine.specs.Reading.{HasNoAudit}
use Rattle.report_session.specs.{IsWholeReport}
use Rattle.hhh_engine.specs.Demo.{demo_text}
use Rattle.hhh_engine.specs.Ending.{faults_of_source}
use Rattle.hhh_engine.specs.Inputs.{inputs}
use Rattle.run_status.specs.declared.status.Status.TheVariants.{Done, BadCapture, ReadFault, OutOfMemory}
use Rattle.hhh_engine.proofs.ExamplesOfAnswers.{empty_file_has_no_text}
use Rattle.report_session.proofs.ExamplesOfSessions.{last, nothing_is_sound, report, report_at_the_ends, settings}
use Rattle.report_session.proofs.ExamplesOfSessions.{lists}
use Rattle.prefix_lattice.specs.declared.grain.Grain.TheVariants.{Byte}

pub text_of_a_wide_line : verdict_text (TooWide 12) ≡ codes "too wide in line 12"
unfolding digits
text_of_a_wide_line = refl

pub text_of_three_sound_reports : sound_audit 3 ≡ codes "good 3\n"
unfolding digits
text_of_three_sound_reports = refl

pub text_of_the_second_report : unsound_audit 2 BadTotal ≡ codes "report 2: bad total\n"
unfolding digits
text_of_the_second_report = refl

-- a report of no records in four shards is sound, and so is one that was saved after
pub last_report_is_sound : IsAuditedSound settings lists last
last_report_is_sound = nothing_is_sound

-- a report of one record of the first shard, which has none
abbrev past : Report
past = record report { positions = 1 ∷ 0 ∷ 0 ∷ 0 ∷ [] }

past_the_end : IsVerdict Byte lists 512 10000 past BadPositions
past_the_end within = omega (arith, within.0)

-- it is the first that is not sound
pub second_report_is_past_the_end :
    IsFirstUnsound settings lists (last ∷ record { report = past; saved = None } ∷ []) 2 BadPositions
second_report_is_past_the_end = record {
  before = 1;
  counted = refl;
  reported = record { report = past; saved = None };
  is = refl;
  found = past_the_end;
  not_good = λ is. cc is;
  sound = All-cons (IsAuditedSound settings lists) last [] last_report_is_sound (All-nil (IsAuditedSound settings lists));
}

-- a report that is good is not the first that isn't
pub good_report_is_not_unsound : IsFirstUnsound settings lists (last ∷ []) 1 Good → ⊥
good_report_is_not_unsound first = first.not_good refl

-- a text that is not too long was read to its end, whatever its fault
pub text_was_read : ReadOnFault (BadLine 1) (Some (1 ∷ 2 ∷ [])) (Some [])
text_was_read = refl

pub one_byte_was_not_read : ReadOnFault (BadLine 1) (Some (1 ∷ 2 ∷ [])) (Some (2 ∷ [])) → ⊥
one_byte_was_not_read read = let none : 1 ≡ 0 = ap (λ (bytes : List ℕ). length bytes) read in omega (arith, none)

-- the first byte of two doesn't show that a text is too long
pub one_byte_is_not_the_limit : ReadPastLimit (Some (1 ∷ 2 ∷ [])) (Some (2 ∷ [])) → ⊥
one_byte_is_not_the_limit read =
    let front : 2 ≡ length read.front + 1 =
    ap (λ (bytes : List ℕ). length bytes) read.consumed ∙ length-append read.front (2 ∷ []) in
    omega (arith, front, read.limit)

-- ---- within the crate

pub bytes_of_a_failed_source : HasNoBytes 3 4 ReadFault
bytes_of_a_failed_source = omega arith

pub bytes_are_there_at_success : HasNoBytes 3 3 Done → ⊥
bytes_are_there_at_success none = none

pub audit_of_an_empty_capture : HasNoAudit settings (inputs (Some []) (Some []) None None None) (faults_of_source 0 0)
    (faults_of_source 0 0) (BadCapture (header_fault_at ShortHeader 0))
audit_of_an_empty_capture = empty_file_has_no_text

pub audit_whose_text_failed : HasNoAudit settings (inputs None None None None None) (faults_of_source 3 0) (faults_of_source 3 1) ReadFault
audit_whose_text_failed = inr (omega arith)

pub audit_of_one_report : Says settings lists (last ∷ []) (sound_audit 1) Done
audit_of_one_report =
    (All-cons (IsAuditedSound settings lists) last [] last_report_is_sound (All-nil (IsAuditedSound settings lists)), refl)

pub audit_says_nothing_without_memory : Says settings lists (last ∷ []) [] OutOfMemory → ⊥
audit_says_nothing_without_memory says = says

-- ---- the demonstration

pub text_of_a_demonstration :
    demo_text 7 0 0 report ≡ codes "demo 7 0\nrecords 0\ntotal 0\nthreshold 1\nlines 0\naudit good\nend\n"
unfolding digits
text_of_a_demonstration = refl

pub report_of_no_records : IsWholeReport settings lists report
report_of_no_records = record { is_report = report_at_the_ends; at_ends = refl; of_grain = All-nil _; is_sound = nothing_is_sound }
