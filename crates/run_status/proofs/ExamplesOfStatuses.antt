-- Worked examples of statuses, and of the line that reports them.
use Rattle.std.proofs.Common.{◌≡◌, ℕ, List, codes, refl}
use Rattle.std.specs.Fmt.{digits}
use Rattle.pcap_frames.specs.declared.fault.CaptureFault.{CaptureFault}
use Rattle.pcap_frames.specs.declared.fault.FaultKind.TheVariants.{CutFrame, TooManyFrames}
use Rattle.pcap_frames.specs.declared.fault.ReadRefusal.TheVariants as refusals
use Rattle.command_words.specs.declared.opt.Opt.TheVariants.{Shards}
use Rattle.command_words.specs.declared.words_kind.WordsKind.TheVariants.{Refused, OutOfLimits, Bound}
use Rattle.command_words.specs.declared.words_kind.WordsRefusal.TheVariants as words
use Rattle.run_status.specs.Status.{fault_text, status_line, status_number, status_of, status_of_opening}
use Rattle.run_status.specs.Status.{status_of_words, session_text, status_of_session, status_text}
use Rattle.run_status.specs.Status.{words_text}
use Rattle.run_status.specs.declared.status.Status.TheVariants.{Done, BadWords, BadCapture, WriteFault, DiskFault}
use Rattle.run_status.specs.declared.status.Status.TheVariants.{NotFormatted, Damaged, OtherSettings, OtherCapture}
use Rattle.run_status.specs.declared.status.Status.TheVariants.{AuditNo, BadReport}
use Rattle.exact_audit.specs.declared.verdict.Verdict.TheVariants.{BadTotal}
use Rattle.report_text.specs.declared.session_fault.SessionFault.TheVariants as session
use Rattle.report_text.specs.declared.session_fault.TextFault.TheVariants.{BadLine, MissingEnd, TooLong}
use Rattle.checkpoint.specs.declared.settings.StoreSettings.{StoreSettings}
use Rattle.recovery.specs.declared.fault.OpenFault.TheVariants as opening

-- a capture that ends inside its first frame
abbrev cut_frame : CaptureFault
cut_frame = record { kind = CutFrame; place = 24 }

pub status_of_a_cut_frame : status_of (refusals.Capture cut_frame) ≡ BadCapture cut_frame
status_of_a_cut_frame = refl

pub number_of_a_cut_frame : status_number (BadCapture cut_frame) ≡ 3
number_of_a_cut_frame = refl

pub line_of_a_cut_frame : status_line (BadCapture cut_frame) ≡ codes "hhh: bad capture: cut frame at 24\n"
unfolding digits
line_of_a_cut_frame = refl

pub text_of_too_many_frames : fault_text TooManyFrames ≡ codes "too many frames"
text_of_too_many_frames = refl

-- the line doesn't say which option is bad
pub text_of_a_number_outside_its_limits : words_text (OutOfLimits Shards) ≡ codes "limits"
text_of_a_number_outside_its_limits = refl

pub status_of_refused_words : status_of_words (words.Bad Refused) ≡ BadWords Refused
status_of_refused_words = refl

pub number_of_bad_words : status_number (BadWords Bound) ≡ 2
number_of_bad_words = refl

pub line_of_small_tables : status_line (BadWords Bound) ≡ codes "hhh: bad words: bound\n"
line_of_small_tables = refl

-- running out of memory is reported alike, whether the arguments or the capture were being read
pub want_of_memory_for_words : status_number (status_of_words words.OutOfMemory) ≡ 13
want_of_memory_for_words = refl

pub want_of_memory_for_a_capture : status_of refusals.OutOfMemory ≡ status_of_words words.OutOfMemory
want_of_memory_for_a_capture = refl

pub text_of_a_write_fault : status_text WriteFault ≡ codes "write fault"
text_of_a_write_fault = refl

pub number_of_a_read_fault : status_number (status_of refusals.ReadFault) ≡ 4
number_of_a_read_fault = refl

pub number_of_success : status_number Done ≡ 0
number_of_success = refl

-- ---- statuses of stores

pub number_of_a_disk_fault : status_number DiskFault ≡ 6
number_of_a_disk_fault = refl

pub text_of_a_disk_fault : status_text DiskFault ≡ codes "disk fault"
text_of_a_disk_fault = refl

pub number_of_a_store_without_a_header : status_number NotFormatted ≡ 7
number_of_a_store_without_a_header = refl

pub text_of_a_store_without_a_header : status_text NotFormatted ≡ codes "store not formatted"
text_of_a_store_without_a_header = refl

pub number_of_a_damaged_store : status_number (Damaged 1) ≡ 8
number_of_a_damaged_store = refl

pub line_of_a_damaged_store : status_line (Damaged 1) ≡ codes "hhh: store damaged: slot 1\n"
unfolding digits
line_of_a_damaged_store = refl

-- the lines don't include the settings or the digests
pub number_of_other_settings : (stored asked : StoreSettings) → status_number (OtherSettings stored asked) ≡ 9
number_of_other_settings stored asked = refl

pub text_of_other_settings : (stored asked : StoreSettings)
    → status_text (OtherSettings stored asked) ≡ codes "store has other settings"
text_of_other_settings stored asked = refl

pub number_of_another_capture : (stored asked : List ℕ) → status_number (OtherCapture stored asked) ≡ 10
number_of_another_capture stored asked = refl

pub text_of_another_capture : (stored asked : List ℕ)
    → status_text (OtherCapture stored asked) ≡ codes "store is of another capture"
text_of_another_capture stored asked = refl

pub status_of_a_damaged_store : status_of_opening (opening.Damaged 0) ≡ Damaged 0
status_of_a_damaged_store = refl

-- running out of memory is reported alike, whether a store was being opened or arguments were being read
pub want_of_memory_for_a_store : status_of_opening opening.OutOfMemory ≡ status_of_words words.OutOfMemory
want_of_memory_for_a_store = refl

-- ---- statuses of audits

pub number_of_an_unsound_report : status_number (AuditNo 2 BadTotal) ≡ 11
number_of_an_unsound_report = refl

-- the line on standard error doesn't include the verdict, which was written
pub text_of_an_unsound_report : status_text (AuditNo 2 BadTotal) ≡ codes "audit: no"
text_of_an_unsound_report = refl

pub line_of_a_bad_line : status_line (BadReport (BadLine 4)) ≡ codes "hhh: bad report: line 4\n"
unfolding digits
line_of_a_bad_line = refl

pub line_of_a_missing_end : status_line (BadReport (MissingEnd 7)) ≡ codes "hhh: bad report: no end at line 7\n"
unfolding digits
line_of_a_missing_end = refl

pub text_of_a_long_text : session_text TooLong ≡ codes "too long"
text_of_a_long_text = refl

pub status_of_a_bad_line : status_of_session (session.Text (BadLine 4)) ≡ BadReport (BadLine 4)
status_of_a_bad_line = refl

pub number_of_a_bad_line : status_number (BadReport (BadLine 4)) ≡ 12
number_of_a_bad_line = refl
