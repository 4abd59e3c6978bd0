-- The statuses of the program.
use Rattle.std.specs.Prelude.{ℕ, List, ◌++◌, codes, decimal}
use Rattle.pcap_frames.specs.declared.fault.ReadRefusal.{ReadRefusal}
use Rattle.command_words.specs.declared.words_kind.WordsRefusal.{WordsRefusal}
use Rattle.run_status.specs.declared.status.Status.{Status}
use Rattle.run_status.specs.declared.status.Status.TheVariants.{Done, BadWords, BadCapture, ReadFault, WriteFault}
use Rattle.run_status.specs.declared.status.Status.TheVariants.{DiskFault, NotFormatted, Damaged, OtherSettings}
use Rattle.run_status.specs.declared.status.Status.TheVariants.{OtherCapture, AuditNo, BadReport, OutOfMemory}
use Rattle.recovery.specs.declared.fault.OpenFault.{OpenFault}
use Rattle.recovery.specs.declared.fault.OpenFault.TheVariants as opening
use Rattle.pcap_frames.specs.declared.fault.FaultKind.{FaultKind}
use Rattle.pcap_frames.specs.declared.fault.FaultKind.TheVariants.{ShortHeader, NotCapture, Version, Link}
use Rattle.pcap_frames.specs.declared.fault.FaultKind.TheVariants.{LongFrame, CutFrame, TooManyFrames}
use Rattle.pcap_frames.specs.declared.fault.FaultKind.TheVariants.{ByteOrder, BadBlock, BadTail, BadInterface}
use Rattle.pcap_frames.specs.declared.fault.FaultKind.TheVariants.{CutBlock, TooManyBlocks}
use Rattle.command_words.specs.declared.words_kind.WordsKind.{WordsKind}
use Rattle.command_words.specs.declared.words_kind.WordsKind.TheVariants.{NoCommand, UnknownCommand, Refused}
use Rattle.command_words.specs.declared.words_kind.WordsKind.TheVariants.{BadPrefix, BadNumber, OutOfLimits}
use Rattle.command_words.specs.declared.words_kind.WordsKind.TheVariants.{BadChoice, Bound}
use Rattle.pcap_frames.specs.declared.fault.ReadRefusal.TheVariants as refusals
use Rattle.command_words.specs.declared.words_kind.WordsRefusal.TheVariants as words
use Rattle.report_text.specs.declared.session_fault.SessionFault.{SessionFault}
use Rattle.report_text.specs.declared.session_fault.SessionFault.TheVariants as session
use Rattle.report_text.specs.declared.session_fault.TextFault.{TextFault}
use Rattle.report_text.specs.declared.session_fault.TextFault.TheVariants.{BadLine, MissingEnd, TooLong}

-- the exit status for how a command ended
abbrev pub status_number : Status → ℕ
status_number Done = 0
status_number (BadWords kind) = 2
status_number (BadCapture fault) = 3
status_number ReadFault = 4
status_number WriteFault = 5
status_number DiskFault = 6
status_number NotFormatted = 7
status_number (Damaged slot) = 8
status_number (OtherSettings stored asked) = 9
status_number (OtherCapture stored asked) = 10
status_number (AuditNo report verdict) = 11
status_number (BadReport fault) = 12
status_number OutOfMemory = 13

-- the status of a command whose capture was refused
abbrev pub status_of : ReadRefusal → Status
status_of (refusals.Capture fault) = BadCapture fault
status_of refusals.ReadFault = ReadFault
status_of refusals.OutOfMemory = OutOfMemory

-- the status of a command whose arguments were refused
abbrev pub status_of_words : WordsRefusal → Status
status_of_words (words.Bad kind) = BadWords kind
status_of_words words.OutOfMemory = OutOfMemory

-- the status of a command whose store was not opened
abbrev pub status_of_opening : OpenFault → Status
status_of_opening opening.DiskFault = DiskFault
status_of_opening opening.NotFormatted = NotFormatted
status_of_opening (opening.OtherSettings stored asked) = OtherSettings stored asked
status_of_opening (opening.Damaged slot) = Damaged slot
status_of_opening (opening.OtherCapture stored asked) = OtherCapture stored asked
status_of_opening opening.OutOfMemory = OutOfMemory

-- the status of a command whose session text was not read
abbrev pub status_of_session : SessionFault → Status
status_of_session (session.Text fault) = BadReport fault
status_of_session session.OutOfMemory = OutOfMemory

-- what is wrong with the arguments, in a word or two
abbrev pub words_text : WordsKind → List ℕ
words_text NoCommand = codes "no command"
words_text UnknownCommand = codes "unknown command"
words_text Refused = codes "refused"
words_text (BadPrefix fault) = codes "prefix"
words_text (BadNumber option) = codes "number"
words_text (OutOfLimits option) = codes "limits"
words_text (BadChoice option) = codes "choice"
words_text Bound = codes "bound"

-- what is wrong with a capture, in a few words
abbrev pub fault_text : FaultKind → List ℕ
fault_text ShortHeader = codes "short header"
fault_text NotCapture = codes "not a capture"
fault_text Version = codes "version"
fault_text Link = codes "link"
fault_text LongFrame = codes "long frame"
fault_text CutFrame = codes "cut frame"
fault_text TooManyFrames = codes "too many frames"
fault_text ByteOrder = codes "byte order"
fault_text BadBlock = codes "block"
fault_text BadTail = codes "block tail"
fault_text BadInterface = codes "interface"
fault_text CutBlock = codes "cut block"
fault_text TooManyBlocks = codes "too many blocks"

-- what is wrong with the text of a session, in a few words
abbrev pub session_text : TextFault → List ℕ
session_text (BadLine line) = codes "line " ++ decimal line
session_text (MissingEnd line) = codes "no end at line " ++ decimal line
session_text TooLong = codes "too long"

-- how a command ended, as text
abbrev pub status_text : Status → List ℕ
status_text Done = codes "done"
status_text (BadWords kind) = codes "bad words: " ++ words_text kind
status_text (BadCapture fault) = codes "bad capture: " ++ fault_text fault.kind ++ codes " at " ++ decimal fault.place
status_text ReadFault = codes "read fault"
status_text WriteFault = codes "write fault"
status_text DiskFault = codes "disk fault"
status_text NotFormatted = codes "store not formatted"
status_text (Damaged slot) = codes "store damaged: slot " ++ decimal slot
status_text (OtherSettings stored asked) = codes "store has other settings"
status_text (OtherCapture stored asked) = codes "store is of another capture"
status_text (AuditNo report verdict) = codes "audit: no"
status_text (BadReport fault) = codes "bad report: " ++ session_text fault
status_text OutOfMemory = codes "out of memory"

-- the line that reports on standard error how a command ended
abbrev pub status_line : Status → List ℕ
status_line status = codes "hhh: " ++ status_text status ++ codes "\n"
