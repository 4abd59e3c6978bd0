-- The audit of a session: which of its reports are sound over the records of a capture.
use Rattle.std.specs.Prelude.{ℕ, ◌≡◌, ◌≢◌, ◌⊎◌, ◌+◌, ◌≤◌, List, ◌++◌, length, take, All, codes, decimal, slice_get}
use Rattle.std.specs.Prelude.{Option, Some}
use Rattle.std.specs.Io.KnownBytes.{Consumes, IsAtEnd}
use Rattle.prefix_lattice.specs.{RecordValue, prefix_text}
use Rattle.hhh_report.specs.{IsSound}
use Rattle.hhh_report.specs.declared.reports.Reported.{Reported}
use Rattle.frame_records.specs.declared.records.Records.{Records}
use Rattle.report_text.specs.{IsSessionText, longest_session}
use Rattle.report_text.specs.declared.session.Session.{Session}
use Rattle.report_text.specs.declared.session_fault.TextFault.{TextFault}
use Rattle.report_text.specs.declared.session_fault.TextFault.TheVariants.{TooLong}
use Rattle.exact_audit.specs.{IsVerdict}
use Rattle.exact_audit.specs.declared.verdict.Verdict.{Verdict}
use Rattle.exact_audit.specs.declared.verdict.Verdict.TheVariants.{Good, BadPositions, BadTotal, BadThreshold}
use Rattle.exact_audit.specs.declared.verdict.Verdict.TheVariants.{BadInterval, TooWide, LowLine, NotJustified, LeftOut}
use Rattle.command_words.specs.declared.settings.Settings.{Settings}
use Rattle.dealt_capture.specs.{AreDealtRecords, DealingRules}

-- a verdict, in a few words
abbrev pub verdict_text : Verdict → List ℕ
verdict_text Good = codes "good"
verdict_text BadPositions = codes "bad positions"
verdict_text BadTotal = codes "bad total"
verdict_text BadThreshold = codes "bad threshold"
verdict_text (BadInterval line) = codes "bad interval in line " ++ decimal line
verdict_text (TooWide line) = codes "too wide in line " ++ decimal line
verdict_text (LowLine line) = codes "below threshold in line " ++ decimal line
verdict_text (NotJustified line) = codes "not justified in line " ++ decimal line
verdict_text (LeftOut prefix weight) = codes "left out " ++ prefix_text prefix ++ codes " " ++ decimal weight

-- the line for a session whose reports are all sound: how many there are
abbrev pub sound_audit : ℕ → List ℕ
sound_audit count = codes "good " ++ decimal count ++ codes "\n"

-- the line for the first report that is not sound: its number, from 1, and the verdict on it
abbrev pub unsound_audit : ℕ → Verdict → List ℕ
unsound_audit number verdict = codes "report " ++ decimal number ++ codes ": " ++ verdict_text verdict ++ codes "\n"

-- a report is sound over dealt lists, for the capacity and the share of the settings
abbrev pub IsAuditedSound : Settings → List (List RecordValue) → Reported → Type 0
IsAuditedSound settings lists reported = IsSound settings.grain reported.report lists settings.capacity settings.phi

-- the report of this number, from 1, is the first that is not sound, and this is the verdict on it
pub record IsFirstUnsound (settings : Settings) (lists : List (List RecordValue)) (reports : List Reported) (number : ℕ)
    (verdict : Verdict) : Type 0 where
  pub before : ℕ
  pub counted : number ≡ before + 1
  pub reported : Reported
  pub is : slice_get reports before ≡ Some reported
  pub found : IsVerdict settings.grain lists settings.capacity settings.phi reported.report verdict
  pub not_good : verdict ≢ Good
  pub sound : All (IsAuditedSound settings lists) (take before reports)

-- a capture and the text of a session, as an audit sees them: the records of the capture, dealt as the settings ask, and
-- what the text says
pub record AreAudited (settings : Settings) (rules : DealingRules) (file text : List ℕ) (lists : List (List RecordValue))
    (session : Session) : Type 0 where
  pub records : Records
  pub dealt : AreDealtRecords settings rules file records lists
  pub is_session : IsSessionText settings.grain text session
  pub not_long : length text ≤ longest_session

-- all reports of a session are sound over the records of a capture, and the answer is their number
pub record IsSoundAudit (settings : Settings) (rules : DealingRules) (file text answer : List ℕ) : Type 0 where
  pub lists : List (List RecordValue)
  pub session : Session
  pub audited : AreAudited settings rules file text lists session
  pub sound : All (IsAuditedSound settings lists) session.reports
  pub spelled : answer ≡ sound_audit (length session.reports)

-- a report of a session is the first that is not sound over the records of a capture
pub record IsUnsoundAudit (settings : Settings) (rules : DealingRules) (file text : List ℕ) (number : ℕ) (verdict : Verdict)
    : Type 0 where
  pub lists : List (List RecordValue)
  pub session : Session
  pub audited : AreAudited settings rules file text lists session
  pub first : IsFirstUnsound settings lists session.reports number verdict

-- the text that an audit of a session writes
abbrev pub IsAuditText : Settings → DealingRules → List ℕ → List ℕ → List ℕ → Type 0
IsAuditText settings rules file text answer =
    IsSoundAudit settings rules file text answer
    ⊎ ((number : ℕ) × (verdict : Verdict) × IsUnsoundAudit settings rules file text number verdict
    × (answer ≡ unsound_audit number verdict))

-- of a text one byte was read past the longest one that is audited
pub record ReadPastLimit (old new : Option (List ℕ)) : Type 0 where
  pub front : List ℕ
  pub consumed : Consumes old new front
  pub limit : length front ≡ longest_session + 1

-- how far a text was read that was refused for this fault: no further than shows that it is too long, else to its end
abbrev pub ReadOnFault : TextFault → (old new : Option (List ℕ)) → Type 0
ReadOnFault TooLong old new = ReadPastLimit old new
ReadOnFault _ old new = IsAtEnd new
