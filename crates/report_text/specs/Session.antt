-- The text of a session: what its lines hold, in which order they come, and what is wrong with a text that is none.
use Rattle.std.specs.Prelude.{⊤, ℕ, ◌≡◌, ◌+◌, ◌<◌, ◌≤◌, ◌^◌, ◌⊎◌, ◌==◌, if◌then◌else◌, List, [], ◌∷◌, ◌++◌, length}
use Rattle.std.specs.Prelude.{map, take, All, codes, decimal, Option, Some, None, IfSome}
use Rattle.std.specs.List.{flat_map, AllZip}
use Rattle.prefix_lattice.specs.{side_text}
use Rattle.prefix_lattice.specs.declared.grain.Grain.{Grain}
use Rattle.hhh_report.specs.{IsSameReport}
use Rattle.hhh_report.specs.declared.line.Line.{Line as LineValue}
use Rattle.hhh_report.specs.declared.report.Report.{Report as ReportValue}
use Rattle.hhh_report.specs.declared.reports.Reported.{Reported}
use Rattle.report_text.specs.Printing.{ShowsPositions, ShowsLine, text_line, report_text}
use Rattle.report_text.specs.Printing.{mark_text, last_text}
use Rattle.report_text.specs.declared.mark.Mark.TheVariants.{Opened as OpenedMark, Saved as SavedMark}
use Rattle.report_text.specs.declared.session.Session.{Session}
use Rattle.report_text.specs.declared.session_line.Skips.{Skips}
use Rattle.report_text.specs.declared.session_line.SessionLine.{SessionLine}
use Rattle.report_text.specs.declared.session_line.SessionLine.TheVariants.{Opened, Report, At, Total, Threshold, Line}
use Rattle.report_text.specs.declared.session_line.SessionLine.TheVariants.{Done, Saved, Frames, Skipped, Cut, End}
use Rattle.report_text.specs.declared.session_fault.TextFault.{TextFault}
use Rattle.report_text.specs.declared.session_fault.TextFault.TheVariants.{BadLine, MissingEnd, TooLong}
use Rattle.report_text.specs.declared.session_fault.SessionFault.{SessionFault}
use Rattle.report_text.specs.declared.session_fault.SessionFault.TheVariants.{Text, OutOfMemory}

-- the words of a line of a report after its first: source, destination, low and high
abbrev pub report_words : LineValue → List (List ℕ)
report_words line =
    side_text line.prefix.source ∷ side_text line.prefix.dest ∷ decimal line.lo ∷ decimal line.hi ∷ []

-- how many frames were skipped as not IPv4, as short and for a bad header
abbrev pub skipped_words : Skips → List (List ℕ)
skipped_words skips = decimal skips.not_ipv4 ∷ decimal skips.short ∷ decimal skips.bad_header ∷ []

-- the words of each line of a session
abbrev pub line_words : SessionLine → List (List ℕ)
line_words (Opened positions) = codes "opened" ∷ map decimal positions
line_words Report = codes "report" ∷ []
line_words (At positions) = codes "at" ∷ map decimal positions
line_words (Total total) = codes "total" ∷ decimal total ∷ []
line_words (Threshold threshold) = codes "threshold" ∷ decimal threshold ∷ []
line_words (Line line) = codes "line" ∷ report_words line
line_words Done = codes "done" ∷ []
line_words (Saved positions) = codes "saved" ∷ map decimal positions
line_words (Frames frames) = codes "frames" ∷ decimal frames ∷ []
line_words (Skipped skips) = codes "skipped" ∷ skipped_words skips
line_words (Cut place) = codes "cut" ∷ decimal place ∷ []
line_words End = codes "end" ∷ []

-- the text of a line of a session: its words, joined by one space, and a line feed
abbrev pub words_text : SessionLine → List ℕ
words_text line = text_line (line_words line)

-- a line of a report that can be shown: its prefix and its numbers, with its low at most its high
pub record IsReportLine (grain : Grain) (line : LineValue) : Type 0 where
  pub showable : ShowsLine grain line
  pub ordered : line.lo ≤ line.hi

-- numbers of 64 bits
pub record AreSkips (skips : Skips) : Type 0 where
  pub not_ipv4 : skips.not_ipv4 < 2 ^ 64
  pub short : skips.short < 2 ^ 64
  pub bad_header : skips.bad_header < 2 ^ 64

-- what a line may hold: one position, at most 16,777,216, for each of 1 to 16 shards; numbers of 64 bits; a threshold
-- of at least 1; a prefix with its low at most its high
abbrev pub IsSessionLine : Grain → SessionLine → Type 0
IsSessionLine grain (Opened positions) = ShowsPositions positions
IsSessionLine grain Report = ⊤
IsSessionLine grain (At positions) = ShowsPositions positions
IsSessionLine grain (Total total) = total < 2 ^ 64
IsSessionLine grain (Threshold threshold) = (1 ≤ threshold) × (threshold < 2 ^ 64)
IsSessionLine grain (Line line) = IsReportLine grain line
IsSessionLine grain Done = ⊤
IsSessionLine grain (Saved positions) = ShowsPositions positions
IsSessionLine grain (Frames frames) = frames < 2 ^ 64
IsSessionLine grain (Skipped skips) = AreSkips skips
IsSessionLine grain (Cut place) = place < 2 ^ 64
IsSessionLine grain End = ⊤

-- the lines of a report
abbrev pub report_lines : ReportValue → List SessionLine
report_lines report =
    Report ∷ At report.positions ∷ Total report.total ∷ Threshold report.threshold ∷ (map Line report.lines ++ Done ∷ [])

-- the line after a report whose cut was saved
abbrev pub saved_lines : Option (List ℕ) → List SessionLine
saved_lines None = []
saved_lines (Some positions) = Saved positions ∷ []

-- the lines of a report of a session: those of the report itself, and at most one that says that its cut was saved
abbrev pub reported_lines : Reported → List SessionLine
reported_lines reported = report_lines reported.report ++ saved_lines reported.saved

-- the line after the counts of frames, if the capture ended inside a frame
abbrev pub cut_lines : Option ℕ → List SessionLine
cut_lines None = []
cut_lines (Some place) = Cut place ∷ []

-- the lines of a session: the positions at its start, its reports, the four counts of frames, the place of a frame that
-- was cut, if one was, and the end
abbrev pub session_lines : Session → List SessionLine
session_lines session =
    Opened session.opened
    ∷ (flat_map reported_lines session.reports
    ++ Frames session.frames
    ∷ Skipped (record { not_ipv4 = session.not_ipv4; short = session.short; bad_header = session.bad_header })
    ∷ (cut_lines session.cut ++ End ∷ []))

-- the text of a session: that of its lines, one after the other
abbrev pub session_text : Session → List ℕ
session_text session = flat_map words_text (session_lines session)

-- as many positions as the session has shards
pub record ArePositions (shards : ℕ) (positions : List ℕ) : Type 0 where
  pub are_positions : ShowsPositions positions
  pub as_many : length positions ≡ shards

-- a report of a session over this many shards. By the invariant of the type `Report` its lines are in the strict order of a report, each with
-- its low at most its high, and fewer than 2^24
pub record IsReported (grain : Grain) (shards : ℕ) (reported : Reported) : Type 0 where
  pub positions : ArePositions shards reported.report.positions
  pub total : reported.report.total < 2 ^ 64
  pub some : 1 ≤ reported.report.threshold
  pub threshold : reported.report.threshold < 2 ^ 64
  pub lines : All (ShowsLine grain) reported.report.lines
  pub saved : IfSome reported.saved (ArePositions shards)

-- what a session text can show: one report or more, all lists of positions of one length, and numbers of 64 bits
pub record IsTextSession (grain : Grain) (session : Session) : Type 0 where
  pub opened : ShowsPositions session.opened
  pub some : 1 ≤ length session.reports
  pub reports : All (IsReported grain (length session.opened)) session.reports
  pub frames : session.frames < 2 ^ 64
  pub not_ipv4 : session.not_ipv4 < 2 ^ 64
  pub short : session.short < 2 ^ 64
  pub bad_header : session.bad_header < 2 ^ 64
  pub cut : IfSome session.cut (λ place. place < 2 ^ 64)

-- the text of the session
pub record IsSessionText (grain : Grain) (text : List ℕ) (session : Session) : Type 0 where
  pub is_session : IsTextSession grain session
  pub spelled : text ≡ session_text session

-- the byte that ends a line
abbrev pub line_feed : ℕ
line_feed = 10

-- a byte in front of the first line, if there is one
abbrev pub before_line : ℕ → List (List ℕ) → List (List ℕ)
before_line byte [] = []
before_line byte (line ∷ lines) = (byte ∷ line) ∷ lines

-- the whole lines of a text, each with its line feed; what follows the last line feed is no whole line
abbrev pub whole_lines : List ℕ → List (List ℕ)
whole_lines [] = []
whole_lines (byte ∷ rest) =
    if byte == line_feed then (byte ∷ []) ∷ whole_lines rest else before_line byte (whole_lines rest)

-- some session begins with these lines
pub record AreFirstLines (grain : Grain) (lines : List (List ℕ)) : Type 0 where
  pub session : Session
  pub is_session : IsTextSession grain session
  pub others : List (List ℕ)
  pub begun : map words_text (session_lines session) ≡ lines ++ others

-- the whole lines before line `before + 1` begin a session, this line is whole too, and with it they begin none
pub record IsWrongAfter (grain : Grain) (text : List ℕ) (before : ℕ) : Type 0 where
  pub whole : before < length (whole_lines text)
  pub begun : AreFirstLines grain (take before (whole_lines text))
  pub wrong : ¬ AreFirstLines grain (take (before + 1) (whole_lines text))

-- the text begins with that of a whole session, which has this many lines, and at least one byte follows
pub record GoesOnAfter (grain : Grain) (text : List ℕ) (before : ℕ) : Type 0 where
  pub session : Session
  pub is_session : IsTextSession grain session
  pub byte : ℕ
  pub others : List ℕ
  pub spelled : text ≡ session_text session ++ byte ∷ others
  pub ends : length (session_lines session) ≡ before

-- the first wrong line of a text, by its number, counted from 1
abbrev pub IsBadLine : Grain → List ℕ → ℕ → Type 0
IsBadLine grain text number =
    (before : ℕ) × (number ≡ before + 1) × (IsWrongAfter grain text before ⊎ GoesOnAfter grain text before)

-- the most bytes of a session text that is read
abbrev pub longest_session : ℕ
longest_session = 268435456

-- what is wrong with a text: it is too long, which is tested first; or a line is wrong; or no line is, and no session
-- has this text, so that the next line is missing
abbrev pub HasSessionFault : Grain → List ℕ → TextFault → Type 0
HasSessionFault grain text TooLong = longest_session < length text
HasSessionFault grain text (BadLine number) = (length text ≤ longest_session) × IsBadLine grain text number
HasSessionFault grain text (MissingEnd number) =
    (length text ≤ longest_session) × (number ≡ length (whole_lines text) + 1)
    × ((line : ℕ) → ¬ IsBadLine grain text line) × ((session : Session) → ¬ IsSessionText grain text session)

-- why a text is not read: its fault, or that memory ran out
abbrev pub HasReadFault : Grain → List ℕ → SessionFault → Type 0
HasReadFault grain text (Text fault) = HasSessionFault grain text fault
HasReadFault grain text OutOfMemory = ⊤

-- two sessions say the same
pub record AreSameSessions (session other : Session) : Type 0 where
  pub opened : session.opened ≡ other.opened
  pub reports : AllZip (λ reported another. IsSameReport reported.report another.report × (reported.saved ≡ another.saved))
      session.reports other.reports
  pub frames : session.frames ≡ other.frames
  pub not_ipv4 : session.not_ipv4 ≡ other.not_ipv4
  pub short : session.short ≡ other.short
  pub bad_header : session.bad_header ≡ other.bad_header
  pub cut : session.cut ≡ other.cut

-- the line that says that a cut was saved, as it is printed
abbrev pub saved_text : Option (List ℕ) → List ℕ
saved_text None = []
saved_text (Some positions) = mark_text SavedMark positions

-- a report of a session, as it is printed
abbrev pub reported_text : Reported → List ℕ
reported_text reported = report_text reported.report ++ saved_text reported.saved

-- a session, as it is printed in parts: the line of the positions at its start, each report, and the last lines
abbrev pub printed_text : Session → List ℕ
printed_text session =
    mark_text OpenedMark session.opened
    ++ (flat_map reported_text session.reports
    ++ last_text session.frames session.not_ipv4 session.short session.bad_header session.cut)
