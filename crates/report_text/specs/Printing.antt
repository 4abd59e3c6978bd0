-- The texts of reports and of the lines around them, and the positions that they can show.
use Rattle.std.specs.Prelude.{ℕ, ◌+◌, ◌*◌, ◌≤◌, List, length, All, [], ◌∷◌, ◌++◌, map, codes, decimal, ◌<◌, ◌^◌}
use Rattle.std.specs.Prelude.{Option, Some, None}
use Rattle.std.specs.List.{join_with_byte, flat_map}
use Rattle.prefix_lattice.specs.{text_space, prefix_text, IsPrefix, finest_grain, longest_prefix_text, record_limit}
use Rattle.prefix_lattice.specs.{shard_limit}
use Rattle.prefix_lattice.specs.declared.grain.Grain.{Grain}
use Rattle.hhh_report.specs.declared.line.Line.{Line}
use Rattle.hhh_report.specs.declared.report.Report.{Report}
use Rattle.frame_records.specs.declared.records.Records.{Records}
use Rattle.report_text.specs.declared.mark.Mark.{Mark}
use Rattle.report_text.specs.declared.mark.Mark.TheVariants.{Opened, Saved}

-- one position for each of 1 to 16 shards, none above 16,777,216, the most frames that a capture can have
pub record ShowsPositions (positions : List ℕ) : Type 0 where
  pub some : 1 ≤ length positions
  pub few : length positions ≤ shard_limit
  pub within : All (λ position. position ≤ record_limit) positions

-- a line of text: its words, joined by one space, and a line feed
abbrev pub text_line : List (List ℕ) → List ℕ
text_line words = join_with_byte text_space words ++ codes "\n"

-- a line with a name and a number
abbrev pub number_text : List ℕ → ℕ → List ℕ
number_text name number = text_line (name ∷ decimal number ∷ [])

-- a line with a name and some positions
abbrev pub positions_text : List ℕ → List ℕ → List ℕ
positions_text name positions = text_line (name ∷ map decimal positions)

-- the most bytes of a number of 64 bits in decimal
abbrev pub number_length : ℕ
number_length = 20

-- the most bytes of a line of a report: `line`, a prefix and two numbers, each with a space or a line feed
abbrev pub line_length : ℕ
line_length = 4 + 1 + longest_prefix_text + 2 * (1 + number_length) + 1

-- the most bytes of the line of a cut frame: `cut` and its place, and after each a space or a line feed
abbrev pub cut_length : ℕ
cut_length = 3 + 1 + number_length + 1

-- a line of a report: `line`, the prefix, which is two words, its low and its high
abbrev pub line_text : Line → List ℕ
line_text line = text_line (codes "line" ∷ prefix_text line.prefix ∷ decimal line.lo ∷ decimal line.hi ∷ [])

-- the lines of a report, one after another
abbrev pub lines_text : List Line → List ℕ
lines_text lines = flat_map line_text lines

-- the text of a report
abbrev pub report_text : Report → List ℕ
report_text report =
    text_line (codes "report" ∷ [])
    ++ positions_text (codes "at") report.positions
    ++ number_text (codes "total") report.total
    ++ number_text (codes "threshold") report.threshold
    ++ lines_text report.lines
    ++ text_line (codes "done" ∷ [])

-- the name of a line of positions
abbrev pub mark_name_text : Mark → List ℕ
mark_name_text Opened = codes "opened"
mark_name_text Saved = codes "saved"

-- the line of the positions at the start of a session, or of a saved cut
abbrev pub mark_text : Mark → List ℕ → List ℕ
mark_text mark positions = positions_text (mark_name_text mark) positions

-- the line of the place of the frame inside which a capture ended, if it did
abbrev pub cut_text : Option ℕ → List ℕ
cut_text None = []
cut_text (Some place) = number_text (codes "cut") place

-- the last lines: how many frames were read, how many were skipped as not IPv4, as short and for a bad header, the place
-- of a frame that was cut, if one was, and the end
abbrev pub last_text : (frames not_ipv4 short bad_header : ℕ) (cut : Option ℕ) → List ℕ
last_text frames not_ipv4 short bad_header cut =
    number_text (codes "frames") frames
    ++ text_line (codes "skipped" ∷ decimal not_ipv4 ∷ decimal short ∷ decimal bad_header ∷ [])
    ++ cut_text cut
    ++ text_line (codes "end" ∷ [])

-- the last lines, with the counts of some records and the place of the frame that was cut
abbrev pub tail_text : Records → List ℕ
tail_text records = last_text records.frames records.not_ipv4 records.short records.bad_header records.cut

-- the line shows a prefix, and its low and high are 64-bit numbers
pub record ShowsLine (grain : Grain) (line : Line) : Type 0 where
  pub is_prefix : IsPrefix grain line.prefix
  pub low : line.lo < 2 ^ 64
  pub high : line.hi < 2 ^ 64

-- the numbers of the report are 64-bit numbers, and its lines show prefixes
pub record Shows (report : Report) : Type 0 where
  pub positions : All (λ position. position < 2 ^ 64) report.positions
  pub total : report.total < 2 ^ 64
  pub threshold : report.threshold < 2 ^ 64
  pub lines : All (ShowsLine finest_grain) report.lines
