-- Worked examples of the texts of sessions.
use Rattle.std.proofs.Common.{◌≡◌, ℕ, ◌^◌, ◌<◌, ◌≤◌, inr, [], ◌∷◌, codes, Some, None, refl, arith}
use Rattle.std.proofs.lemmas.List.Elements.{All-nil, All-cons, All-from_recursion}
use Rattle.std.specs.Fmt.{digits}
use Rattle.prefix_lattice.specs.declared.grain.Grain.TheVariants.{Byte, Nibble}
use Rattle.hhh_report.specs.declared.line.Line.{Line as LineValue}
use Rattle.hhh_report.specs.declared.report.Report.{Report as ReportValue}
use Rattle.report_text.specs.Printing.{ShowsPositions, ShowsLine}
use Rattle.report_text.specs.Session.{IsSessionLine, ArePositions, IsReported}
use Rattle.report_text.specs.Session.{IsTextSession}
use Rattle.report_text.specs.Session.{HasSessionFault, whole_lines}
use Rattle.report_text.specs.Session.{session_text}
use Rattle.report_text.specs.Stages.{Stage, FollowsStage, counted, cut, ended}
use Rattle.report_text.specs.declared.session.Session.{Session}
use Rattle.report_text.specs.declared.session_fault.TextFault.TheVariants.{BadLine}
use Rattle.report_text.specs.declared.session_line.SessionLine.TheVariants.{At, Total, Threshold, Line, Cut}
use Rattle.report_text.proofs.ShortListLemmas.{short_list_of_no_line}
use Rattle.report_text.proofs.Examples.{report, half, line_of_half_a_byte, no_line_by_bytes}

-- the session over one shard with that report, of one frame
abbrev session : Session
session = record {
  opened = 0 ∷ [];
  reports = record { report = report; saved = None } ∷ [];
  frames = 1;
  not_ipv4 = 0;
  short = 0;
  bad_header = 0;
  cut = None;
}

pub text_of_a_session : session_text session
    ≡ codes "opened 0\nreport\nat 1\ntotal 100\nthreshold 1\nline 10.1.2.3/32 20.1.2.3/32 100 100\ndone\nframes 1\nskipped 0 0 0\nend\n"
unfolding digits
text_of_a_session = refl

-- the report of no record
abbrev empty : ReportValue
empty = record { positions = 0 ∷ []; total = 0; threshold = 1; lines = []; are_lines = short_list_of_no_line }

-- two reports, the second of which was saved
abbrev saved_session : Session
saved_session = record {
  opened = 0 ∷ [];
  reports = record { report = empty; saved = None } ∷ record { report = empty; saved = Some (0 ∷ []) } ∷ [];
  frames = 6;
  not_ipv4 = 3;
  short = 2;
  bad_header = 1;
  cut = None;
}

pub text_of_saved_positions : session_text saved_session
    ≡ codes "opened 0\nreport\nat 0\ntotal 0\nthreshold 1\ndone\nreport\nat 0\ntotal 0\nthreshold 1\ndone\nsaved 0\nframes 6\nskipped 3 2 1\nend\n"
unfolding digits
text_of_saved_positions = refl

pub whole_lines_of_a_text : whole_lines (codes "opened 0\nreport\nat") ≡ codes "opened 0\n" ∷ codes "report\n" ∷ []
whole_lines_of_a_text = refl

pub whole_lines_of_a_line_feed : whole_lines (codes "\n") ≡ codes "\n" ∷ []
whole_lines_of_a_line_feed = refl

pub whole_lines_without_a_line_feed : whole_lines (codes "end") ≡ []
whole_lines_without_a_line_feed = refl

pub no_threshold_is_zero : ¬ IsSessionLine Byte (Threshold 0)
no_threshold_is_zero is = let some : 1 ≤ 0 = is.0 in omega (arith, some)

pub no_number_has_65_bits : ¬ IsSessionLine Byte (Total (2 ^ 64))
no_number_has_65_bits is = let small : 2 ^ 64 < 2 ^ 64 = is in omega (arith, small)

pub no_position_is_past_the_greatest : ¬ IsSessionLine Byte (At (16777217 ∷ []))
no_position_is_past_the_greatest is =
    let most : 16777217 ≤ 16777216 = is.within 0 0 (omega arith) in omega (arith, most)

pub no_low_is_above_its_high : (line : LineValue) → line.lo ≡ 101 → line.hi ≡ 100 → ¬ IsSessionLine Byte (Line line)
no_low_is_above_its_high line low high is = omega (arith, is.ordered, low, high)

pub half_a_byte_in_a_session : IsSessionLine Nibble (Line half)
half_a_byte_in_a_session = record { showable = line_of_half_a_byte; ordered = omega arith }

pub no_half_a_byte_by_bytes : ¬ IsSessionLine Byte (Line half)
no_half_a_byte_by_bytes is = no_line_by_bytes is.showable

pub no_session_is_without_a_report : ¬ IsTextSession Byte (record session { reports = [] })
no_session_is_without_a_report is = omega (arith, is.some)

pub no_positions_are_of_another_length : ¬ ArePositions 2 (1 ∷ [])
no_positions_are_of_another_length are = omega (arith, are.as_many)

-- the session of no record
abbrev empty_session : Session
empty_session = record {
  opened = 0 ∷ [];
  reports = record { report = empty; saved = None } ∷ [];
  frames = 0;
  not_ipv4 = 0;
  short = 0;
  bad_header = 0;
  cut = None;
}

first_position : ShowsPositions (0 ∷ [])
first_position = record {
  some = omega arith;
  few = omega arith;
  within = All-from_recursion (λ (position : ℕ). position ≤ 16777216) (0 ∷ []) (omega arith, tt);
}

pub session_of_no_record : IsTextSession Byte empty_session
session_of_no_record = record {
  opened = first_position;
  some = omega arith;
  reports =
      All-cons (IsReported Byte 1) (record { report = empty; saved = None }) []
      (record {
        positions = record { are_positions = first_position; as_many = refl };
        total = omega arith;
        some = omega arith;
        threshold = omega arith;
        lines = All-nil (ShowsLine Byte);
        saved = tt;
      })
      (All-nil (IsReported Byte 1));
  frames = omega arith;
  not_ipv4 = omega arith;
  short = omega arith;
  bad_header = omega arith;
  cut = tt;
}

-- the session of a capture that is cut right after its header
pub text_of_a_cut_session : session_text (record empty_session { cut = Some 24 })
    ≡ codes "opened 0\nreport\nat 0\ntotal 0\nthreshold 1\ndone\nframes 0\nskipped 0 0 0\ncut 24\nend\n"
unfolding digits
text_of_a_cut_session = refl

-- a frame that is cut lies within 2^64 bytes
pub no_cut_is_past_64_bits : ¬ IsTextSession Byte (record empty_session { cut = Some (2 ^ 64) })
no_cut_is_past_64_bits is = let small : 2 ^ 64 < 2 ^ 64 = is.cut in omega (arith, small)

-- at most one line `cut`, and only before the end
pub no_line_cut_after_another : (next : Stage) → ¬ FollowsStage cut (Cut 24) next
no_line_cut_after_another next follows = follows

pub no_line_cut_before_the_skips : (next : Stage) → ¬ FollowsStage counted (Cut 24) next
no_line_cut_before_the_skips next follows = follows

pub no_line_cut_after_the_end : (next : Stage) → ¬ FollowsStage ended (Cut 24) next
no_line_cut_after_the_end next follows = follows

pub byte_after_a_session : HasSessionFault Byte
    (codes "opened 0\nreport\nat 0\ntotal 0\nthreshold 1\ndone\nframes 0\nskipped 0 0 0\nend\nx") (BadLine 10)
unfolding digits
byte_after_a_session = (
  omega arith,
  (
    9,
    refl,
    inr (record {
      session = empty_session;
      is_session = session_of_no_record;
      byte = 120;
      others = [];
      spelled = refl;
      ends = refl;
    }),
  ),
)
