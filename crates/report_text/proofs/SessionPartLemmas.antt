-- The parts of a session: lines that lead to its end are those of a session, and its lines lead there.
use Rattle.std.proofs.Common.{◌≡◌, ℕ, ◌+◌, ◌<◌, ◌≤◌, ◌^◌, List, [], ◌∷◌, ◌++◌, map, length, All, AllPairs, Option}
use Rattle.std.proofs.Common.{Some, None, IfSome, refl, sym, ap, ◌∙◌, subst, arith, append_assoc}
use Rattle.std.specs.List.{flat_map, AllByRecursion}
use Rattle.std.specs.Cmp.{IsTotalOrder}
use Rattle.std.specs.declared.cmp.Ordering.TheVariants.{Less}
use Rattle.std.proofs.lemmas.List.Elements.{All-from_recursion}
use Rattle.std.proofs.lemmas.List.Kept.{AllPairs-cons}
use Rattle.prefix_lattice.specs.{PrefixValue, report_order}
use Rattle.prefix_lattice.specs.declared.grain.Grain.{Grain}
use Rattle.prefix_lattice.proofs.ListLemmas.{AllPairs-list_tail}
use Rattle.hhh_report.specs.{AreReportLines, line_limit}
use Rattle.hhh_report.specs.declared.line.Line.{Line as LineValue}
use Rattle.hhh_report.specs.declared.report.Report.{Report as ReportValue}
use Rattle.hhh_report.specs.declared.reports.Reported.{Reported}
use Rattle.report_text.specs.Printing.{ShowsPositions, ShowsLine}
use Rattle.report_text.specs.Session.{IsSessionLine, IsReportLine, AreSkips}
use Rattle.report_text.specs.Session.{ArePositions, IsReported, IsTextSession}
use Rattle.report_text.specs.Session.{reported_lines, saved_lines, cut_lines, session_lines}
use Rattle.report_text.specs.Stages.{Stage, nothing, opened, begun, placed, weighed, listing, done, saved, counted}
use Rattle.report_text.specs.Stages.{skipped, cut, ended, FollowsStage, LeadsFromStage, ComesAfterLast}
use Rattle.report_text.specs.Stages.{body_lines}
use Rattle.report_text.specs.declared.session.Session.{Session}
use Rattle.report_text.specs.declared.session_line.Skips.{Skips}
use Rattle.report_text.specs.declared.session_line.SessionLine.{SessionLine}
use Rattle.report_text.specs.declared.session_line.SessionLine.TheVariants.{Opened, Report, At, Total, Threshold, Line}
use Rattle.report_text.specs.declared.session_line.SessionLine.TheVariants.{Done, Saved, Frames, Skipped, Cut, End}

-- lines of a report that rise from the last one on
abbrev pub SessionPartRises : Option PrefixValue → List LineValue → Type 0
SessionPartRises last [] = Unit {0}
SessionPartRises last (line ∷ lines) = ComesAfterLast last line.prefix × SessionPartRises (Some line.prefix) lines

-- a line comes before another in a report
abbrev pub PrecedesInSessionPart : LineValue → LineValue → Type 0
PrecedesInSessionPart line later = report_order line.prefix later.prefix ≡ Less

-- a line has its low at most at its high
abbrev pub IsOrderedSessionPart : LineValue → Type 0
IsOrderedSessionPart line = line.lo ≤ line.hi

-- lines that rise from a prefix on all come after it
SessionPartRises-after : IsTotalOrder report_order → (last : PrefixValue) (lines : List LineValue)
    → SessionPartRises (Some last) lines
    → All (λ line. report_order last line.prefix ≡ Less) lines
SessionPartRises-after order last lines rises = All-from_recursion (λ line. report_order last line.prefix ≡ Less) lines
    (by_recursion order last lines rises)
  where
    weaken : IsTotalOrder report_order → (last next : PrefixValue) (lines : List LineValue)
        → report_order last next ≡ Less → AllByRecursion (λ line. report_order next line.prefix ≡ Less) lines
        → AllByRecursion (λ line. report_order last line.prefix ≡ Less) lines
    weaken order last next [] less all = tt
    weaken order last next (line ∷ lines) less all =
        (order.trans last next line.prefix less all.0, weaken order last next lines less all.1)

    by_recursion : IsTotalOrder report_order → (last : PrefixValue) (lines : List LineValue) → SessionPartRises (Some last) lines
        → AllByRecursion (λ line. report_order last line.prefix ≡ Less) lines
    by_recursion order last [] rises = tt
    by_recursion order last (line ∷ lines) rises =
        (rises.0, weaken order last line.prefix lines rises.0 (by_recursion order line.prefix lines rises.1))

-- lines that rise are in the strict order of a report
pub SessionPartRises-pairs : IsTotalOrder report_order → (last : Option PrefixValue) (lines : List LineValue)
    → SessionPartRises last lines
    → AllPairs PrecedesInSessionPart lines
SessionPartRises-pairs order last [] rises = λ place later other before within. absurd (omega arith)
SessionPartRises-pairs order last (line ∷ lines) rises =
    AllPairs-cons PrecedesInSessionPart line lines (SessionPartRises-after order line.prefix lines rises.1)
    (SessionPartRises-pairs order (Some line.prefix) lines rises.1)

-- and conversely
pub session_part_pairs_rise : (last : Option PrefixValue) (lines : List LineValue)
    → ((line : LineValue) (others : List LineValue) → lines ≡ line ∷ others → ComesAfterLast last line.prefix)
    → AllPairs PrecedesInSessionPart lines → SessionPartRises last lines
session_part_pairs_rise last [] first pairs = tt
session_part_pairs_rise last (line ∷ []) first pairs = (first line [] refl, tt)
session_part_pairs_rise last (line ∷ second ∷ lines) first pairs = (
  first line (second ∷ lines) refl,
  session_part_pairs_rise (Some line.prefix) (second ∷ lines)
      (λ next others same.
      let heads : second ≡ next = cc in
      subst (λ l. report_order line.prefix l.prefix ≡ Less) heads (pairs 0 1 line (omega arith) (omega arith)))
      (AllPairs-list_tail PrecedesInSessionPart line (second ∷ lines) pairs),
)

-- the place of a frame that was cut, if one was, and the end
pub record SessionEndPart (lines : List SessionLine) : Type 0 where
  place : Option ℕ
  small : IfSome place (λ number. number < 2 ^ 64)
  spelled : lines ≡ cut_lines place ++ End ∷ []

-- the skipped frames, and what follows them
pub record CountedSessionPart (lines : List SessionLine) : Type 0 where
  skips : Skips
  are_skips : AreSkips skips
  rest : List SessionLine
  end : SessionEndPart rest
  spelled : lines ≡ Skipped skips ∷ rest

-- the counts and the end of a session over n shards, after some reports
pub record SessionTailPart (grain : Grain) (n : ℕ) (lines : List SessionLine) : Type 0 where
  reports : List Reported
  are : AllByRecursion (IsReported grain n) reports
  frames : ℕ
  small : frames < 2 ^ 64
  skips : Skips
  are_skips : AreSkips skips
  place : Option ℕ
  small_place : IfSome place (λ number. number < 2 ^ 64)
  spelled : lines ≡ flat_map reported_lines reports ++ Frames frames ∷ Skipped skips ∷ (cut_lines place ++ End ∷ [])

-- what may follow a report
pub record SessionPartAfterDone (grain : Grain) (n : ℕ) (lines : List SessionLine) : Type 0 where
  saved : Option (List ℕ)
  are_saved : IfSome saved (ArePositions n)
  rest : List SessionLine
  tail : SessionTailPart grain n rest
  spelled : lines ≡ saved_lines saved ++ rest

-- the remaining lines of a report, after this many
pub record ListedSessionPart (grain : Grain) (n count : ℕ) (last : Option PrefixValue) (lines : List SessionLine) : Type 0 where
  listed : List LineValue
  few : count < line_limit → count + length listed < line_limit
  are : AllByRecursion (IsReportLine grain) listed
  rising : SessionPartRises last listed
  rest : List SessionLine
  after : SessionPartAfterDone grain n rest
  spelled : lines ≡ map Line listed ++ Done ∷ rest

-- what follows the total of a report
pub record WeighedSessionPart (grain : Grain) (n : ℕ) (lines : List SessionLine) : Type 0 where
  threshold : ℕ
  some : 1 ≤ threshold
  small : threshold < 2 ^ 64
  rest : List SessionLine
  listed : ListedSessionPart grain n 0 None rest
  spelled : lines ≡ Threshold threshold ∷ rest

-- what follows the positions of a report
pub record PlacedSessionPart (grain : Grain) (n : ℕ) (lines : List SessionLine) : Type 0 where
  total : ℕ
  small : total < 2 ^ 64
  rest : List SessionLine
  weighed : WeighedSessionPart grain n rest
  spelled : lines ≡ Total total ∷ rest

-- what a report of a session holds
pub record IsSessionPartReport (grain : Grain) (n : ℕ) (report : ReportValue) : Type 0 where
  positions : ArePositions n report.positions
  total : report.total < 2 ^ 64
  some : 1 ≤ report.threshold
  threshold : report.threshold < 2 ^ 64
  lines : AllByRecursion (ShowsLine grain) report.lines

-- what follows the first line of a report
pub record BegunSessionPart (grain : Grain) (n : ℕ) (lines : List SessionLine) : Type 0 where
  report : ReportValue
  is_report : IsSessionPartReport grain n report
  rest : List SessionLine
  after : SessionPartAfterDone grain n rest
  spelled : lines ≡ body_lines report ++ rest

-- the first line of a report, and what follows it
pub record StartedSessionPart (grain : Grain) (n : ℕ) (lines : List SessionLine) : Type 0 where
  rest : List SessionLine
  begun : BegunSessionPart grain n rest
  spelled : lines ≡ Report ∷ rest

-- all lines of a session
pub record SessionFromParts (grain : Grain) (lines : List SessionLine) : Type 0 where
  pub session : Session
  pub is_session : IsTextSession grain session
  pub spelled : lines ≡ session_lines session

-- what may follow each stage
abbrev pub SessionPartRest : (grain : Grain) → Stage → List SessionLine → Type 0
SessionPartRest grain nothing lines = SessionFromParts grain lines
SessionPartRest grain (opened n) lines = StartedSessionPart grain n lines
SessionPartRest grain (begun n) lines = BegunSessionPart grain n lines
SessionPartRest grain (placed n) lines = PlacedSessionPart grain n lines
SessionPartRest grain (weighed n) lines = WeighedSessionPart grain n lines
SessionPartRest grain (listing n count last) lines = ListedSessionPart grain n count last lines
SessionPartRest grain (done n) lines = SessionPartAfterDone grain n lines
SessionPartRest grain (saved n) lines = SessionTailPart grain n lines
SessionPartRest grain counted lines = CountedSessionPart lines
SessionPartRest grain skipped lines = SessionEndPart lines
SessionPartRest grain cut lines = lines ≡ End ∷ []
SessionPartRest grain ended lines = lines ≡ []

session_part_is_showable : (grain : Grain) (lines : List LineValue) → AllByRecursion (IsReportLine grain) lines
    → AllByRecursion (ShowsLine grain) lines
session_part_is_showable grain [] all = tt
session_part_is_showable grain (line ∷ lines) all = (all.0.showable, session_part_is_showable grain lines all.1)

session_part_is_ordered : (grain : Grain) (lines : List LineValue) → AllByRecursion (IsReportLine grain) lines
    → AllByRecursion IsOrderedSessionPart lines
session_part_is_ordered grain [] all = tt
session_part_is_ordered grain (line ∷ lines) all = (all.0.ordered, session_part_is_ordered grain lines all.1)

-- the lines of a report are in order
session_part_lines_in_order : (grain : Grain) → IsTotalOrder report_order
    → (n : ℕ) (lines : List SessionLine) (l : ListedSessionPart grain n 0 None lines) → AreReportLines l.listed
session_part_lines_in_order grain order n lines l = record {
  few = let few : 0 + length l.listed < line_limit = l.few (omega arith) in omega arith;
  ordered = All-from_recursion IsOrderedSessionPart l.listed (session_part_is_ordered grain l.listed l.are);
  rising = SessionPartRises-pairs order None l.listed l.rising;
}

-- what follows the first line of a report, from its positions on
begun_session_part : (grain : Grain) → IsTotalOrder report_order
    → (n : ℕ) (positions : List ℕ) (lines : List SessionLine)
    → ArePositions n positions → PlacedSessionPart grain n lines → BegunSessionPart grain n (At positions ∷ lines)
begun_session_part grain order n positions lines are placed_lines =
    let weighed_lines = placed_lines.weighed in
    let listed_lines = weighed_lines.listed in
    record {
      report = record {
        positions = positions;
        total = placed_lines.total;
        threshold = weighed_lines.threshold;
        lines = listed_lines.listed;
        are_lines = session_part_lines_in_order grain order n weighed_lines.rest listed_lines;
      };
      is_report = record {
        positions = are;
        total = placed_lines.small;
        some = weighed_lines.some;
        threshold = weighed_lines.small;
        lines = session_part_is_showable grain listed_lines.listed listed_lines.are;
      };
      rest = listed_lines.rest;
      after = listed_lines.after;
      spelled =
          ap (λ l. At positions ∷ l)
          (placed_lines.spelled
          ∙ ap (λ l. Total placed_lines.total ∷ l)
          (weighed_lines.spelled
          ∙ ap (λ l. Threshold weighed_lines.threshold ∷ l)
          (listed_lines.spelled ∙ sym (append_assoc (map Line listed_lines.listed) (Done ∷ []) listed_lines.rest))));
    }

session_part_report_groups : (body mark reports tail : List SessionLine)
    → body ++ (mark ++ (reports ++ tail)) ≡ ((body ++ mark) ++ reports) ++ tail
session_part_report_groups body mark reports tail = simp append_assoc

-- a report and the reports after it
abbrev session_part_report_tail : (grain : Grain) (n : ℕ) (lines : List SessionLine) → BegunSessionPart grain n lines
    → SessionTailPart grain n (Report ∷ lines)
session_part_report_tail grain n lines begun_lines =
    let report = begun_lines.report in
    let is = begun_lines.is_report in
    let after = begun_lines.after in
    let tail = after.tail in
    record {
      reports = record { report = report; saved = after.saved } ∷ tail.reports;
      are = (
        record {
          positions = is.positions;
          total = is.total;
          some = is.some;
          threshold = is.threshold;
          lines = All-from_recursion (ShowsLine grain) report.lines is.lines;
          saved = after.are_saved;
        },
        tail.are,
      );
      frames = tail.frames;
      small = tail.small;
      skips = tail.skips;
      are_skips = tail.are_skips;
      place = tail.place;
      small_place = tail.small_place;
      spelled =
          ap (λ l. Report ∷ l)
          (begun_lines.spelled
          ∙ ap (λ l. body_lines report ++ l)
          (after.spelled ∙ ap (λ l. saved_lines after.saved ++ l) tail.spelled)
          ∙ session_part_report_groups (body_lines report) (saved_lines after.saved) (flat_map reported_lines tail.reports)
          (Frames tail.frames ∷ Skipped tail.skips ∷ (cut_lines tail.place ++ End ∷ [])));
    }

-- the counts right after a report
session_part_counts_tail : (grain : Grain) (n frames : ℕ) (lines : List SessionLine) → frames < 2 ^ 64
    → CountedSessionPart lines → SessionTailPart grain n (Frames frames ∷ lines)
session_part_counts_tail grain n frames lines small counts = record {
  reports = [];
  are = tt;
  frames = frames;
  small = small;
  skips = counts.skips;
  are_skips = counts.are_skips;
  place = counts.end.place;
  small_place = counts.end.small;
  spelled = ap (λ l. Frames frames ∷ l) (counts.spelled ∙ ap (λ l. Skipped counts.skips ∷ l) counts.end.spelled);
}

-- a report that was not saved
unsaved_session_part : (grain : Grain) (n : ℕ) (lines : List SessionLine) → SessionTailPart grain n lines
    → SessionPartAfterDone grain n lines
unsaved_session_part grain n lines tail = record { saved = None; are_saved = tt; rest = lines; tail = tail; spelled = refl }

-- all lines of a session, from the positions at its start and what follows
session_of_opened_parts : (grain : Grain) (positions : List ℕ) (lines : List SessionLine) → ShowsPositions positions
    → StartedSessionPart grain (length positions) lines → SessionFromParts grain (Opened positions ∷ lines)
session_of_opened_parts grain positions lines are started =
    let tail = session_part_report_tail grain (length positions) started.rest started.begun in
    record {
      session = record {
        opened = positions;
        reports = tail.reports;
        frames = tail.frames;
        not_ipv4 = tail.skips.not_ipv4;
        short = tail.skips.short;
        bad_header = tail.skips.bad_header;
        cut = tail.place;
      };
      is_session = record {
        opened = are;
        some = omega arith;
        reports = All-from_recursion (IsReported grain (length positions)) tail.reports tail.are;
        frames = tail.small;
        not_ipv4 = tail.are_skips.not_ipv4;
        short = tail.are_skips.short;
        bad_header = tail.are_skips.bad_header;
        cut = tail.small_place;
      };
      spelled = ap (λ l. Opened positions ∷ l) (started.spelled ∙ tail.spelled);
    }

-- one more line in front
session_part_one_line_more : (grain : Grain) → IsTotalOrder report_order
    → (stage : Stage) (line : SessionLine) (next : Stage) (lines : List SessionLine)
    → FollowsStage stage line next → IsSessionLine grain line → SessionPartRest grain next lines
    → SessionPartRest grain stage (line ∷ lines)
session_part_one_line_more grain order nothing (Opened positions) next lines follows is rest =
    session_of_opened_parts grain positions lines is (subst (λ s. SessionPartRest grain s lines) follows rest)
session_part_one_line_more grain order (opened n) Report next lines follows is rest =
    record { rest = lines; begun = subst (λ s. SessionPartRest grain s lines) follows rest; spelled = refl }
session_part_one_line_more grain order (begun n) (At positions) next lines follows is rest =
    begun_session_part grain order n positions lines (record { are_positions = is; as_many = follows.0 })
    (subst (λ s. SessionPartRest grain s lines) follows.1 rest)
session_part_one_line_more grain order (placed n) (Total total) next lines follows is rest =
    record { total = total; small = is; rest = lines; weighed = subst (λ s. SessionPartRest grain s lines) follows rest; spelled = refl }
session_part_one_line_more grain order (weighed n) (Threshold threshold) next lines follows is rest = record {
  threshold = threshold;
  some = is.0;
  small = is.1;
  rest = lines;
  listed = subst (λ s. SessionPartRest grain s lines) follows rest;
  spelled = refl;
}
session_part_one_line_more grain order (listing n count last) (Line line) next lines follows is rest =
    let others = subst (λ s. SessionPartRest grain s lines) follows.2 rest in
    record {
      listed = line ∷ others.listed;
      few = λ small. let more : count + 1 + length others.listed < line_limit = others.few follows.1 in omega arith;
      are = (is, others.are);
      rising = (follows.0, others.rising);
      rest = others.rest;
      after = others.after;
      spelled = ap (λ l. Line line ∷ l) others.spelled;
    }
session_part_one_line_more grain order (listing n count last) Done next lines follows is rest = record {
  listed = [];
  few = λ small. omega arith;
  are = tt;
  rising = tt;
  rest = lines;
  after = subst (λ s. SessionPartRest grain s lines) follows rest;
  spelled = refl;
}
session_part_one_line_more grain order (done n) Report next lines follows is rest =
    unsaved_session_part grain n (Report ∷ lines) (session_part_report_tail grain n lines (subst (λ s. SessionPartRest grain s lines) follows rest))
session_part_one_line_more grain order (done n) (Saved positions) next lines follows is rest = record {
  saved = Some positions;
  are_saved = record { are_positions = is; as_many = follows.0 };
  rest = lines;
  tail = subst (λ s. SessionPartRest grain s lines) follows.1 rest;
  spelled = refl;
}
session_part_one_line_more grain order (done n) (Frames frames) next lines follows is rest =
    unsaved_session_part grain n (Frames frames ∷ lines)
    (session_part_counts_tail grain n frames lines is (subst (λ s. SessionPartRest grain s lines) follows rest))
session_part_one_line_more grain order (saved n) Report next lines follows is rest =
    session_part_report_tail grain n lines (subst (λ s. SessionPartRest grain s lines) follows rest)
session_part_one_line_more grain order (saved n) (Frames frames) next lines follows is rest =
    session_part_counts_tail grain n frames lines is (subst (λ s. SessionPartRest grain s lines) follows rest)
session_part_one_line_more grain order counted (Skipped skips) next lines follows is rest = record {
  skips = skips;
  are_skips = is;
  rest = lines;
  end = subst (λ s. SessionPartRest grain s lines) follows rest;
  spelled = refl;
}
session_part_one_line_more grain order skipped (Cut place) next lines follows is rest = record {
  place = Some place;
  small = is;
  spelled = ap (λ l. Cut place ∷ l) (subst (λ s. SessionPartRest grain s lines) follows rest);
}
session_part_one_line_more grain order skipped End next lines follows is rest = record {
  place = None;
  small = tt;
  spelled = ap (λ l. End ∷ l) (subst (λ s. SessionPartRest grain s lines) follows rest);
}
session_part_one_line_more grain order cut End next lines follows is rest =
    ap (λ l. End ∷ l) (subst (λ s. SessionPartRest grain s lines) follows rest)
session_part_one_line_more grain order _ _ next lines follows is rest = absurd follows

-- lines that lead to the end of a session are what may follow
session_part_leads_to_end : (grain : Grain) → IsTotalOrder report_order → (stage : Stage) (lines : List SessionLine)
    → LeadsFromStage stage lines ended
    → AllByRecursion (IsSessionLine grain) lines → SessionPartRest grain stage lines
session_part_leads_to_end grain order stage [] leads all = subst (λ s. SessionPartRest grain s []) (sym leads) refl
session_part_leads_to_end grain order stage (line ∷ lines) leads all =
    session_part_one_line_more grain order stage line leads.0 lines leads.1 all.0 (session_part_leads_to_end grain order leads.0 lines leads.2 all.1)

-- lines that lead from the start to the end are those of a session
pub session_parts_make_session : (grain : Grain) → IsTotalOrder report_order → (lines : List SessionLine)
    → LeadsFromStage nothing lines ended
    → AllByRecursion (IsSessionLine grain) lines → SessionFromParts grain lines
session_parts_make_session grain order lines leads all = session_part_leads_to_end grain order nothing lines leads all
