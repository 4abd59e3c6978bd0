-- The lines of a session: they lead to its end, and determine what it says.
use Rattle.std.proofs.Common.{◌≡◌, ℕ, ◌+◌, ◌<◌, ◌≤◌, ◌^◌, List, [], ◌∷◌, ◌++◌, map, length, All, Option}
use Rattle.std.proofs.Common.{Some, None, IfSome, suc, refl, sym, ap, ◌∙◌, subst, arith, append_assoc}
use Rattle.std.specs.List.{flat_map, AllZip, AllByRecursion}
use Rattle.std.proofs.lemmas.List.Elements.{All-from_recursion, recursion_from_All}
use Rattle.prefix_lattice.specs.declared.grain.Grain.{Grain}
use Rattle.hhh_report.specs.{AreReportLines, IsSameReport, line_limit}
use Rattle.hhh_report.specs.declared.line.Line.{Line as LineValue}
use Rattle.hhh_report.specs.declared.reports.Reported.{Reported}
use Rattle.report_text.specs.Printing.{ShowsPositions, ShowsLine}
use Rattle.report_text.specs.Session.{IsSessionLine, ArePositions, IsReported}
use Rattle.report_text.specs.Session.{IsTextSession}
use Rattle.report_text.specs.Session.{AreSameSessions, report_lines, reported_lines}
use Rattle.report_text.specs.Session.{saved_lines, cut_lines, session_lines}
use Rattle.report_text.specs.Stages.{Stage, nothing, opened, begun, placed, weighed, listing, done, saved, counted}
use Rattle.report_text.specs.Stages.{skipped, cut, ended, LeadsFromStage, body_lines}
use Rattle.report_text.specs.declared.session.Session.{Session}
use Rattle.report_text.specs.declared.session_line.Skips.{Skips}
use Rattle.report_text.specs.declared.session_line.SessionLine.{SessionLine}
use Rattle.report_text.specs.declared.session_line.SessionLine.TheVariants.{Report, At, Total, Threshold, Line}
use Rattle.report_text.specs.declared.session_line.SessionLine.TheVariants.{Done, Saved, Frames, Skipped, End}
use Rattle.report_text.proofs.SessionPartLemmas.{SessionPartRises, IsOrderedSessionPart, session_part_pairs_rise}

-- lines of a report lead on
pub whole_session_lines_lead : (n count : ℕ) (last : _) (lines : List LineValue) (rest : List SessionLine) (end : Stage)
    → SessionPartRises last lines → count + length lines < line_limit
    → ((others : ℕ) (prefix : _) → LeadsFromStage (listing n others prefix) rest end)
    → LeadsFromStage (listing n count last) (map Line lines ++ rest) end
whole_session_lines_lead n count last [] rest end rises few on = on count last
whole_session_lines_lead n count last (line ∷ lines) rest end rises few on = (
  listing n (count + 1) (Some line.prefix),
  (rises.0, omega arith, refl),
  whole_session_lines_lead n (count + 1) (Some line.prefix) lines rest end rises.1 (omega arith) on,
)

-- the lines of a report are in order
pub whole_session_lines_rise : (lines : List LineValue) → AreReportLines lines → SessionPartRises None lines
whole_session_lines_rise lines are = session_part_pairs_rise None lines (λ line others same. tt) are.rising

-- what follows a report may come after it whether its cut was saved or not
pub record WholeSessionGoesOn (n : ℕ) (rest : List SessionLine) : Type 0 where
  after_done : LeadsFromStage (done n) rest ended
  after_saved : LeadsFromStage (saved n) rest ended

whole_session_saved_leads : (n : ℕ) (positions : Option (List ℕ)) (rest : List SessionLine)
    → IfSome positions (ArePositions n)
    → WholeSessionGoesOn n rest → LeadsFromStage (done n) (saved_lines positions ++ rest) ended
whole_session_saved_leads n None rest are on = on.after_done
whole_session_saved_leads n (Some positions) rest are on = (saved n, (are.as_many, refl), on.after_saved)

-- a report leads on
whole_session_report_leads : (grain : Grain) (n : ℕ) (reported : Reported) (rest : List SessionLine)
    → IsReported grain n reported → WholeSessionGoesOn n rest
    → LeadsFromStage (begun n) (body_lines reported.report ++ (saved_lines reported.saved ++ rest)) ended
whole_session_report_leads grain n reported rest is on =
    let report = reported.report in
    let lines = report.are_lines in
    let end = whole_session_saved_leads n reported.saved rest is.saved on in
    let few : 0 + length report.lines < line_limit = let some : length report.lines < line_limit = lines.few in omega arith in
    let listed = whole_session_lines_lead n 0 None report.lines (Done ∷ (saved_lines reported.saved ++ rest)) ended
    (whole_session_lines_rise report.lines lines) few (λ others prefix. (done n, refl, end)) in
    let grouped = sym (append_assoc (map Line report.lines) (Done ∷ []) (saved_lines reported.saved ++ rest)) in (
      placed n,
      (is.positions.as_many, refl),
      (
        weighed n,
        refl,
        (
          listing n 0 None,
          refl,
          subst (λ l. LeadsFromStage (listing n 0 None) l ended) grouped listed,
        ),
      ),
    )

whole_session_groups : (body mark reports tail : List SessionLine)
    → body ++ (mark ++ (reports ++ tail)) ≡ ((body ++ mark) ++ reports) ++ tail
whole_session_groups body mark reports tail = simp append_assoc

-- the counts and the end
abbrev whole_session_counts : ℕ → Skips → Option ℕ → List SessionLine
whole_session_counts frames skips place = Frames frames ∷ Skipped skips ∷ (cut_lines place ++ End ∷ [])

whole_session_cut-leads : (place : Option ℕ) → LeadsFromStage skipped (cut_lines place ++ End ∷ []) ended
whole_session_cut-leads None = (ended, refl, refl)
whole_session_cut-leads (Some place) = (cut, refl, (ended, refl, refl))

whole_session_counts-lead : (skips : Skips) (place : Option ℕ)
    → LeadsFromStage counted (Skipped skips ∷ (cut_lines place ++ End ∷ [])) ended
whole_session_counts-lead skips place = (skipped, refl, whole_session_cut-leads place)

-- the first of some reports, after its first line
whole_session_first_report : (grain : Grain) (n : ℕ) (reported : Reported) (reports : List Reported) (frames : ℕ) (skips : Skips) (place : Option ℕ)
    → IsReported grain n reported
    → WholeSessionGoesOn n (flat_map reported_lines reports ++ whole_session_counts frames skips place)
    → LeadsFromStage (begun n)
    (((body_lines reported.report ++ saved_lines reported.saved) ++ flat_map reported_lines reports) ++ whole_session_counts frames skips place)
    ended
whole_session_first_report grain n reported reports frames skips place is on =
    subst (λ l. LeadsFromStage (begun n) l ended)
    (whole_session_groups (body_lines reported.report) (saved_lines reported.saved) (flat_map reported_lines reports)
    (whole_session_counts frames skips place))
    (whole_session_report_leads grain n reported (flat_map reported_lines reports ++ whole_session_counts frames skips place) is on)

-- reports lead to the end
whole_session_reports_lead : (grain : Grain) (n : ℕ) (reports : List Reported) (frames : ℕ) (skips : Skips) (place : Option ℕ)
    → AllByRecursion (IsReported grain n) reports
    → WholeSessionGoesOn n (flat_map reported_lines reports ++ whole_session_counts frames skips place)
whole_session_reports_lead grain n [] frames skips place all = record {
  after_done = (counted, refl, whole_session_counts-lead skips place);
  after_saved = (counted, refl, whole_session_counts-lead skips place);
}
whole_session_reports_lead grain n (reported ∷ reports) frames skips place all =
    let first = whole_session_first_report grain n reported reports frames skips place all.0
    (whole_session_reports_lead grain n reports frames skips place all.1) in
    record { after_done = (begun n, refl, first); after_saved = (begun n, refl, first) }

-- one report or more
whole_session_some_reports : (grain : Grain) (n : ℕ) (reports : List Reported) (frames : ℕ) (skips : Skips) (place : Option ℕ)
    → 1 ≤ length reports
    → AllByRecursion (IsReported grain n) reports
    → LeadsFromStage (opened n) (flat_map reported_lines reports ++ whole_session_counts frames skips place) ended
whole_session_some_reports grain n [] frames skips place some all = absurd (omega arith)
whole_session_some_reports grain n (reported ∷ reports) frames skips place some all =
    let rest = whole_session_reports_lead grain n reports frames skips place all.1 in
    (begun n, refl, whole_session_first_report grain n reported reports frames skips place all.0 rest)

-- the skips of a session
abbrev pub whole_session_skips : Session → Skips
whole_session_skips session = record { not_ipv4 = session.not_ipv4; short = session.short; bad_header = session.bad_header }

-- the lines of a session lead to its end
pub whole_session_leads_to_end : (grain : Grain) (session : Session) → IsTextSession grain session
    → LeadsFromStage nothing (session_lines session) ended
whole_session_leads_to_end grain session is = (
  opened (length session.opened),
  refl,
  whole_session_some_reports grain (length session.opened) session.reports session.frames (whole_session_skips session) session.cut is.some
      (recursion_from_All (IsReported grain (length session.opened)) session.reports is.reports),
)

whole_session_append : (grain : Grain) (lines others : List SessionLine) → AllByRecursion (IsSessionLine grain) lines
    → AllByRecursion (IsSessionLine grain) others
    → AllByRecursion (IsSessionLine grain) (lines ++ others)
whole_session_append grain [] others all others_all = others_all
whole_session_append grain (line ∷ lines) others all others_all = (all.0, whole_session_append grain lines others all.1 others_all)

whole_session_listed_lines : (grain : Grain) (lines : List LineValue) → AllByRecursion (ShowsLine grain) lines
    → AllByRecursion IsOrderedSessionPart lines
    → AllByRecursion (IsSessionLine grain) (map Line lines)
whole_session_listed_lines grain [] all ordered = tt
whole_session_listed_lines grain (line ∷ lines) all ordered =
    (record { showable = all.0; ordered = ordered.0 }, whole_session_listed_lines grain lines all.1 ordered.1)

whole_session_saved_lines : (grain : Grain) (n : ℕ) (positions : Option (List ℕ)) → IfSome positions (ArePositions n)
    → AllByRecursion (IsSessionLine grain) (saved_lines positions)
whole_session_saved_lines grain n None are = tt
whole_session_saved_lines grain n (Some positions) are = (are.are_positions, tt)

whole_session_reported_lines : (grain : Grain) (n : ℕ) (reported : Reported) → IsReported grain n reported
    → AllByRecursion (IsSessionLine grain) (reported_lines reported)
whole_session_reported_lines grain n reported is =
    let report = reported.report in
    whole_session_append grain (report_lines report) (saved_lines reported.saved) (
      tt,
      (
        is.positions.are_positions,
        (
          is.total,
          (
            (is.some, is.threshold),
            whole_session_append grain (map Line report.lines) (Done ∷ [])
                (whole_session_listed_lines grain report.lines (recursion_from_All (ShowsLine grain) report.lines is.lines)
                (recursion_from_All IsOrderedSessionPart report.lines report.are_lines.ordered))
                (tt, tt),
          ),
        ),
      ),
    )
    (whole_session_saved_lines grain n reported.saved is.saved)

whole_session_lines_of_reports : (grain : Grain) (n : ℕ) (reports : List Reported)
    → AllByRecursion (IsReported grain n) reports
    → AllByRecursion (IsSessionLine grain) (flat_map reported_lines reports)
whole_session_lines_of_reports grain n [] all = tt
whole_session_lines_of_reports grain n (reported ∷ reports) all =
    whole_session_append grain (reported_lines reported) (flat_map reported_lines reports) (whole_session_reported_lines grain n reported all.0)
    (whole_session_lines_of_reports grain n reports all.1)

whole_session_cut_lines : (grain : Grain) (place : Option ℕ) → IfSome place (λ number. number < 2 ^ 64)
    → AllByRecursion (IsSessionLine grain) (cut_lines place ++ End ∷ [])
whole_session_cut_lines grain None small = (tt, tt)
whole_session_cut_lines grain (Some place) small = (small, (tt, tt))

-- the lines of a session hold what lines may hold
pub whole_session_lines : (grain : Grain) (session : Session) → IsTextSession grain session
    → AllByRecursion (IsSessionLine grain) (session_lines session)
whole_session_lines grain session is = (
  is.opened,
  whole_session_append grain (flat_map reported_lines session.reports) (whole_session_counts session.frames (whole_session_skips session) session.cut)
      (whole_session_lines_of_reports grain (length session.opened) session.reports
      (recursion_from_All (IsReported grain (length session.opened)) session.reports is.reports)) (
        is.frames,
        (
          record { not_ipv4 = is.not_ipv4; short = is.short; bad_header = is.bad_header },
          whole_session_cut_lines grain session.cut is.cut,
        ),
      ),
)

-- lines of a report before `done` are told apart
whole_session_lines_apart : (lines others : List LineValue) (rest other : List SessionLine)
    → map Line lines ++ Done ∷ rest ≡ map Line others ++ Done ∷ other → (lines ≡ others) × (rest ≡ other)
whole_session_lines_apart [] [] rest other same = (refl, cc)
whole_session_lines_apart [] (another ∷ others) rest other same = cc
whole_session_lines_apart (line ∷ lines) [] rest other same = cc
whole_session_lines_apart (line ∷ lines) (another ∷ others) rest other same =
    let head : line ≡ another = cc in
    let behind : map Line lines ++ Done ∷ rest ≡ map Line others ++ Done ∷ other = cc in
    let both = whole_session_lines_apart lines others rest other behind in
    let front : lines ≡ others = both.0 in
    (cc, both.1)

-- what follows a report doesn't begin with saved positions
whole_session_not_saved : (reports : List Reported) (frames : ℕ) (tail : List SessionLine) (positions : List ℕ) (lines : List SessionLine)
    → flat_map reported_lines reports ++ Frames frames ∷ tail ≡ Saved positions ∷ lines → ⊥
whole_session_not_saved [] frames tail positions lines same = cc
whole_session_not_saved (reported ∷ reports) frames tail positions lines same = cc

-- saved positions and what follows are told apart
whole_session_saved_apart : (positions others : Option (List ℕ)) (reports other_reports : List Reported) (frames other_frames : ℕ)
    (tail other : List SessionLine)
    → saved_lines positions ++ (flat_map reported_lines reports ++ Frames frames ∷ tail)
    ≡ saved_lines others ++ (flat_map reported_lines other_reports ++ Frames other_frames ∷ other)
    → (positions ≡ others)
    × (flat_map reported_lines reports ++ Frames frames ∷ tail
    ≡ flat_map reported_lines other_reports ++ Frames other_frames ∷ other)
whole_session_saved_apart None None reports other_reports frames other_frames tail other same = (refl, same)
whole_session_saved_apart None (Some others) reports other_reports frames other_frames tail other same =
    absurd (whole_session_not_saved reports frames tail others _ same)
whole_session_saved_apart (Some positions) None reports other_reports frames other_frames tail other same =
    absurd (whole_session_not_saved other_reports other_frames other positions _ (sym same))
whole_session_saved_apart (Some positions) (Some others) reports other_reports frames other_frames tail other same = (cc, cc)

-- two reports of a session say the same
abbrev pub IsSameInWholeSession : Reported → Reported → Type 0
IsSameInWholeSession reported another = IsSameReport reported.report another.report × (reported.saved ≡ another.saved)

whole_session_report_groups : (positions total threshold : SessionLine) (lines mark reports tail : List SessionLine)
    → ((Report ∷ positions ∷ total ∷ threshold ∷ (lines ++ Done ∷ []) ++ mark) ++ reports) ++ tail
    ≡ Report ∷ positions ∷ total ∷ threshold ∷ (lines ++ Done ∷ (mark ++ (reports ++ tail)))
whole_session_report_groups positions total threshold lines mark reports tail = simp append_assoc

whole_session_spread : (reported : Reported) (reports : List Reported) (tail : List SessionLine)
    → flat_map reported_lines (reported ∷ reports) ++ tail
    ≡ Report ∷ At reported.report.positions ∷ Total reported.report.total ∷ Threshold reported.report.threshold
    ∷ (map Line reported.report.lines ++ Done
    ∷ (saved_lines reported.saved ++ (flat_map reported_lines reports ++ tail)))
whole_session_spread reported reports tail =
    whole_session_report_groups (At reported.report.positions) (Total reported.report.total) (Threshold reported.report.threshold)
    (map Line reported.report.lines) (saved_lines reported.saved) (flat_map reported_lines reports) tail

-- reports before the counts are told apart
whole_session_reports_apart : (reports others : List Reported) (frames other_frames : ℕ) (tail other : List SessionLine)
    → flat_map reported_lines reports ++ Frames frames ∷ tail
    ≡ flat_map reported_lines others ++ Frames other_frames ∷ other
    → AllZip IsSameInWholeSession reports others × (Frames frames ∷ tail ≡ Frames other_frames ∷ other)
whole_session_reports_apart [] [] frames other_frames tail other same = (tt, same)
whole_session_reports_apart [] (another ∷ others) frames other_frames tail other same = cc
whole_session_reports_apart (reported ∷ reports) [] frames other_frames tail other same = cc
whole_session_reports_apart (reported ∷ reports) (another ∷ others) frames other_frames tail other same =
    let both = sym (whole_session_spread reported reports (Frames frames ∷ tail)) ∙ same
    ∙ whole_session_spread another others (Frames other_frames ∷ other) in
    let positions : reported.report.positions ≡ another.report.positions = cc in
    let total : reported.report.total ≡ another.report.total = cc in
    let threshold : reported.report.threshold ≡ another.report.threshold = cc in
    let behind : map Line reported.report.lines ++ Done
    ∷ (saved_lines reported.saved ++ (flat_map reported_lines reports ++ Frames frames ∷ tail))
    ≡ map Line another.report.lines ++ Done
    ∷ (saved_lines another.saved ++ (flat_map reported_lines others ++ Frames other_frames ∷ other)) = cc in
    let listed = whole_session_lines_apart reported.report.lines another.report.lines _ _ behind in
    let marks = whole_session_saved_apart reported.saved another.saved reports others frames other_frames tail other listed.1 in
    let rest = whole_session_reports_apart reports others frames other_frames tail other marks.1 in
    (((record { positions = positions; total = total; threshold = threshold; lines = listed.0 }, marks.0), rest.0), rest.1)

-- places of cut frames before the end are told apart
whole_session_cuts_apart : (place other : Option ℕ) → cut_lines place ++ End ∷ [] ≡ cut_lines other ++ End ∷ []
    → place ≡ other
whole_session_cuts_apart None None same = refl
whole_session_cuts_apart None (Some other) same = cc
whole_session_cuts_apart (Some place) None same = cc
whole_session_cuts_apart (Some place) (Some other) same = cc

-- sessions with the same lines say the same
pub whole_sessions_apart : (session other : Session) → session_lines session ≡ session_lines other
    → AreSameSessions session other
whole_sessions_apart session other same =
    let opened_same : session.opened ≡ other.opened = cc in
    let behind : flat_map reported_lines session.reports
    ++ whole_session_counts session.frames (whole_session_skips session) session.cut
    ≡ flat_map reported_lines other.reports
    ++ whole_session_counts other.frames (whole_session_skips other) other.cut = cc in
    let both = whole_session_reports_apart session.reports other.reports session.frames other.frames
    (Skipped (whole_session_skips session) ∷ (cut_lines session.cut ++ End ∷ []))
    (Skipped (whole_session_skips other) ∷ (cut_lines other.cut ++ End ∷ [])) behind in
    let last = both.1 in
    let frames_same : session.frames ≡ other.frames = cc in
    let skips_same : whole_session_skips session ≡ whole_session_skips other = cc in
    let ends : cut_lines session.cut ++ End ∷ [] ≡ cut_lines other.cut ++ End ∷ [] = cc in
    record {
      opened = opened_same;
      reports = both.0;
      frames = frames_same;
      not_ipv4 = ap (λ (s : Skips). s.not_ipv4) skips_same;
      short = ap (λ (s : Skips). s.short) skips_same;
      bad_header = ap (λ (s : Skips). s.bad_header) skips_same;
      cut = whole_session_cuts_apart session.cut other.cut ends;
    }

whole_session_same_report : (grain : Grain) (n : ℕ) (reported another : Reported) → IsReported grain n reported
    → IsSameInWholeSession reported another
    → IsReported grain n another
whole_session_same_report grain n reported another is same = record {
  positions = subst (ArePositions n) same.0.positions is.positions;
  total = omega (arith, same.0.total, is.total);
  some = omega (arith, same.0.threshold, is.some);
  threshold = omega (arith, same.0.threshold, is.threshold);
  lines = subst (λ l. All (ShowsLine grain) l) same.0.lines is.lines;
  saved = subst (λ s. IfSome s (ArePositions n)) same.1 is.saved;
}

whole_session_same_reports : (grain : Grain) (n : ℕ) (reports others : List Reported)
    → AllByRecursion (IsReported grain n) reports
    → AllZip IsSameInWholeSession reports others → AllByRecursion (IsReported grain n) others
whole_session_same_reports grain n [] [] all same = tt
whole_session_same_reports grain n [] (another ∷ others) all same = absurd same
whole_session_same_reports grain n (reported ∷ reports) [] all same = absurd same
whole_session_same_reports grain n (reported ∷ reports) (another ∷ others) all same =
    (whole_session_same_report grain n reported another all.0 same.0, whole_session_same_reports grain n reports others all.1 same.1)

whole_session_same_length : (reports others : List Reported) → AllZip IsSameInWholeSession reports others
    → length reports ≡ length others
whole_session_same_length [] [] same = refl
whole_session_same_length [] (another ∷ others) same = absurd same
whole_session_same_length (reported ∷ reports) [] same = absurd same
whole_session_same_length (reported ∷ reports) (another ∷ others) same = ap (λ n. suc n) (whole_session_same_length reports others same.1)

-- what says the same as a session is one
pub whole_session_same : (grain : Grain) (session other : Session) → IsTextSession grain session
    → AreSameSessions session other → IsTextSession grain other
whole_session_same grain session other is same =
    let reports = whole_session_same_reports grain (length session.opened) session.reports other.reports
    (recursion_from_All (IsReported grain (length session.opened)) session.reports is.reports) same.reports in
    let as_many = whole_session_same_length session.reports other.reports same.reports in
    record {
      opened = subst ShowsPositions same.opened is.opened;
      some = omega (arith, as_many, is.some);
      reports = All-from_recursion (IsReported grain (length other.opened)) other.reports
          (subst (λ l. AllByRecursion (IsReported grain (length l)) other.reports) same.opened reports);
      frames = omega (arith, same.frames, is.frames);
      not_ipv4 = omega (arith, same.not_ipv4, is.not_ipv4);
      short = omega (arith, same.short, is.short);
      bad_header = omega (arith, same.bad_header, is.bad_header);
      cut = subst (λ place. IfSome place (λ number. number < 2 ^ 64)) same.cut is.cut;
    }
