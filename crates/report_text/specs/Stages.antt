-- How far a session text was read, which no public contract cites.
use Rattle.std.specs.Prelude.{⊤, ℕ, ◌≡◌, ◌+◌, ◌<◌, ◌==◌, List, [], ◌∷◌, ◌++◌, length, map, Option, Some, None}
use Rattle.std.specs.List.{slice_split}
use Rattle.std.specs.declared.cmp.Ordering.TheVariants.{Less}
use Rattle.prefix_lattice.specs.{PrefixValue, report_order, text_space}
use Rattle.hhh_report.specs.{line_limit}
use Rattle.hhh_report.specs.declared.report.Report.{Report as ReportValue}
use Rattle.report_text.specs.declared.session_line.SessionLine.{SessionLine}
use Rattle.report_text.specs.declared.session_line.SessionLine.TheVariants.{Opened, Report, At, Total, Threshold, Line}
use Rattle.report_text.specs.declared.session_line.SessionLine.TheVariants.{Done, Saved, Frames, Skipped, Cut, End}

-- the words of a text that are separated by spaces
abbrev pub words_in : List ℕ → List (List ℕ)
words_in text = slice_split (λ byte. byte == text_space) text

-- the last line that was read: none yet; one of a session over this many shards before its last lines, and among the
-- lines of a report how many were read and the prefix of the last one; or one of the last lines
pub data Stage : Type 0 where
  nothing : Stage
  opened : ℕ → Stage
  begun : ℕ → Stage
  placed : ℕ → Stage
  weighed : ℕ → Stage
  listing : ℕ → ℕ → Option PrefixValue → Stage
  done : ℕ → Stage
  saved : ℕ → Stage
  counted : Stage
  skipped : Stage
  cut : Stage
  ended : Stage

-- the prefix comes after the last one in the order of a report
abbrev pub ComesAfterLast : Option PrefixValue → PrefixValue → Type 0
ComesAfterLast None prefix = ⊤
ComesAfterLast (Some last) prefix = report_order last prefix ≡ Less

-- the line may come at this stage, and leads to the other
abbrev pub FollowsStage : Stage → SessionLine → Stage → Type 0
FollowsStage nothing (Opened positions) next = next ≡ opened (length positions)
FollowsStage (opened shards) Report next = next ≡ begun shards
FollowsStage (begun shards) (At positions) next = (length positions ≡ shards) × (next ≡ placed shards)
FollowsStage (placed shards) (Total total) next = next ≡ weighed shards
FollowsStage (weighed shards) (Threshold threshold) next = next ≡ listing shards 0 None
FollowsStage (listing shards count last) (Line line) next =
    ComesAfterLast last line.prefix × (count + 1 < line_limit) × (next ≡ listing shards (count + 1) (Some line.prefix))
FollowsStage (listing shards count last) Done next = next ≡ done shards
FollowsStage (done shards) Report next = next ≡ begun shards
FollowsStage (done shards) (Saved positions) next = (length positions ≡ shards) × (next ≡ saved shards)
FollowsStage (done shards) (Frames frames) next = next ≡ counted
FollowsStage (saved shards) Report next = next ≡ begun shards
FollowsStage (saved shards) (Frames frames) next = next ≡ counted
FollowsStage counted (Skipped skips) next = next ≡ skipped
FollowsStage skipped (Cut place) next = next ≡ cut
FollowsStage skipped End next = next ≡ ended
FollowsStage cut End next = next ≡ ended
FollowsStage _ _ _ = ⊥

-- lines lead from one stage to another
abbrev pub LeadsFromStage : Stage → List SessionLine → Stage → Type 0
LeadsFromStage stage [] last = stage ≡ last
LeadsFromStage stage (line ∷ lines) last = (next : Stage) × FollowsStage stage line next × LeadsFromStage next lines last

-- the session has not ended
abbrev pub IsStageBeforeEnd : Stage → Type 0
IsStageBeforeEnd ended = ⊥
IsStageBeforeEnd _ = ⊤

-- the lines of a report after its first
abbrev pub body_lines : ReportValue → List SessionLine
body_lines report =
    At report.positions ∷ Total report.total ∷ Threshold report.threshold ∷ (map Line report.lines ++ Done ∷ [])

-- what follows a report and its saved cut: another report, or the number of frames
abbrev pub line_after_report : Option ℕ → SessionLine
line_after_report None = Report
line_after_report (Some frames) = Frames frames

-- the stage that this line leads to
abbrev pub after_report : ℕ → Option ℕ → Stage
after_report shards None = begun shards
after_report shards (Some frames) = counted
