-- Lines that may not come next.
use Rattle.std.proofs.Common.{◌≢◌, ℕ, List, Option, Some, None, refl}
use Rattle.hhh_report.specs.declared.line.Line.{Line as LineValue}
use Rattle.report_text.specs.Stages.{Stage, nothing, opened, begun, placed, weighed, listing, done, saved, counted}
use Rattle.report_text.specs.Stages.{skipped, cut, FollowsStage, line_after_report}
use Rattle.report_text.specs.declared.session_line.Skips.{Skips}
use Rattle.report_text.specs.declared.session_line.SessionLine.{SessionLine}
use Rattle.report_text.specs.declared.session_line.SessionLine.TheVariants.{Opened, Report, At, Total, Threshold, Line}
use Rattle.report_text.specs.declared.session_line.SessionLine.TheVariants.{Done, Saved, Frames, Skipped, Cut, End}

-- a session begins with positions
pub line_refused_unless_opened : (line : SessionLine) → ((positions : List ℕ) → line ≢ Opened positions)
    → (next : Stage)
    → FollowsStage nothing line next → ⊥
line_refused_unless_opened (Opened positions) none next follows = none positions refl
line_refused_unless_opened _ none next follows = follows

-- then a report begins
pub line_refused_unless_report : (n : ℕ) (line : SessionLine) → line ≢ Report → (next : Stage)
    → FollowsStage (opened n) line next → ⊥
line_refused_unless_report n Report none next follows = none refl
line_refused_unless_report n _ none next follows = follows

-- its positions
pub line_refused_unless_at : (n : ℕ) (line : SessionLine) → ((positions : List ℕ) → line ≢ At positions)
    → (next : Stage)
    → FollowsStage (begun n) line next → ⊥
line_refused_unless_at n (At positions) none next follows = none positions refl
line_refused_unless_at n _ none next follows = follows

-- its total
pub line_refused_unless_total : (n : ℕ) (line : SessionLine) → ((total : ℕ) → line ≢ Total total) → (next : Stage)
    → FollowsStage (placed n) line next → ⊥
line_refused_unless_total n (Total total) none next follows = none total refl
line_refused_unless_total n _ none next follows = follows

-- its threshold
pub line_refused_unless_threshold : (n : ℕ) (line : SessionLine) → ((threshold : ℕ) → line ≢ Threshold threshold)
    → (next : Stage)
    → FollowsStage (weighed n) line next → ⊥
line_refused_unless_threshold n (Threshold threshold) none next follows = none threshold refl
line_refused_unless_threshold n _ none next follows = follows

-- its lines, and its end
pub line_refused_in_listing : (n count : ℕ) (last : _) (line : SessionLine)
    → ((listed : LineValue) → line ≢ Line listed)
    → line ≢ Done → (next : Stage) → FollowsStage (listing n count last) line next → ⊥
line_refused_in_listing n count last (Line listed) none not_done next follows = none listed refl
line_refused_in_listing n count last Done none not_done next follows = not_done refl
line_refused_in_listing n count last _ none not_done next follows = follows

-- what follows it
pub line_refused_after_done : (n : ℕ) (line : SessionLine) → ((positions : List ℕ) → line ≢ Saved positions)
    → ((frames : Option ℕ) → line ≢ line_after_report frames) → (next : Stage) → FollowsStage (done n) line next → ⊥
line_refused_after_done n Report none others next follows = others None refl
line_refused_after_done n (Saved positions) none others next follows = none positions refl
line_refused_after_done n (Frames frames) none others next follows = others (Some frames) refl
line_refused_after_done n _ none others next follows = follows

-- what follows saved positions
pub line_refused_after_saved : (n : ℕ) (line : SessionLine) → ((frames : Option ℕ) → line ≢ line_after_report frames)
    → (next : Stage)
    → FollowsStage (saved n) line next → ⊥
line_refused_after_saved n Report others next follows = others None refl
line_refused_after_saved n (Frames frames) others next follows = others (Some frames) refl
line_refused_after_saved n _ others next follows = follows

-- the counts
pub line_refused_unless_skips : (line : SessionLine) → ((skips : Skips) → line ≢ Skipped skips) → (next : Stage)
    → FollowsStage counted line next → ⊥
line_refused_unless_skips (Skipped skips) none next follows = none skips refl
line_refused_unless_skips _ none next follows = follows

-- the place of a cut frame, or the end
pub line_refused_after_skips : (line : SessionLine) → ((place : ℕ) → line ≢ Cut place) → line ≢ End → (next : Stage)
    → FollowsStage skipped line next → ⊥
line_refused_after_skips (Cut place) none not_end next follows = none place refl
line_refused_after_skips End none not_end next follows = not_end refl
line_refused_after_skips _ none not_end next follows = follows

-- and the end
pub line_refused_unless_end : (line : SessionLine) → line ≢ End → (next : Stage) → FollowsStage cut line next → ⊥
line_refused_unless_end End none next follows = none refl
line_refused_unless_end _ none next follows = follows
