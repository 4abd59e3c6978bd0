-- How lines lead from stage to stage.
use Rattle.std.proofs.Common.{◌≡◌, ℕ, ◌≤◌, List, [], ◌∷◌, ◌++◌, None}
use Rattle.std.proofs.Common.{refl, sym, ◌∙◌, subst, arith}
use Rattle.std.specs.List.{AllByRecursion}
use Rattle.std.proofs.Math.ListN.{replicate, length-replicate}
use Rattle.std.proofs.lemmas.List.Elements.{All-replicate}
use Rattle.prefix_lattice.specs.declared.grain.Grain.{Grain}
use Rattle.report_text.specs.Printing.{ShowsPositions}
use Rattle.report_text.specs.Session.{IsSessionLine}
use Rattle.report_text.specs.Stages.{Stage, nothing, opened, begun, placed, weighed, listing, done, saved, counted}
use Rattle.report_text.specs.Stages.{skipped, cut, ended, FollowsStage, LeadsFromStage}
use Rattle.report_text.specs.declared.session_line.SessionLine.{SessionLine}
use Rattle.report_text.specs.declared.session_line.SessionLine.TheVariants.{Opened, Report, At, Total, Threshold, Line}
use Rattle.report_text.specs.declared.session_line.SessionLine.TheVariants.{Done, Saved, Frames, Skipped, Cut, End}

-- a line leads to one stage
pub line_leads_to_one_stage : (stage : Stage) (line : SessionLine) (next other : Stage) → FollowsStage stage line next
    → FollowsStage stage line other → next ≡ other
line_leads_to_one_stage nothing (Opened positions) next other one two = one ∙ sym two
line_leads_to_one_stage (opened n) Report next other one two = one ∙ sym two
line_leads_to_one_stage (begun n) (At positions) next other one two = one.1 ∙ sym two.1
line_leads_to_one_stage (placed n) (Total total) next other one two = one ∙ sym two
line_leads_to_one_stage (weighed n) (Threshold threshold) next other one two = one ∙ sym two
line_leads_to_one_stage (listing n count last) (Line line) next other one two = one.2 ∙ sym two.2
line_leads_to_one_stage (listing n count last) Done next other one two = one ∙ sym two
line_leads_to_one_stage (done n) Report next other one two = one ∙ sym two
line_leads_to_one_stage (done n) (Saved positions) next other one two = one.1 ∙ sym two.1
line_leads_to_one_stage (done n) (Frames frames) next other one two = one ∙ sym two
line_leads_to_one_stage (saved n) Report next other one two = one ∙ sym two
line_leads_to_one_stage (saved n) (Frames frames) next other one two = one ∙ sym two
line_leads_to_one_stage counted (Skipped skips) next other one two = one ∙ sym two
line_leads_to_one_stage skipped (Cut place) next other one two = one ∙ sym two
line_leads_to_one_stage skipped End next other one two = one ∙ sym two
line_leads_to_one_stage cut End next other one two = one ∙ sym two
line_leads_to_one_stage _ _ next other one two = absurd one

-- lines lead to one stage
pub lines_lead_to_one_stage : (stage : Stage) (lines : List SessionLine) (last other : Stage)
    → LeadsFromStage stage lines last
    → LeadsFromStage stage lines other → last ≡ other
lines_lead_to_one_stage stage [] last other one two = sym one ∙ two
lines_lead_to_one_stage stage (line ∷ lines) last other one two =
    let same = line_leads_to_one_stage stage line two.0 one.0 two.1 one.1 in
    lines_lead_to_one_stage one.0 lines last other one.2 (subst (λ s. LeadsFromStage s lines other) same two.2)

-- lines after lines
pub stage_after_appended_lines : (stage : Stage) (lines others : List SessionLine) (next last : Stage)
    → LeadsFromStage stage lines next
    → LeadsFromStage next others last → LeadsFromStage stage (lines ++ others) last
stage_after_appended_lines stage [] others next last one two = subst (λ s. LeadsFromStage s others last) (sym one) two
stage_after_appended_lines stage (line ∷ lines) others next last one two =
    (one.0, one.1, stage_after_appended_lines one.0 lines others next last one.2 two)

-- the stage between lines and lines
pub stage_between_lines : (stage : Stage) (lines others : List SessionLine) (last : Stage)
    → LeadsFromStage stage (lines ++ others) last
    → (next : Stage) × LeadsFromStage stage lines next × LeadsFromStage next others last
stage_between_lines stage [] others last leads = (stage, refl, leads)
stage_between_lines stage (line ∷ lines) others last leads =
    let rest = stage_between_lines leads.0 lines others last leads.2 in
    (rest.0, (leads.0, leads.1, rest.1), rest.2)

-- nothing follows the end
pub ended_stage_is_last : (line : SessionLine) (lines : List SessionLine) (last : Stage)
    → LeadsFromStage ended (line ∷ lines) last → ⊥
ended_stage_is_last (Opened positions) lines last leads = leads.1
ended_stage_is_last Report lines last leads = leads.1
ended_stage_is_last (At positions) lines last leads = leads.1
ended_stage_is_last (Total total) lines last leads = leads.1
ended_stage_is_last (Threshold threshold) lines last leads = leads.1
ended_stage_is_last (Line line) lines last leads = leads.1
ended_stage_is_last Done lines last leads = leads.1
ended_stage_is_last (Saved positions) lines last leads = leads.1
ended_stage_is_last (Frames frames) lines last leads = leads.1
ended_stage_is_last (Skipped skips) lines last leads = leads.1
ended_stage_is_last (Cut place) lines last leads = leads.1
ended_stage_is_last End lines last leads = leads.1

-- 1 to 16 shards
pub record AreStageShards (shards : ℕ) : Type 0 where
  pub some : 1 ≤ shards
  pub few : shards ≤ 16

-- the stage is of a session over 1 to 16 shards
abbrev pub IsFitStage : Stage → Type 0
IsFitStage nothing = Unit {0}
IsFitStage (opened n) = AreStageShards n
IsFitStage (begun n) = AreStageShards n
IsFitStage (placed n) = AreStageShards n
IsFitStage (weighed n) = AreStageShards n
IsFitStage (listing n count last) = AreStageShards n
IsFitStage (done n) = AreStageShards n
IsFitStage (saved n) = AreStageShards n
IsFitStage counted = Unit {0}
IsFitStage skipped = Unit {0}
IsFitStage cut = Unit {0}
IsFitStage ended = Unit {0}

next_stage_is_fit : (grain : Grain) (stage : Stage) (line : SessionLine) (next : Stage) → FollowsStage stage line next
    → IsSessionLine grain line → IsFitStage stage
    → IsFitStage next
next_stage_is_fit grain nothing (Opened positions) next follows is fit =
    subst IsFitStage (sym follows) (record { some = is.some; few = is.few })
next_stage_is_fit grain (opened n) Report next follows is fit = subst IsFitStage (sym follows) fit
next_stage_is_fit grain (begun n) (At positions) next follows is fit = subst IsFitStage (sym follows.1) fit
next_stage_is_fit grain (placed n) (Total total) next follows is fit = subst IsFitStage (sym follows) fit
next_stage_is_fit grain (weighed n) (Threshold threshold) next follows is fit = subst IsFitStage (sym follows) fit
next_stage_is_fit grain (listing n count last) (Line line) next follows is fit = subst IsFitStage (sym follows.2) fit
next_stage_is_fit grain (listing n count last) Done next follows is fit = subst IsFitStage (sym follows) fit
next_stage_is_fit grain (done n) Report next follows is fit = subst IsFitStage (sym follows) fit
next_stage_is_fit grain (done n) (Saved positions) next follows is fit = subst IsFitStage (sym follows.1) fit
next_stage_is_fit grain (done n) (Frames frames) next follows is fit = subst IsFitStage (sym follows) tt
next_stage_is_fit grain (saved n) Report next follows is fit = subst IsFitStage (sym follows) fit
next_stage_is_fit grain (saved n) (Frames frames) next follows is fit = subst IsFitStage (sym follows) tt
next_stage_is_fit grain counted (Skipped skips) next follows is fit = subst IsFitStage (sym follows) tt
next_stage_is_fit grain skipped (Cut place) next follows is fit = subst IsFitStage (sym follows) tt
next_stage_is_fit grain skipped End next follows is fit = subst IsFitStage (sym follows) tt
next_stage_is_fit grain cut End next follows is fit = subst IsFitStage (sym follows) tt
next_stage_is_fit grain _ _ next follows is fit = absurd follows

-- lines lead from such stages to such stages
pub last_stage_is_fit : (grain : Grain) (stage : Stage) (lines : List SessionLine) (last : Stage)
    → LeadsFromStage stage lines last
    → AllByRecursion (IsSessionLine grain) lines → IsFitStage stage → IsFitStage last
last_stage_is_fit grain stage [] last leads all fit = subst IsFitStage leads fit
last_stage_is_fit grain stage (line ∷ lines) last leads all fit =
    last_stage_is_fit grain leads.0 lines last leads.2 all.1 (next_stage_is_fit grain stage line leads.0 leads.1 all.0 fit)

-- lines that end a session after its counts, after a report, and so on backwards
abbrev lines_after_counts_stage : List SessionLine
lines_after_counts_stage = Skipped (record { not_ipv4 = 0; short = 0; bad_header = 0 }) ∷ End ∷ []

abbrev lines_after_done_stage : List SessionLine
lines_after_done_stage = Frames 0 ∷ lines_after_counts_stage

abbrev lines_after_total_stage : List SessionLine
lines_after_total_stage = Threshold 1 ∷ Done ∷ lines_after_done_stage

abbrev lines_after_report_stage : ℕ → List SessionLine
lines_after_report_stage n = At (replicate n 0) ∷ Total 0 ∷ lines_after_total_stage

-- lines that end a session at each stage
abbrev pub end_of_stage : Stage → List SessionLine
end_of_stage nothing = Opened (0 ∷ []) ∷ Report ∷ lines_after_report_stage 1
end_of_stage (opened n) = Report ∷ lines_after_report_stage n
end_of_stage (begun n) = lines_after_report_stage n
end_of_stage (placed n) = Total 0 ∷ lines_after_total_stage
end_of_stage (weighed n) = lines_after_total_stage
end_of_stage (listing n count last) = Done ∷ lines_after_done_stage
end_of_stage (done n) = lines_after_done_stage
end_of_stage (saved n) = lines_after_done_stage
end_of_stage counted = lines_after_counts_stage
end_of_stage skipped = End ∷ []
end_of_stage cut = End ∷ []
end_of_stage ended = []

counts_stage_ends : LeadsFromStage counted lines_after_counts_stage ended
counts_stage_ends = (skipped, refl, (ended, refl, refl))

done_stage_ends : (n : ℕ) → LeadsFromStage (done n) lines_after_done_stage ended
done_stage_ends n = (counted, refl, counts_stage_ends)

total_stage_ends : (n : ℕ) → LeadsFromStage (weighed n) lines_after_total_stage ended
total_stage_ends n = (listing n 0 None, refl, (done n, refl, done_stage_ends n))

report_stage_ends : (n : ℕ) → LeadsFromStage (begun n) (lines_after_report_stage n) ended
report_stage_ends n = (placed n, (length-replicate {A = ℕ} n 0, refl), (weighed n, refl, total_stage_ends n))

pub end_of_stage-leads : (stage : Stage) → LeadsFromStage stage (end_of_stage stage) ended
end_of_stage-leads nothing = (opened 1, refl, (begun 1, refl, report_stage_ends 1))
end_of_stage-leads (opened n) = (begun n, refl, report_stage_ends n)
end_of_stage-leads (begun n) = report_stage_ends n
end_of_stage-leads (placed n) = (weighed n, refl, total_stage_ends n)
end_of_stage-leads (weighed n) = total_stage_ends n
end_of_stage-leads (listing n count last) = (done n, refl, done_stage_ends n)
end_of_stage-leads (done n) = done_stage_ends n
end_of_stage-leads (saved n) = (counted, refl, counts_stage_ends)
end_of_stage-leads counted = counts_stage_ends
end_of_stage-leads skipped = (ended, refl, refl)
end_of_stage-leads cut = (ended, refl, refl)
end_of_stage-leads ended = refl

zeros_are_stage_positions : (n : ℕ) → AreStageShards n → ShowsPositions (replicate n 0)
zeros_are_stage_positions n are = record {
  some = omega (arith, length-replicate {A = ℕ} n 0, are.some);
  few = omega (arith, length-replicate {A = ℕ} n 0, are.few);
  within = All-replicate (λ (p : ℕ). p ≤ 16777216) n 0 (omega arith);
}

counts_stage_lines : (grain : Grain) → AllByRecursion (IsSessionLine grain) lines_after_counts_stage
counts_stage_lines grain = (record { not_ipv4 = omega arith; short = omega arith; bad_header = omega arith }, (tt, tt))

total_stage_lines : (grain : Grain) → AllByRecursion (IsSessionLine grain) lines_after_total_stage
total_stage_lines grain = ((omega arith, omega arith), (tt, (omega arith, counts_stage_lines grain)))

report_stage_lines : (grain : Grain) (n : ℕ) → AreStageShards n
    → AllByRecursion (IsSessionLine grain) (lines_after_report_stage n)
report_stage_lines grain n are = (zeros_are_stage_positions n are, (omega arith, total_stage_lines grain))

pub end_of_stage-lines : (grain : Grain) (stage : Stage) → IsFitStage stage
    → AllByRecursion (IsSessionLine grain) (end_of_stage stage)
end_of_stage-lines grain nothing fit = (
  zeros_are_stage_positions 1 (record { some = omega arith; few = omega arith }),
  (tt, report_stage_lines grain 1 (record { some = omega arith; few = omega arith })),
)
end_of_stage-lines grain (opened n) fit = (tt, report_stage_lines grain n fit)
end_of_stage-lines grain (begun n) fit = report_stage_lines grain n fit
end_of_stage-lines grain (placed n) fit = (omega arith, total_stage_lines grain)
end_of_stage-lines grain (weighed n) fit = total_stage_lines grain
end_of_stage-lines grain (listing n count last) fit = (tt, (omega arith, counts_stage_lines grain))
end_of_stage-lines grain (done n) fit = (omega arith, counts_stage_lines grain)
end_of_stage-lines grain (saved n) fit = (omega arith, counts_stage_lines grain)
end_of_stage-lines grain counted fit = counts_stage_lines grain
end_of_stage-lines grain skipped fit = (tt, tt)
end_of_stage-lines grain cut fit = (tt, tt)
end_of_stage-lines grain ended fit = tt
