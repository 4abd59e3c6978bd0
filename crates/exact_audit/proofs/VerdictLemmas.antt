-- From the tests of lines to the verdict on a report.
use Rattle.std.proofs.Common.{◌≡◌, ℕ, ◌<◌, ◌≤◌, List, All, None, Some, ◌↔◌}
use Rattle.std.proofs.Common.{refl, subst, arith, ⊎_elim}
use Rattle.std.proofs.lemmas.Bool.{cases_lt}
use Rattle.std.proofs.lemmas.Option.{get_or_from_slice_get, slice_get_within}
use Rattle.prefix_lattice.specs.{RecordValue, PrefixValue, conditioned_weight}
use Rattle.prefix_lattice.specs.declared.grain.Grain.{Grain}
use Rattle.hhh_report.specs.{records_before, IsSound, IsThreshold, AreComplete}
use Rattle.hhh_report.specs.declared.line.Line.{Line}
use Rattle.hhh_report.specs.declared.report.Report.{Report}
use Rattle.exact_audit.specs.declared.verdict.Verdict.{Verdict}
use Rattle.exact_audit.specs.declared.verdict.Verdict.TheVariants.{Good, BadPositions, BadTotal, BadThreshold}
use Rattle.exact_audit.specs.declared.verdict.Verdict.TheVariants.{BadInterval, TooWide, LowLine, NotJustified, LeftOut}
use Rattle.exact_audit.specs.declared.left_out.LeftOut.{LeftOut as Left}
use Rattle.exact_audit.specs.LineTests.{FailsFirst}
use Rattle.exact_audit.specs.LeftOut.{IsLeftOut, IsFirstLeftOut}
use Rattle.exact_audit.specs.Verdict.{IsLineVerdict, ReachesLines, IsVerdict}
use Rattle.exact_audit.specs.Findings.{IsFirst}

-- a total has one threshold
pub verdict_threshold_is_unique : (phi total threshold other : ℕ) → IsThreshold phi total threshold
    → IsThreshold phi total other
    → threshold ≡ other
verdict_threshold_is_unique phi total threshold other is other_is =
    let least = is.least other other_is.heavy in
    let other_least = other_is.least threshold is.heavy in
    omega arith

-- the first prefix of those left out
pub verdict_leaves_out_first : {grain : Grain} (lines : List PrefixValue) (records : List RecordValue) (threshold : ℕ) (first : Left)
    → IsFirst (IsLeftOut grain lines records threshold) (Some first)
    → IsFirstLeftOut grain lines records threshold first.prefix first.weight
verdict_leaves_out_first lines records threshold first is = record { left_out = is.0; first = is.1 }

-- where none is left out
pub verdict_leaves_out_none : {grain : Grain} (lines : List PrefixValue) (records : List RecordValue) (threshold : ℕ)
    → IsFirst (IsLeftOut grain lines records threshold) None → AreComplete grain threshold lines records
verdict_leaves_out_none lines records threshold none prefix is no_line =
    ⊎_elim (λ (less : conditioned_weight prefix lines records < threshold). less)
    (λ (heavy : threshold ≤ conditioned_weight prefix lines records).
    absurd (none prefix (conditioned_weight prefix lines records)
    (record { is_prefix = is; no_line = no_line; weighs = refl; heavy = heavy })))
    (cases_lt (conditioned_weight prefix lines records) threshold)

-- the verdict on lines is that on a report whose first three tests hold
pub verdict_from_lines : (grain : Grain) (lists : List (List RecordValue)) (capacity phi : ℕ) (report : Report) (verdict : Verdict)
    → ReachesLines lists phi report
    → IsLineVerdict (record { grain = grain; capacity = capacity; threshold = report.threshold; total = report.total })
    (records_before lists report.positions) report.lines verdict
    → IsVerdict grain lists capacity phi report verdict
verdict_from_lines grain lists capacity phi report Good head lines = record {
  positions = head.positions;
  total = head.total;
  threshold = head.threshold;
  interval = lines.0;
  width = lines.1;
  heavy = lines.2;
  justified = lines.3;
  complete = lines.4;
}
verdict_from_lines grain lists capacity phi report BadPositions head lines = absurd lines
verdict_from_lines grain lists capacity phi report BadTotal head lines = absurd lines
verdict_from_lines grain lists capacity phi report BadThreshold head lines = absurd lines
verdict_from_lines grain lists capacity phi report (BadInterval number) head lines = record { head = head; lines = lines }
verdict_from_lines grain lists capacity phi report (TooWide number) head lines = record { head = head; lines = lines }
verdict_from_lines grain lists capacity phi report (LowLine number) head lines = record { head = head; lines = lines }
verdict_from_lines grain lists capacity phi report (NotJustified number) head lines = record { head = head; lines = lines }
verdict_from_lines grain lists capacity phi report (LeftOut prefix weight) head lines = record { head = head; lines = lines }

-- where all lines pass a test, none is the first that fails it
pub no_verdict_where_all_pass : (Passes : Line → Type 0) (lines : List Line) (number : ℕ) → All Passes lines
    → FailsFirst Passes
    lines number → ⊥
no_verdict_where_all_pass Passes lines number all first =
    first.fails (subst Passes (get_or_from_slice_get lines first.before first.line first.line first.is)
    (all first.before first.line (slice_get_within lines first.before first.line first.is)))

-- the verdict on a sound report is that it is sound
pub verdict_on_sound_is_good : (grain : Grain) (lists : List (List RecordValue)) (capacity phi : ℕ) (report : Report) (verdict : Verdict)
    → IsSound grain report lists capacity phi → IsVerdict grain lists capacity phi report verdict → verdict ≡ Good
verdict_on_sound_is_good grain lists capacity phi report Good sound is = refl
verdict_on_sound_is_good grain lists capacity phi report BadPositions sound is = absurd (is sound.positions)
verdict_on_sound_is_good grain lists capacity phi report BadTotal sound is = absurd (is.1 sound.total)
verdict_on_sound_is_good grain lists capacity phi report BadThreshold sound is = absurd (is.2 sound.threshold)
verdict_on_sound_is_good grain lists capacity phi report (BadInterval number) sound is =
    absurd (no_verdict_where_all_pass _ report.lines number sound.interval is.lines)
verdict_on_sound_is_good grain lists capacity phi report (TooWide number) sound is =
    absurd (no_verdict_where_all_pass _ report.lines number sound.width is.lines.1)
verdict_on_sound_is_good grain lists capacity phi report (LowLine number) sound is =
    absurd (no_verdict_where_all_pass _ report.lines number sound.heavy is.lines.2)
verdict_on_sound_is_good grain lists capacity phi report (NotJustified number) sound is =
    absurd (no_verdict_where_all_pass _ report.lines number sound.justified is.lines.3)
verdict_on_sound_is_good grain lists capacity phi report (LeftOut prefix weight) sound is =
    let out = is.lines.4.left_out in
    absurd (omega (arith, sound.complete prefix out.is_prefix out.no_line, out.weighs, out.heavy))

-- the verdict is that a report is sound exactly if it is
pub verdict_is_good_iff_sound : (grain : Grain) (lists : List (List RecordValue)) (capacity phi : ℕ) (report : Report) (verdict : Verdict)
    → IsVerdict grain lists capacity phi report verdict → (verdict ≡ Good) ↔ IsSound grain report lists capacity phi
verdict_is_good_iff_sound grain lists capacity phi report verdict is = (
  λ same. subst (IsVerdict grain lists capacity phi report) same is,
  λ sound. verdict_on_sound_is_good grain lists capacity phi report verdict sound is,
)
