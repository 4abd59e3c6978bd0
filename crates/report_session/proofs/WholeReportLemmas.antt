-- The report over all dealt records.
use Rattle.std.proofs.Common.{◌≡◌, ◌∙◌, ℕ, List, ap, subst, sym, None, get_or}
use Rattle.prefix_lattice.specs.{RecordValue}
use Rattle.shard_state.specs.{ShardValue, BasesRepresent, core_lists, core_shape, TableShape}
use Rattle.hhh_report.specs.{IsSameReport, IsSound, AreOfGrain}
use Rattle.hhh_output.specs.{IsReportOf}
use Rattle.hhh_report.specs.declared.report.Report.{Report}
use Rattle.gate_workers.specs.{IsCoreReport, cut_at}
use Rattle.command_words.specs.declared.settings.Settings.{Settings}
use Rattle.report_session.specs.Session.{session_ends, new_shards, IsWholeReport, IsShownInSession, asked_shape}
use Rattle.report_session.proofs.LastReportLemmas.{LastReportIsUnique}
use Rattle.report_session.proofs.OpeningShardLemmas.{new_opening_shards_as_dealt}
use Rattle.std.proofs.lemmas.List.{get_or_default}

-- the lines of a report of shards are of their grain
pub core_report_is_of_grain : (opening : List ShardValue) (phi : ℕ) (report : Report) → IsCoreReport opening phi report
    → AreOfGrain (core_shape opening).grain report.lines
core_report_is_of_grain opening phi report is place default within =
    ((is.is.lines (get_or report.lines place default)).0 (place, within, get_or_default report.lines place _ default within)).is_prefix

-- the report that is shown at the ends of new shards counts all their records
pub whole_report_counts_all_records : (settings : Settings) (lists : List (List RecordValue)) (opening : List ShardValue) (report : Report)
    → opening ≡ new_shards (asked_shape settings) lists → core_shape opening ≡ asked_shape settings → BasesRepresent (new_shards (asked_shape settings) lists)
    → IsShownInSession opening settings (record { report = report; saved = None }) → report.positions ≡ session_ends opening
    → IsWholeReport settings lists report
whole_report_counts_all_records settings lists opening report same alike bases shown at_ends = record {
  is_report = subst (λ o. IsCoreReport o settings.phi report) same shown.is_report;
  at_ends = at_ends ∙ ap session_ends same;
  of_grain =
      subst (λ (shape : TableShape). AreOfGrain shape.grain report.lines) alike
      (core_report_is_of_grain opening settings.phi report shown.is_report);
  is_sound =
      subst (λ l. IsSound settings.grain report l settings.capacity settings.phi)
      (ap core_lists same ∙ new_opening_shards_as_dealt (asked_shape settings) lists)
      (shown.is_sound (subst BasesRepresent (sym same) bases));
}

-- the report at the ends of shards
pub whole_reports_agree : LastReportIsUnique → (opening other_opening : List ShardValue) (phi other_phi : ℕ) (report other : Report)
    → opening ≡ other_opening → phi ≡ other_phi
    → IsCoreReport opening phi report → report.positions ≡ session_ends opening
    → IsCoreReport other_opening other_phi other → other.positions ≡ session_ends other_opening → IsSameReport report other
whole_reports_agree one opening other_opening phi other_phi report other same_opening same_phi is at_ends is_other
    other_at_ends =
    let same_cut : cut_at other_opening other.positions ≡ cut_at opening report.positions =
    ap (cut_at other_opening) other_at_ends ∙ ap (λ o. cut_at o (session_ends o)) (sym same_opening)
    ∙ ap (cut_at opening) (sym at_ends) in
    one (cut_at opening report.positions) phi report other report.are_lines other.are_lines is.is
    (subst (λ n. IsReportOf (cut_at opening report.positions) n other) (sym same_phi)
    (subst (λ cut. IsReportOf cut other_phi other) same_cut is_other.is))
