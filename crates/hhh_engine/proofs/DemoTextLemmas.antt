-- The text of a demonstration.
use Rattle.std.proofs.Common.{◌≡◌, ◌∙◌, ℕ, List, length, ap, subst, sym}
use Rattle.prefix_lattice.specs.{RecordValue}
use Rattle.deal_rules.specs.declared.deal_kind.DealKind.{DealKind}
use Rattle.frame_records.specs.declared.records.Records.{Records}
use Rattle.hhh_report.specs.{IsSameReport}
use Rattle.hhh_report.specs.declared.line.Line.{Line}
use Rattle.hhh_report.specs.declared.report.Report.{Report}
use Rattle.traffic_maker.specs.{made_capture}
use Rattle.command_words.specs.declared.settings.Settings.{Settings}
use Rattle.hhh_engine.specs.Demo.{IsDemoText, demo_text}
use Rattle.dealt_capture.specs.{rules_by, AreDealtRecords}
use Rattle.std.proofs.Common.{Ok, Err, IfOk}
use Rattle.std.specs.declared.result.Result.{Result}
use Rattle.report_session.specs.{IsWholeReport}

pub demo_text_if_ok_implies : {T E : Type 0} (result : Result T E) (P Q : T → Type 0) → ((x : T) → P x → Q x) → IfOk result P
    → IfOk result Q
demo_text_if_ok_implies (Ok value) P Q follows holds = follows value holds
demo_text_if_ok_implies (Err error) P Q follows holds = tt

-- a capture is dealt in one way
pub record DemoTextIsDealtOnce : Type 0 where
  pub records : (formula : DealKind → ℕ → RecordValue → ℕ → ℕ) (settings other : Settings) (file : List ℕ) (records others : Records)
      (lists other_lists : List (List RecordValue)) → settings.weigh ≡ other.weigh
      → AreDealtRecords settings (rules_by formula) file records lists
      → AreDealtRecords other (rules_by formula) file others other_lists → records.list ≡ others.list
  pub lists : (formula : DealKind → ℕ → RecordValue → ℕ → ℕ) (settings other : Settings) (file : List ℕ) (records others : Records)
      (lists other_lists : List (List RecordValue)) → settings.shards ≡ other.shards → settings.deal ≡ other.deal
      → settings.weigh ≡ other.weigh → AreDealtRecords settings (rules_by formula) file records lists
      → AreDealtRecords other (rules_by formula) file others other_lists → lists ≡ other_lists

-- and dealt lists have one report over all of them
abbrev pub DemoTextReportIsUnique : Type 0
DemoTextReportIsUnique =
    (settings other : Settings) (lists : List (List RecordValue)) (report others : Report) → settings.grain ≡ other.grain
    → settings.capacity ≡ other.capacity → settings.phi ≡ other.phi → IsWholeReport settings lists report
    → IsWholeReport other lists others → IsSameReport report others

-- so the summary of a report is one
pub demo_text_is_unique : DemoTextIsDealtOnce → DemoTextReportIsUnique → (formula : DealKind → ℕ → RecordValue → ℕ → ℕ)
    (settings other : Settings) (seed frames : ℕ) (text other_text : List ℕ)
    → settings.grain ≡ other.grain → settings.shards ≡ other.shards → settings.capacity ≡ other.capacity → settings.phi ≡ other.phi
    → settings.deal ≡ other.deal → settings.weigh ≡ other.weigh
    → IsDemoText settings (rules_by formula) seed frames text
    → IsDemoText other (rules_by formula) seed frames other_text → text ≡ other_text
demo_text_is_unique once one_report formula settings other seed frames text other_text grain shards capacity phi deal weigh is is_other =
    let file = made_capture seed frames in
    let records : is.records.list ≡ is_other.records.list =
    once.records formula settings other file is.records is_other.records is.lists is_other.lists weigh is.dealt is_other.dealt in
    let lists : is.lists ≡ is_other.lists =
    once.lists formula settings other file is.records is_other.records is.lists is_other.lists shards deal weigh is.dealt is_other.dealt in
    let same : IsSameReport is.report is_other.report =
    one_report settings other is.lists is.report is_other.report grain capacity phi is.is_report
    (subst (λ l. IsWholeReport other l is_other.report) (sym lists) is_other.is_report) in
    is.spelled ∙ one_text seed frames is.records is_other.records is.report is_other.report records same
    ∙ sym is_other.spelled
  where
    one_text : (seed frames : ℕ) (records others : Records) (report other : Report) → records.list ≡ others.list
        → IsSameReport report other
        → demo_text seed frames (length records.list) report ≡ demo_text seed frames (length others.list) other
    one_text seed frames records others report other same_records same =
        let counted : length records.list ≡ length others.list = ap (λ (l : List RecordValue). length l) same_records in
        let total : report.total ≡ other.total = same.total in
        let threshold : report.threshold ≡ other.threshold = same.threshold in
        let lines : length report.lines ≡ length other.lines = ap (λ (l : List Line). length l) same.lines in
        cc
