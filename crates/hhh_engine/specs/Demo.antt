-- The demonstration: made traffic that is counted, reported and audited.
use Rattle.std.specs.Prelude.{ℕ, ◌≡◌, List, ◌++◌, length, codes, decimal}
use Rattle.prefix_lattice.specs.{RecordValue}
use Rattle.frame_records.specs.declared.records.Records.{Records}
use Rattle.hhh_report.specs.declared.report.Report.{Report}
use Rattle.traffic_maker.specs.{made_capture}
use Rattle.command_words.specs.declared.settings.Settings.{Settings}
use Rattle.dealt_capture.specs.{AreDealtRecords, DealingRules}
use Rattle.report_session.specs.{IsWholeReport}

-- the lines of a demonstration: what was made, how many records it has, the total and the threshold of the report, how many
-- lines the report has, and that its audit found it sound
abbrev pub demo_text : ℕ → ℕ → ℕ → Report → List ℕ
demo_text seed frames records report =
    codes "demo " ++ decimal seed ++ codes " " ++ decimal frames ++ codes "\nrecords " ++ decimal records
    ++ codes "\ntotal " ++ decimal report.total ++ codes "\nthreshold " ++ decimal report.threshold
    ++ codes "\nlines " ++ decimal (length report.lines) ++ codes "\naudit good\nend\n"

-- the summary of a demonstration: of the report over all records of the capture that the seed makes
pub record IsDemoText (settings : Settings) (rules : DealingRules) (seed frames : ℕ) (text : List ℕ) : Type 0 where
  pub records : Records
  pub lists : List (List RecordValue)
  pub dealt : AreDealtRecords settings rules (made_capture seed frames) records lists
  pub report : Report
  pub is_report : IsWholeReport settings lists report
  pub spelled : text ≡ demo_text seed frames (length records.list) report
