-- The verdict on a report: that it is sound, or the first of the eight tests of a sound report that fails.
use Rattle.std.specs.Prelude.{ℕ, ◌≡◌, List}
use Rattle.prefix_lattice.specs.{RecordValue, total_weight}
use Rattle.prefix_lattice.specs.declared.grain.Grain.{Grain}
use Rattle.hhh_report.specs.{records_before, IsSound, AreWithinLists, IsThreshold}
use Rattle.hhh_report.specs.declared.line.Line.{Line}
use Rattle.hhh_report.specs.declared.report.Report.{Report}
use Rattle.hhh_report.specs.{LineHoldsWeight, IsNarrowLine, IsHeavyLine}
use Rattle.hhh_report.specs.{AreComplete, prefixes_of_lines}
use Rattle.exact_audit.specs.declared.verdict.Verdict.{Verdict}
use Rattle.exact_audit.specs.declared.verdict.Verdict.TheVariants.{Good, BadPositions, BadTotal, BadThreshold}
use Rattle.exact_audit.specs.declared.verdict.Verdict.TheVariants.{BadInterval, TooWide, LowLine, NotJustified, LeftOut}
use Rattle.exact_audit.specs.LineTests.{FailsFirst, TestMeasures, PassWeight, PassWidth}
use Rattle.exact_audit.specs.LineTests.{PassHeavy, PassesJustified, PassJustified}
use Rattle.exact_audit.specs.LeftOut.{IsFirstLeftOut}

-- the verdict on lines over the records that a report counts: the first of the last five tests that fails, with the
-- first line that fails it or the first prefix that is left out
abbrev pub IsLineVerdict : TestMeasures → List RecordValue → List Line → Verdict → Type 0
IsLineVerdict by records lines (BadInterval number) = FailsFirst (LineHoldsWeight records) lines number
IsLineVerdict by records lines (TooWide number) =
    PassWeight records lines × FailsFirst (IsNarrowLine by.capacity by.total) lines number
IsLineVerdict by records lines (LowLine number) =
    PassWeight records lines × PassWidth by lines × FailsFirst (IsHeavyLine by.threshold) lines number
IsLineVerdict by records lines (NotJustified number) =
    PassWeight records lines × PassWidth by lines × PassHeavy by lines
    × FailsFirst (PassesJustified by records lines) lines number
IsLineVerdict by records lines (LeftOut prefix weight) =
    PassWeight records lines × PassWidth by lines × PassHeavy by lines × PassJustified by records lines
    × IsFirstLeftOut by.grain (prefixes_of_lines lines) records by.threshold prefix weight
IsLineVerdict by records lines Good =
    PassWeight records lines × PassWidth by lines × PassHeavy by lines × PassJustified by records lines
    × AreComplete by.grain by.threshold (prefixes_of_lines lines) records
IsLineVerdict by records lines BadPositions = ⊥
IsLineVerdict by records lines BadTotal = ⊥
IsLineVerdict by records lines BadThreshold = ⊥

-- the total of a report is the weight of the records before its positions
abbrev pub IsTotal : List (List RecordValue) → Report → Type 0
IsTotal lists report = report.total ≡ total_weight (records_before lists report.positions)

-- the three tests that don't concern lines hold, so the verdict goes on to the lines
pub record ReachesLines (lists : List (List RecordValue)) (phi : ℕ) (report : Report) : Type 0 where
  pub positions : AreWithinLists report.positions lists
  pub total : IsTotal lists report
  pub threshold : IsThreshold phi report.total report.threshold

-- the verdict on the lines of a report whose first three tests hold
pub record IsLinesVerdict (grain : Grain) (lists : List (List RecordValue)) (capacity phi : ℕ) (report : Report)
    (verdict : Verdict) : Type 0 where
  pub head : ReachesLines lists phi report
  pub lines : IsLineVerdict
      (record { grain = grain; capacity = capacity; threshold = report.threshold; total = report.total })
      (records_before lists report.positions) report.lines verdict

-- the verdict on a report over lists of records, for a grain: it is sound, or it passes the tests before the one that the
-- verdict names, and fails that one, first in the line or with the prefix that the verdict names
abbrev pub IsVerdict : Grain → List (List RecordValue) → ℕ → ℕ → Report → Verdict → Type 0
IsVerdict grain lists capacity phi report Good = IsSound grain report lists capacity phi
IsVerdict grain lists capacity phi report BadPositions = ¬ AreWithinLists report.positions lists
IsVerdict grain lists capacity phi report BadTotal = AreWithinLists report.positions lists × ¬ IsTotal lists report
IsVerdict grain lists capacity phi report BadThreshold =
    AreWithinLists report.positions lists × IsTotal lists report × ¬ IsThreshold phi report.total report.threshold
IsVerdict grain lists capacity phi report verdict = IsLinesVerdict grain lists capacity phi report verdict
