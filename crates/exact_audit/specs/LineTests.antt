-- What the tests of a report ask of its lines.
use Rattle.std.specs.Prelude.{ℕ, ◌≡◌, ◌+◌, List, take, All, slice_get, Option, None, Some}
use Rattle.prefix_lattice.specs.{RecordValue}
use Rattle.prefix_lattice.specs.declared.grain.Grain.{Grain}
use Rattle.hhh_report.specs.declared.line.Line.{Line}
use Rattle.hhh_report.specs.{LineHoldsWeight, IsNarrowLine, IsHeavyLine}
use Rattle.hhh_report.specs.{IsJustified, prefixes_of_lines}
use Rattle.exact_audit.specs.declared.line_tests.Measures.{Measures}

-- the line of this number, counted from 1, is the first that fails a test
pub record FailsFirst (Passes : Line → Type 0) (lines : List Line) (number : ℕ) : Type 0 where
  pub before : ℕ
  pub counted : number ≡ before + 1
  pub line : Line
  pub is : slice_get lines before ≡ Some line
  pub fails : ¬ Passes line
  pub passed : All Passes (take before lines)

-- all lines pass a test, or the line of this number is the first that fails it
abbrev pub IsTestResult : (Line → Type 0) → List Line → Option ℕ → Type 0
IsTestResult Passes lines None = All Passes lines
IsTestResult Passes lines (Some number) = FailsFirst Passes lines number

-- the least capacity of tables for which a report is audited
abbrev pub least_audited : ℕ
least_audited = 2

-- the greatest capacity of tables for which a report is audited
abbrev pub most_audited : ℕ
most_audited = 4096

-- what the tests of lines are made with: the grain, the capacity of the tables, and the threshold and the total of the
-- report
pub record TestMeasures : Type 0 where
  pub grain : Grain
  pub capacity : ℕ
  pub threshold : ℕ
  pub total : ℕ

-- the interval of each line holds its prefix's weight
abbrev pub PassWeight : List RecordValue → List Line → Type 0
PassWeight records lines = All (LineHoldsWeight records) lines

-- no interval of a line is too wide
abbrev pub PassWidth : TestMeasures → List Line → Type 0
PassWidth by lines = All (IsNarrowLine by.capacity by.total) lines

-- no high of a line is below the threshold
abbrev pub PassHeavy : TestMeasures → List Line → Type 0
PassHeavy by lines = All (IsHeavyLine by.threshold) lines

-- a line is justified among these lines
abbrev pub PassesJustified : TestMeasures → List RecordValue → List Line → Line → Type 0
PassesJustified by records lines line = IsJustified by.capacity by.threshold (prefixes_of_lines lines) records line

-- each line is justified
abbrev pub PassJustified : TestMeasures → List RecordValue → List Line → Type 0
PassJustified by records lines = All (PassesJustified by records lines) lines

-- what the tests of lines are made with
abbrev pub measures_of : Measures → TestMeasures
measures_of by = record {
  grain = by.grain;
  capacity = by.capacity;
  threshold = by.threshold;
  total = by.total;
}
