-- The lines of a report.
use Rattle.std.specs.Prelude.{ℕ, ◌≡◌, ◌<◌, ◌≤◌, List, length, map, All, AllPairs}
use Rattle.std.specs.declared.cmp.Ordering.TheVariants.{Less}
use Rattle.prefix_lattice.specs.{PrefixValue, IsPrefix, report_order}
use Rattle.prefix_lattice.specs.declared.grain.Grain.{Grain}
use Rattle.hhh_report.specs.declared.line.Line.{Line}

-- the prefixes of some lines
abbrev pub prefixes_of_lines : List Line → List PrefixValue
prefixes_of_lines lines = map (λ line. line.prefix) lines

-- every report has fewer lines than this, 2^24: all nodes of a lattice together don't reach it
abbrev pub line_limit : ℕ
line_limit = 16777216

-- the prefix of each line is of a grain
abbrev pub AreOfGrain : Grain → List Line → Type 0
AreOfGrain grain lines = All (λ line. IsPrefix grain line.prefix) lines

-- what holds of the lines of every report: they are few, each has its low at most its high, and they are in the strict
-- order of a report, so no two have the same prefix
pub record AreReportLines (lines : List Line) : Type 0 where
  pub few : length lines < line_limit
  pub ordered : All (λ line. line.lo ≤ line.hi) lines
  pub rising : AllPairs (λ line later. report_order line.prefix later.prefix ≡ Less) lines
