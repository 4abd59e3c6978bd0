-- What a report says of the records themselves: eight tests over the plain lists, without tables or bounds.
use Rattle.std.specs.Prelude.{ℕ, ◌≡◌, ◌+◌, ◌*◌, ◌<◌, ◌≤◌, List, length, All, Contains}
use Rattle.std.specs.List.{AllZip}
use Rattle.prefix_lattice.specs.{RecordValue, PrefixValue, IsPrefix, prefix_weight, total_weight, conditioned_weight}
use Rattle.prefix_lattice.specs.{closest, kept_pairs, HoldsWeight, IsNarrow}
use Rattle.prefix_lattice.specs.declared.grain.Grain.{Grain}
use Rattle.hhh_report.specs.declared.line.Line.{Line}
use Rattle.hhh_report.specs.declared.report.Report.{Report}
use Rattle.hhh_report.specs.Positions.{records_before}
use Rattle.hhh_report.specs.Lines.{prefixes_of_lines}
use Rattle.hhh_report.specs.Thresholds.{IsThreshold}

-- there are as many positions as lists, and none is past the end of its list
abbrev pub AreWithinLists : List ℕ → List (List RecordValue) → Type 0
AreWithinLists positions lists = AllZip (λ position list. position ≤ length list) positions lists

-- the interval of a line holds the exact weight of its prefix over some records
abbrev pub LineHoldsWeight : List RecordValue → Line → Type 0
LineHoldsWeight records line = HoldsWeight line.lo line.hi (prefix_weight line.prefix records)

-- the interval of a line is no wider than the total divided by the capacity
abbrev pub IsNarrowLine : ℕ → ℕ → Line → Type 0
IsNarrowLine capacity total line = IsNarrow line.lo line.hi capacity total

-- the conditioned weight of a line is at least the threshold, less one greatest width (the total divided by the capacity)
-- for each interval by which the line was judged: its own, those of its closest lines, and those of the meets of their kept
-- pairs. So it may be far below the threshold
abbrev pub IsJustified : ℕ → ℕ → List PrefixValue → List RecordValue → Line → Type 0
IsJustified capacity threshold lines records line =
    capacity * threshold ≤ capacity * conditioned_weight line.prefix lines records
    + (1 + length (closest line.prefix lines) + length (kept_pairs (closest line.prefix lines))) * total_weight records

-- the high of a line is at least the threshold
abbrev pub IsHeavyLine : ℕ → Line → Type 0
IsHeavyLine threshold line = threshold ≤ line.hi

-- given the prefixes of the lines, each prefix of a grain without a line, whether or not a table monitors it, has a
-- conditioned weight below the threshold
abbrev pub AreComplete : Grain → ℕ → List PrefixValue → List RecordValue → Type 0
AreComplete grain threshold lines records = (prefix : PrefixValue) → IsPrefix grain prefix → ¬ Contains lines prefix
    → conditioned_weight prefix lines records < threshold

-- a report whose lines are of a grain is sound over lists of records, for tables of this capacity: eight tests hold. That
-- its lines are in strict order, so that none comes twice, is the invariant of the type `Report`, `AreReportLines`
pub record IsSound (grain : Grain) (report : Report) (lists : List (List RecordValue)) (capacity phi : ℕ) : Type 0 where
  pub positions : AreWithinLists report.positions lists
  pub total : report.total ≡ total_weight (records_before lists report.positions)
  pub threshold : IsThreshold phi report.total report.threshold
  pub interval : All (LineHoldsWeight (records_before lists report.positions)) report.lines
  pub width : All (IsNarrowLine capacity report.total) report.lines
  pub heavy : All (IsHeavyLine report.threshold) report.lines
  pub justified : All
      (IsJustified capacity report.threshold (prefixes_of_lines report.lines) (records_before lists report.positions))
      report.lines
  pub complete : AreComplete grain report.threshold (prefixes_of_lines report.lines) (records_before lists report.positions)
