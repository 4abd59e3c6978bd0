-- The report of a cut (Mitzenmacher, Steinke, Thaler 2012): which prefixes are its lines.
use Rattle.std.specs.Prelude.{ℕ, ◌≡◌, ◌*◌, ◌≤◌, ◌↔◌, List, Contains, pos, ◌≤ℤ◌}
use Rattle.prefix_lattice.specs.{PrefixValue, IsPrefix, node_of_prefix, prefix_key}
use Rattle.shard_state.specs.{CutValue, cut_positions, total_of_cut}
use Rattle.cut_merge.specs.{interval_in_cut, monitored_in_cut}
use Rattle.conditioned_bounds.specs.{bound_of}
use Rattle.hhh_report.specs.declared.line.Line.{Line}
use Rattle.hhh_report.specs.declared.report.Report.{Report}
use Rattle.hhh_report.specs.{prefixes_of_lines, IsThreshold, million}

-- some shard of the cut monitors the prefix: its table at the prefix's node has an entry for it
abbrev pub IsMonitored : CutValue → PrefixValue → Type 0
IsMonitored cut prefix = Contains (monitored_in_cut cut (node_of_prefix cut.shape.grain prefix)) (prefix_key prefix)

-- the low of a prefix in a cut
abbrev pub low_in : CutValue → PrefixValue → ℕ
low_in cut prefix = (interval_in_cut cut prefix).low

-- the high of a prefix in a cut
abbrev pub high_in : CutValue → PrefixValue → ℕ
high_in cut prefix = (interval_in_cut cut prefix).high

-- the bound of a prefix over some lines is at least the threshold
abbrev pub IsUnexplained : CutValue → ℕ → List PrefixValue → PrefixValue → Type 0
IsUnexplained cut threshold lines prefix = pos threshold ≤ℤ bound_of (low_in cut) (high_in cut) prefix lines

-- the line of a prefix of the cut's grain over these lines: it shows the merged interval of the prefix, which some
-- shard monitors, which is heavy, and which the lines leave unexplained
pub record IsLineOf (cut : CutValue) (threshold : ℕ) (lines : List PrefixValue) (line : Line) : Type 0 where
  pub is_prefix : IsPrefix cut.shape.grain line.prefix
  pub low : line.lo ≡ low_in cut line.prefix
  pub high : line.hi ≡ high_in cut line.prefix
  pub monitored : IsMonitored cut line.prefix
  pub heavy : threshold ≤ line.hi
  pub unexplained : IsUnexplained cut threshold lines line.prefix

-- the report of a cut: its positions, its total, the threshold, and a line for exactly the prefixes
-- that are heavy, monitored, and not explained by the lines themselves. By the invariant of the type `Report`, which is
-- `AreReportLines`, the lines are in strict order, so none comes twice. For one `phi` a cut has exactly one such report:
-- `each_cut_has_a_report`, `a_cut_has_one_report`
pub record IsReportOf (cut : CutValue) (phi : ℕ) (report : Report) : Type 0 where
  pub positions : report.positions ≡ cut_positions cut
  pub total : report.total ≡ total_of_cut cut
  pub threshold : IsThreshold phi report.total report.threshold
  pub lines : (line : Line) → Contains report.lines line ↔ IsLineOf cut report.threshold (prefixes_of_lines report.lines) line

-- tables of this capacity can't hide a prefix of this share, which is at least twice the greatest width of an interval
abbrev pub IsWideShare : ℕ → ℕ → Type 0
IsWideShare phi capacity = 2 * million ≤ phi * capacity
