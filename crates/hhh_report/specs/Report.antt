-- When two reports are the same.
use Rattle.std.specs.Prelude.{◌≡◌}
use Rattle.hhh_report.specs.declared.report.Report.{Report}

-- two reports show the same positions, total, threshold and lines
pub record IsSameReport (report other : Report) : Type 0 where
  pub positions : report.positions ≡ other.positions
  pub total : report.total ≡ other.total
  pub threshold : report.threshold ≡ other.threshold
  pub lines : report.lines ≡ other.lines
