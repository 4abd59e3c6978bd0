pub mod Positions
pub mod Thresholds
pub mod Lines
pub mod Report
pub mod SoundReport
-- the face: what contracts of other crates cite
pub use Rattle.hhh_report.specs.Positions.{AreNotPast, records_before}
pub use Rattle.hhh_report.specs.Thresholds.{IsThreshold, million}
pub use Rattle.hhh_report.specs.Lines.{AreOfGrain, AreReportLines, line_limit, prefixes_of_lines}
pub use Rattle.hhh_report.specs.Report.{IsSameReport}
pub use Rattle.hhh_report.specs.SoundReport.{AreComplete, AreWithinLists}
pub use Rattle.hhh_report.specs.SoundReport.{LineHoldsWeight, IsHeavyLine, IsJustified}
pub use Rattle.hhh_report.specs.SoundReport.{IsNarrowLine, IsSound}
