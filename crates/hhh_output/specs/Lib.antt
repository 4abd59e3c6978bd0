pub mod Reporting
-- within the crate
pub mod Selecting
-- the face: what contracts of other crates cite
pub use Rattle.hhh_output.specs.Reporting.{IsLineOf, IsReportOf, IsWideShare}
