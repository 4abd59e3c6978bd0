pub mod LineTests
pub mod LeftOut
pub mod Verdict
-- within the crate
pub mod Counted
pub mod LineCodes
pub mod Depths
pub mod NodeSums
pub mod ClosestLines
pub mod Widths
pub mod Findings
-- the face: what contracts of other crates cite
pub use Rattle.exact_audit.specs.Verdict.{IsVerdict}
