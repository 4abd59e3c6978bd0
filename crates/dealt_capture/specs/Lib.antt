pub mod Dealing
-- the face: what contracts of other crates cite
pub use Rattle.dealt_capture.specs.Dealing.{AreDealtRecords, IsCaptureFile, DealingRules}
pub use Rattle.dealt_capture.specs.Dealing.{rules_by}
