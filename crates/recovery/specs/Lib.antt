pub mod OpenFault
pub mod Reading
pub mod Reopening
-- within the crate
pub mod StoreFault
pub mod Found
-- the face: what contracts of other crates cite
pub use Rattle.recovery.specs.OpenFault.{IsShownByBytes, open_fault}
pub use Rattle.recovery.specs.Reading.{HaveOneReading, ReadsAs, RefusesReading}
pub use Rattle.recovery.specs.Reopening.{CanGoOn, ContinuesList, ContinuesLists, IsBaseFor}
pub use Rattle.recovery.specs.Reopening.{RefusesOpening, OpensToBase}
pub use Rattle.recovery.specs.Reopening.{base_positions, greatest_opened}
pub use Rattle.recovery.specs.Reopening.{BelongingOpen, AreDecided}
