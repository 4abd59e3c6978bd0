pub mod Status
-- the face: what contracts of other crates cite
pub use Rattle.run_status.specs.Status.{status_of_opening, status_of_session, status_of_words}
pub use Rattle.run_status.specs.Status.{status_line, status_number}
