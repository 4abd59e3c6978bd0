pub mod Printing
pub mod Session
pub mod SavedLines
-- within the crate
pub mod Stages
pub mod LineCursor
-- the face: what contracts of other crates cite
pub use Rattle.report_text.specs.Printing.{ShowsPositions, mark_text, report_text, tail_text}
pub use Rattle.report_text.specs.Printing.{lines_text, number_text, positions_text, text_line}
pub use Rattle.report_text.specs.Session.{AreSameSessions, HasReadFault, HasSessionFault}
pub use Rattle.report_text.specs.Session.{IsTextSession, IsSessionText}
pub use Rattle.report_text.specs.Session.{longest_session, printed_text, session_text}
pub use Rattle.report_text.specs.Session.{whole_lines}
pub use Rattle.report_text.specs.SavedLines.{LinesShowSaves, ShowsSaves}
