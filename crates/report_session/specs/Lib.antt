pub mod Saving
pub mod Session
pub mod LiveRounds
pub mod KeptStore
pub mod DealtFeed
-- the face: what contracts of other crates cite
pub use Rattle.report_session.specs.Saving.{IsAsBefore, IsAsBefore-untouched, AreKeptOnDisk, BelongThroughout, BelongsToLists}
pub use Rattle.report_session.specs.Saving.{settings_of_store, settings_of_store-allowed}
pub use Rattle.report_session.specs.Session.{BeginsSession, BeginsWholeSession, IsWholeReport, IsSession}
pub use Rattle.report_session.specs.Session.{IsSessionInPart}
pub use Rattle.report_session.specs.Session.{IsOverShards, GoesOnFrom, SessionKeeping, WritesAnswer}
pub use Rattle.report_session.specs.Session.{asked_shape, session_opening, reports_in}
pub use Rattle.report_session.specs.LiveRounds.{RoundFaults}
pub use Rattle.report_session.specs.DealtFeed.{IsFeedCapture}
pub use Rattle.report_session.specs.DealtFeed.{FeedEnds, FeedRefuses, FeedWrites}
pub use Rattle.report_session.specs.DealtFeed.{FeedWritesPart}
pub use Rattle.report_session.specs.KeptStore.{SessionsBelong, StoreIsKept}
