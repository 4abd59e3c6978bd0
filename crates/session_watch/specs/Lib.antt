pub mod Watch
-- the face: what contracts of other crates cite
pub use Rattle.session_watch.specs.Watch.{IsHeavyAlarm, IsWatchOf}
