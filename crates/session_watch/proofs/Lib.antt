pub mod WatchTextLemmas
pub mod HeavyAlarmLemmas
pub mod Examples
