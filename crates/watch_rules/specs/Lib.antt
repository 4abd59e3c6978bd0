pub mod Judge
pub mod Crossings
pub mod Alarms
pub mod RaisedPairs
pub mod Watch
-- the face: what contracts of other crates cite
pub use Rattle.watch_rules.specs.Judge.{IsOverLimit, GoesByFormula, judged_by}
pub use Rattle.watch_rules.specs.Alarms.{AreAlarmsOf, HasSmallHighs, IsCertain}
pub use Rattle.watch_rules.specs.Watch.{AreRules, report_limit}
