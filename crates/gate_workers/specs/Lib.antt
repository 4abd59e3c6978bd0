pub mod Feeding
pub mod Calling
pub mod Plan
pub mod LaterView
pub mod Running
-- passed on: what a pass knows
pub use Rattle.position_words.specs.declared.view.Trail.{Trail}
pub use Rattle.position_words.specs.declared.view.View.{View}
-- the face: what contracts of other crates cite
pub use Rattle.gate_workers.specs.Calling.{Calls, IsCoreReport, ReadsOnce, cut_at, states_at}
pub use Rattle.gate_workers.specs.Feeding.{HasSeenEnds}
pub use Rattle.gate_workers.specs.Running.{AreSoundReports, BringBack, MakesRounds}
pub use Rattle.gate_workers.specs.LaterView.{IsLaterView}
