pub mod View
pub mod Words
pub mod Seat
pub mod Rule
pub mod Steps
-- the face: what contracts of other crates cite
pub use Rattle.position_words.specs.Words.{IsOddWord}
pub use Rattle.position_words.specs.Steps.{StepLoses, StepMeets}
pub use Rattle.position_words.specs.View.{first_view, after_giving, after_join, after_look}
pub use Rattle.position_words.specs.View.{after_loss, trail_after_loss, newcomer_view, seen_in}
pub use Rattle.position_words.specs.View.{after_split, after_win, with_trail}
pub use Rattle.position_words.specs.Words.{IsShardAtSome, WordsValue}
pub use Rattle.position_words.specs.Seat.{IsSeatOf, SeatValue, view}
pub use Rattle.position_words.specs.Rule.{IsUnderRule}
