pub mod Board
pub mod TryFold
pub mod TryRead
-- passed on: what a pass knows
pub use Rattle.position_words.specs.{IsOddWord, StepLoses, SeatValue, WordsValue, first_view}
pub use Rattle.position_words.specs.{after_join, trail_after_loss, newcomer_view, seen_in}
pub use Rattle.position_words.specs.{view, with_trail}
-- the face: what contracts of other crates cite
pub use Rattle.pass_tokens.specs.Board.{IsPassOf}
pub use Rattle.pass_tokens.specs.TryFold.{Folds, IsFoldOf, folded_once, after_losses}
pub use Rattle.pass_tokens.specs.TryRead.{ReadsCut, ShardRead, after_reads, states_of}
