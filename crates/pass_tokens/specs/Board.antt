-- The passes of a board.
use Rattle.std.specs.Prelude.{◌≡◌, None}
use Rattle.position_words.specs.{SeatValue, WordsValue, IsSeatOf, view}

-- a pass of a board holds no shard between two calls
pub record IsPassOf (board : WordsValue) (pass : SeatValue) : Type 0 where
  pub seat : IsSeatOf board pass
  pub free : (view pass).held ≡ None
