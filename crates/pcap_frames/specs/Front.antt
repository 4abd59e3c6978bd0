-- The bytes that a reader keeps of what is split between pieces.
use Rattle.std.specs.Prelude.{ℕ, List}

-- the first of the bytes that arrived, and how many arrived
pub record FrontValue : Type 0 where
  pub first : List ℕ
  pub came : ℕ
