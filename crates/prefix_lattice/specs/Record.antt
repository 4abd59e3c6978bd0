-- A record, as contracts see it.
use Rattle.std.specs.Prelude.{ℕ}

-- what one packet carried: the addresses of its source and destination, and its weight
pub record RecordValue : Type 0 where
  pub src : ℕ
  pub dst : ℕ
  pub weight : ℕ
