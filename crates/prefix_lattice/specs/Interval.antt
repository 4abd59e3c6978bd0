-- What an interval, a low and a high, says of a weight.
use Rattle.std.specs.Prelude.{ℕ, ◌-◌, ◌*◌, ◌≤◌}

-- the weight is between the low and the high of an interval
pub record HoldsWeight (least most weight : ℕ) : Type 0 where
  pub low : least ≤ weight
  pub high : weight ≤ most

-- the low of an interval is at most its high, and its high at most a total
pub record IsWithinTotal (low high total : ℕ) : Type 0 where
  pub ordered : low ≤ high
  pub within_total : high ≤ total

-- the width of an interval times this number is at most this whole
abbrev pub IsNarrow : ℕ → ℕ → ℕ → ℕ → Type 0
IsNarrow low high times whole = (high - low) * times ≤ whole
