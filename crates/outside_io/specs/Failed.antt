-- The count of faults of a source or a sink.
use Rattle.std.specs.Prelude.{ℕ, ◌≡◌, ◌+◌, ◌-◌, ◌^◌, ◌≤◌, min, Result, OnOk, OnErr}

-- the next number of a count that stays at the greatest u64
abbrev pub next_count : ℕ → ℕ
next_count n = min (n + 1) (2 ^ 64 - 1)

-- the count of faults is greater than before, or is the greatest u64, where it stays
abbrev pub FaultRose : ℕ → ℕ → Type 0
FaultRose before now = next_count before ≤ now

-- the count of faults never falls, the call failed only where it rose, and it is unchanged where the call succeeded
pub record FailsByCount {T E : Type 0} (before now : ℕ) (result : Result T E) : Type 0 where
  pub later : before ≤ now
  pub failed : OnErr result (FaultRose before now)
  pub kept : OnOk result (now ≡ before)
