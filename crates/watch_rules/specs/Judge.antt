-- What a judge is asked, and what it may answer.
use Rattle.std.specs.Prelude.{ℕ, ◌≡◌, ◌^◌, ◌<◌, ◌≤◌}

-- the greatest severity; a severity is a digit of base 8, as that of syslog (RFC 5424)
abbrev pub most_severity : ℕ
most_severity = 7

-- what a judge is asked: an interval of a weight that lies at or above a limit of at least 1
pub record IsOverLimit (lo hi limit : ℕ) : Type 0 where
  pub some : 1 ≤ limit
  pub over : limit ≤ lo
  pub ordered : lo ≤ hi
  pub small : hi < 2 ^ 64

-- a severity that a judge may give: its function may return it, and it is at most the greatest
pub record MayJudge (may_answer : ℕ → ℕ → ℕ → ℕ → Type 0) (lo hi limit severity : ℕ) : Type 0 where
  pub mild : severity ≤ most_severity
  pub answered : may_answer lo hi limit severity

-- what a judge may answer that goes by a formula: the number that the formula gives, and no other
abbrev pub judged_by : (ℕ → ℕ → ℕ → ℕ) → ℕ → ℕ → ℕ → ℕ → Type 0
judged_by formula lo hi limit severity = severity ≡ formula lo hi limit

-- a judge goes by a formula: over a limit it may answer what the formula gives alone
abbrev pub GoesByFormula : (ℕ → ℕ → ℕ → ℕ) → (ℕ → ℕ → ℕ → ℕ → Type 0) → Type 0
GoesByFormula formula may_answer =
    (lo hi limit severity : ℕ) → IsOverLimit lo hi limit → may_answer lo hi limit severity → judged_by formula lo hi limit severity
