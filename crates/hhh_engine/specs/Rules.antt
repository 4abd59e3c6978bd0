-- What the objects that a run is handed may answer.
use Rattle.std.specs.Prelude.{ℕ}
use Rattle.dealt_capture.specs.{DealingRules}

-- which severities a judge may give for a low, a high and a limit
abbrev pub JudgingRule : Type 1
JudgingRule = ℕ → ℕ → ℕ → ℕ → Type 0

-- to which shards the dealers may deal a record, and which severities the judge may give
pub record RunRules : Type 1 where
  pub dealing : DealingRules
  pub judging : JudgingRule

-- these two
abbrev pub run_rules : DealingRules → JudgingRule → RunRules
run_rules dealing judging = record { dealing = dealing; judging = judging }
