-- The limits of a watch, and the crossings that it tells next.
use Rattle.std.specs.Prelude.{ℕ, ◌^◌, ◌≤◌, ◌&&◌, Bool, not, List, length, filter}
use Rattle.hhh_report.specs.declared.line.Line.{Line}
use Rattle.watch_rules.specs.declared.rule.Rule.{Rule}
use Rattle.watch_rules.specs.declared.raised.Raised.{Raised}
use Rattle.watch_rules.specs.Crossings.{LineByRule, lines_by_rules, is_over}
use Rattle.watch_rules.specs.RaisedPairs.{is_raised}

-- the most rules of a watch
abbrev pub rule_limit : ℕ
rule_limit = 64

-- a watch sees fewer reports than this, 2^62
abbrev pub report_limit : ℕ
report_limit = 2 ^ 62

-- how many rules a watch has: 1 to 64
pub record AreRules (rules : List Rule) : Type 0 where
  pub some : 1 ≤ length rules
  pub few : length rules ≤ rule_limit

-- a line is over the limit of a rule, and that pair isn't raised
abbrev pub is_next : List Raised → LineByRule → Bool
is_next raised at = is_over at && not (is_raised raised at.number at.line.prefix)

-- the crossings of the next report, where these pairs are raised: by line, then by rule number, each line that is over the
-- limit of a rule whose pair with the line's prefix isn't raised
abbrev pub next_crossings : List Rule → List Raised → ℕ → List Line → List LineByRule
next_crossings rules raised report lines = filter (is_next raised) (lines_by_rules rules report lines)
