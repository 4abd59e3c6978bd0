-- Crossings: where the lines of reports show that a prefix is surely over the limit of a rule.
use Rattle.std.specs.Prelude.{ℕ, ◌-◌, ◌&&◌, Bool, not, nat_le, List, map, filter, take}
use Rattle.std.specs.List.{list_any, enumerate_from, flat_map}
use Rattle.prefix_lattice.specs.{PrefixValue, under, same_as}
use Rattle.hhh_report.specs.declared.line.Line.{Line}
use Rattle.hhh_report.specs.declared.reports.Reported.{Reported}
use Rattle.watch_rules.specs.declared.rule.Rule.{Rule}

-- a line beside a rule: the number of the line's report, from 1, the line, the number of the rule, from 0, and the rule
pub record LineByRule : Type 0 where
  pub report : ℕ
  pub line : Line
  pub number : ℕ
  pub rule : Rule

abbrev pub beside : ℕ → Line → ℕ → Rule → LineByRule
beside report line number rule = record { report = report; line = line; number = number; rule = rule }

-- a line beside each rule, by rule number
abbrev pub line_by_rules : List Rule → ℕ → Line → List LineByRule
line_by_rules rules report line =
    map (λ (numbered : ℕ × Rule). beside report line numbered.0 numbered.1) (enumerate_from 0 rules)

-- each line of a report beside each rule: by line, then by rule number
abbrev pub lines_by_rules : List Rule → ℕ → List Line → List LineByRule
lines_by_rules rules report lines = flat_map (line_by_rules rules report) lines

-- a line is surely over the limit of a rule: its prefix is under the rule's, and its low is at least the limit
abbrev pub is_over : LineByRule → Bool
is_over at = under at.line.prefix at.rule.prefix && nat_le at.rule.limit at.line.lo

-- lines of which one has this prefix, and a low of at least this limit
abbrev pub have_over : PrefixValue → ℕ → List Line → Bool
have_over prefix limit lines = list_any (λ (line : Line). same_as line.prefix prefix && nat_le limit line.lo) lines

-- reports of which one has a line with this prefix, and a low of at least this limit
abbrev pub had_over : PrefixValue → ℕ → List Reported → Bool
had_over prefix limit reports = list_any (λ (reported : Reported). have_over prefix limit reported.report.lines) reports

-- a line is over the limit of a rule, and no earlier report has a line with its prefix and a low of at least that limit
abbrev pub is_first_over : List Reported → LineByRule → Bool
is_first_over earlier at = is_over at && not (had_over at.line.prefix at.rule.limit earlier)

-- the crossings of reports: by report number from 1, then line, then rule number from 0, each line that is over the limit
-- of a rule for the first time
abbrev pub crossings : List Rule → List Reported → List LineByRule
crossings rules reports =
    flat_map (λ (numbered : ℕ × Reported). filter (is_first_over (take (numbered.0 - 1) reports))
    (lines_by_rules rules numbered.0 numbered.1.report.lines)) (enumerate_from 1 reports)
