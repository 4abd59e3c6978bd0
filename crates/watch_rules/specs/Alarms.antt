-- The alarms of crossings.
use Rattle.std.specs.Prelude.{ℕ, ◌≡◌, ◌-◌, ◌^◌, ◌<◌, ◌≤◌, List, All, slice_get, Some}
use Rattle.std.specs.List.{AllZip}
use Rattle.prefix_lattice.specs.{RecordValue, prefix_weight}
use Rattle.prefix_lattice.specs.declared.grain.Grain.{Grain}
use Rattle.hhh_report.specs.{IsSound, records_before}
use Rattle.hhh_report.specs.declared.line.Line.{Line}
use Rattle.hhh_report.specs.declared.reports.Reported.{Reported}
use Rattle.watch_rules.specs.declared.rule.Rule.{Rule}
use Rattle.watch_rules.specs.declared.alarm.Alarm.{Alarm}
use Rattle.watch_rules.specs.Judge.{MayJudge}
use Rattle.watch_rules.specs.Crossings.{LineByRule, crossings}

-- the alarm of a line that is over the limit of a rule: its severity is one that the judge may answer for the line's
-- interval and the rule's limit
pub record IsAlarm (may_answer : ℕ → ℕ → ℕ → ℕ → Type 0) (at : LineByRule) (alarm : Alarm) : Type 0 where
  pub report : alarm.report ≡ at.report
  pub rule : alarm.rule ≡ at.number
  pub prefix : alarm.prefix ≡ at.line.prefix
  pub lo : alarm.lo ≡ at.line.lo
  pub severity : MayJudge may_answer at.line.lo at.line.hi at.rule.limit alarm.severity

-- the alarms of some crossings: one for each, in their order
abbrev pub AreAlarms : (ℕ → ℕ → ℕ → ℕ → Type 0) → List LineByRule → List Alarm → Type 0
AreAlarms may_answer places alarms = AllZip (IsAlarm may_answer) places alarms

-- the alarms of reports by rules
abbrev pub AreAlarmsOf : (ℕ → ℕ → ℕ → ℕ → Type 0) → List Rule → List Reported → List Alarm → Type 0
AreAlarmsOf may_answer rules reports alarms = AreAlarms may_answer (crossings rules reports) alarms

-- an alarm is certain: its report and its rule are those of its numbers, and wherever this report is sound over lists of
-- records, those before its positions give the alarm's prefix at least the weight that is the limit of this rule
pub record IsCertain (rules : List Rule) (reports : List Reported) (alarm : Alarm) : Type 0 where
  pub reported : Reported
  pub rule : Rule
  pub first : 1 ≤ alarm.report
  pub of_report : slice_get reports (alarm.report - 1) ≡ Some reported
  pub of_rule : slice_get rules alarm.rule ≡ Some rule
  pub certain : (grain : Grain) (lists : List (List RecordValue)) (capacity phi : ℕ)
      → IsSound grain reported.report lists capacity phi
      → rule.limit ≤ prefix_weight alarm.prefix (records_before lists reported.report.positions)

-- the highs of a report are numbers of 64 bits
abbrev pub HasSmallHighs : Reported → Type 0
HasSmallHighs reported = All (λ (line : Line). line.hi < 2 ^ 64) reported.report.lines
