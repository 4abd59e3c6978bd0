-- The watch over the text of a session: the alarms of its reports by one rule, as lines.
use Rattle.std.specs.Prelude.{ℕ, ◌≡◌, ◌-◌, ◌≤◌, List, [], ◌∷◌, ◌++◌, length, codes, decimal, slice_get, Some}
use Rattle.std.specs.List.{flat_map}
use Rattle.prefix_lattice.specs.{RecordValue, prefix_text, prefix_weight}
use Rattle.prefix_lattice.specs.declared.grain.Grain.{Grain}
use Rattle.hhh_report.specs.{records_before}
use Rattle.hhh_report.specs.declared.reports.Reported.{Reported}
use Rattle.watch_rules.specs.{AreAlarmsOf}
use Rattle.watch_rules.specs.declared.alarm.Alarm.{Alarm}
use Rattle.watch_rules.specs.declared.rule.Rule.{Rule}
use Rattle.report_text.specs.{IsSessionText, longest_session}
use Rattle.report_text.specs.declared.session.Session.{Session}

-- the line of an alarm: the number of its report, from 1, its prefix, the low of the prefix there, and the severity
abbrev pub alarm_line : Alarm → List ℕ
alarm_line alarm =
    codes "alarm " ++ decimal alarm.report ++ codes " " ++ prefix_text alarm.prefix
    ++ codes " " ++ decimal alarm.lo ++ codes " " ++ decimal alarm.severity ++ codes "\n"

-- the text of alarms: a line for each, how many there are, and the end
abbrev pub watch_text : List Alarm → List ℕ
watch_text alarms = flat_map alarm_line alarms ++ codes "alarms " ++ decimal (length alarms) ++ codes "\nend\n"

-- the text of a watch over reports by a rule: that of the alarms that they give by this rule alone
pub record IsWatchText (may_answer : ℕ → ℕ → ℕ → ℕ → Type 0) (rule : Rule) (reports : List Reported) (text : List ℕ) : Type 0 where
  pub alarms : List Alarm
  pub are_alarms : AreAlarmsOf may_answer (rule ∷ []) reports alarms
  pub spelled : text ≡ watch_text alarms

-- what a watch by a rule answers for the text of a session: the text over its reports
pub record IsWatchOf (may_answer : ℕ → ℕ → ℕ → ℕ → Type 0) (rule : Rule) (grain : Grain) (text answer : List ℕ) : Type 0 where
  pub session : Session
  pub is_session : IsSessionText grain text session
  pub not_long : length text ≤ longest_session
  pub watched : IsWatchText may_answer rule session.reports answer

-- an alarm is of a heavy prefix: the records before the positions of its report give its prefix at least this weight
pub record IsHeavyAlarm (weight : ℕ) (lists : List (List RecordValue)) (reports : List Reported) (alarm : Alarm) : Type 0 where
  pub reported : Reported
  pub first : 1 ≤ alarm.report
  pub of_report : slice_get reports (alarm.report - 1) ≡ Some reported
  pub heavy : weight ≤ prefix_weight alarm.prefix (records_before lists reported.report.positions)
