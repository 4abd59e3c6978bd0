-- Alarms by a judge that goes by a formula.
use Rattle.std.proofs.Common.{◌≡◌, ◌∙◌, ℕ, ◌-◌, ◌^◌, ◌<◌, ◌≤◌, leb, List, [], ◌∷◌, All, sym, ap, subst}
use Rattle.std.specs.List.{AllZip}
use Rattle.std.proofs.lemmas.Bool.{and_parts, leb-true}
use Rattle.std.proofs.lemmas.Option.{get_or_from_slice_get, slice_get_within}
use Rattle.std.proofs.lemmas.List.Elements.{All-contains, All-get_or, All-head, All-tail}
use Rattle.std.proofs.lemmas.Slice.Zip.{AllZip-map}
use Rattle.prefix_lattice.specs.{PrefixValue, under}
use Rattle.hhh_report.specs.declared.line.Line.{Line}
use Rattle.hhh_report.specs.declared.reports.Reported.{Reported}
use Rattle.watch_rules.specs.declared.rule.Rule.{Rule}
use Rattle.watch_rules.specs.declared.alarm.Alarm.{Alarm}
use Rattle.watch_rules.specs.Judge.{IsOverLimit, GoesByFormula, judged_by}
use Rattle.watch_rules.specs.Alarms.{IsAlarm, AreAlarms, AreAlarmsOf, HasSmallHighs}
use Rattle.watch_rules.specs.Crossings.{LineByRule, crossings}
use Rattle.watch_rules.proofs.CertainLemmas.{IsCertainCrossing, crossings_are_certain}

-- the alarm of these numbers and this prefix
abbrev formula_parts : (report rule : ℕ) (prefix : PrefixValue) (lo severity : ℕ) → Alarm
formula_parts report rule prefix lo severity =
    record { report = report; rule = rule; prefix = prefix; lo = lo; severity = severity }

-- the alarm that a formula gives
abbrev formula_alarm : (ℕ → ℕ → ℕ → ℕ) → LineByRule → Alarm
formula_alarm formula at =
    formula_parts at.report at.number at.line.prefix at.line.lo (formula at.line.lo at.line.hi at.rule.limit)

formula_alarm_is_one : (formula : ℕ → ℕ → ℕ → ℕ) (at : LineByRule) (alarm : Alarm) → IsAlarm (judged_by formula) at alarm
    → alarm ≡ formula_alarm formula at
formula_alarm_is_one formula at alarm is =
    ap (λ r. formula_parts r alarm.rule alarm.prefix alarm.lo alarm.severity) is.report
    ∙ ap (λ n. formula_parts at.report n alarm.prefix alarm.lo alarm.severity) is.rule
    ∙ ap (λ p. formula_parts at.report at.number p alarm.lo alarm.severity) is.prefix
    ∙ ap (λ l. formula_parts at.report at.number at.line.prefix l alarm.severity) is.lo
    ∙ ap (λ s. formula_parts at.report at.number at.line.prefix at.line.lo s) is.severity.answered

formula_alarms_are_map : (formula : ℕ → ℕ → ℕ → ℕ) (places : List LineByRule) (alarms : List Alarm)
    → AreAlarms (judged_by formula) places alarms → AllZip (λ at alarm. alarm ≡ formula_alarm formula at) places alarms
formula_alarms_are_map formula [] [] are = tt
formula_alarms_are_map formula [] (alarm ∷ alarms) are = absurd are
formula_alarms_are_map formula (at ∷ places) [] are = absurd are
formula_alarms_are_map formula (at ∷ places) (alarm ∷ alarms) are =
    (formula_alarm_is_one formula at alarm are.0, formula_alarms_are_map formula places alarms are.1)

pub formula_alarms_are_one : (formula : ℕ → ℕ → ℕ → ℕ) (rules : List Rule) (reports : List Reported) (alarms others : List Alarm)
    → AreAlarmsOf (judged_by formula) rules reports alarms → AreAlarmsOf (judged_by formula) rules reports others
    → others ≡ alarms
formula_alarms_are_one formula rules reports alarms others are others_are =
    let places = crossings rules reports in
    AllZip-map (formula_alarm formula) places others (formula_alarms_are_map formula places others others_are)
    ∙ sym (AllZip-map (formula_alarm formula) places alarms (formula_alarms_are_map formula places alarms are))

-- a crossing is a question for a judge
formula_question : (rules : List Rule) (reports : List Reported) → All HasSmallHighs reports → (at : LineByRule)
    → IsCertainCrossing rules reports at → IsOverLimit at.line.lo at.line.hi at.rule.limit
formula_question rules reports small at crossing =
    let place = at.report - 1 in
    let within = slice_get_within reports place crossing.reported crossing.of_report in
    let highs : HasSmallHighs crossing.reported =
    subst HasSmallHighs (get_or_from_slice_get reports place crossing.reported crossing.reported crossing.of_report)
    (All-get_or HasSmallHighs reports place crossing.reported within small) in
    let lines = crossing.reported.report.lines in
    record {
      some = at.rule.some;
      over = leb-true at.rule.limit at.line.lo
          (and_parts (under at.line.prefix at.rule.prefix) (leb at.rule.limit at.line.lo) crossing.over).1;
      ordered = All-contains (λ (line : Line). line.lo ≤ line.hi) lines at.line crossing.reported.report.are_lines.ordered crossing.of_line;
      small = All-contains (λ (line : Line). line.hi < 2 ^ 64) lines at.line highs crossing.of_line;
    }

formula_answers : (formula : ℕ → ℕ → ℕ → ℕ) (may_answer : ℕ → ℕ → ℕ → ℕ → Type 0) → GoesByFormula formula may_answer
    → (rules : List Rule) (reports : List Reported) → All HasSmallHighs reports → (at : LineByRule) (alarm : Alarm)
    → IsCertainCrossing rules reports at → IsAlarm may_answer at alarm → IsAlarm (judged_by formula) at alarm
formula_answers formula may_answer goes rules reports small at alarm crossing is = record {
  report = is.report;
  rule = is.rule;
  prefix = is.prefix;
  lo = is.lo;
  severity = record {
    mild = is.severity.mild;
    answered = goes at.line.lo at.line.hi at.rule.limit alarm.severity (formula_question rules reports small at crossing)
        is.severity.answered;
  };
}

formula_places : (formula : ℕ → ℕ → ℕ → ℕ) (may_answer : ℕ → ℕ → ℕ → ℕ → Type 0) → GoesByFormula formula may_answer
    → (rules : List Rule) (reports : List Reported) → All HasSmallHighs reports → (places : List LineByRule) (alarms : List Alarm)
    → All (IsCertainCrossing rules reports) places → AreAlarms may_answer places alarms
    → AreAlarms (judged_by formula) places alarms
formula_places formula may_answer goes rules reports small [] [] crossing are = tt
formula_places formula may_answer goes rules reports small [] (alarm ∷ alarms) crossing are = absurd are
formula_places formula may_answer goes rules reports small (at ∷ places) [] crossing are = absurd are
formula_places formula may_answer goes rules reports small (at ∷ places) (alarm ∷ alarms) crossing are = (
  formula_answers formula may_answer goes rules reports small at alarm (All-head (IsCertainCrossing rules reports) at places crossing) are.0,
  formula_places formula may_answer goes rules reports small places alarms
      (All-tail (IsCertainCrossing rules reports) at places crossing) are.1,
)

pub formula_gives_alarms : (may_answer : ℕ → ℕ → ℕ → ℕ → Type 0) (formula : ℕ → ℕ → ℕ → ℕ) (rules : List Rule) (reports : List Reported)
    (alarms : List Alarm) → GoesByFormula formula may_answer → All HasSmallHighs reports
    → AreAlarmsOf may_answer rules reports alarms → AreAlarmsOf (judged_by formula) rules reports alarms
formula_gives_alarms may_answer formula rules reports alarms goes small are =
    formula_places formula may_answer goes rules reports small (crossings rules reports) alarms (crossings_are_certain rules reports) are
