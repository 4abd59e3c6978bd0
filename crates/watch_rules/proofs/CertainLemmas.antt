-- What an alarm says of the records of a sound report.
use Rattle.std.proofs.Common.{◌≡◌, ℕ, suc, ◌+◌, ◌-◌, ◌≤◌, true, leb}
use Rattle.std.proofs.Common.{List, [], ◌∷◌, ◌++◌, length, get_or, refl, sym, subst, ◌∙◌, arith, All, Contains}
use Rattle.std.proofs.Common.{append_assoc}
use Rattle.std.specs.Prelude.{Some}
use Rattle.std.specs.List.{slice_get}
use Rattle.std.proofs.lemmas.Bool.{and_parts, leb-true}
use Rattle.std.proofs.lemmas.List.Elements.{All-nil, All-cons, All-append, All-filter, filter_passes, All-contains, All-head, All-tail}
use Rattle.prefix_lattice.specs.{under, prefix_weight}
use Rattle.prefix_lattice.proofs.ListLemmas.{Contains-list_head, Contains-list_tail}
use Rattle.hhh_report.specs.{LineHoldsWeight, records_before}
use Rattle.hhh_report.specs.declared.line.Line.{Line}
use Rattle.hhh_report.specs.declared.reports.Reported.{Reported}
use Rattle.watch_rules.specs.declared.rule.Rule.{Rule}
use Rattle.watch_rules.specs.declared.alarm.Alarm.{Alarm}
use Rattle.watch_rules.specs.Alarms.{IsAlarm, AreAlarms, AreAlarmsOf, IsCertain}
use Rattle.watch_rules.specs.Crossings.{LineByRule, beside, line_by_rules, lines_by_rules, is_over, is_first_over, crossings}
use Rattle.watch_rules.proofs.PairLemmas.{pair_rules}
use Rattle.watch_rules.proofs.CrossingLemmas.{crossings_after, crossings_are_recursive, report_crossings}

-- a line beside a rule of these rules, the line being one of these
record IsCertainPlace (rules : List Rule) (report : ℕ) (lines : List Line) (at : LineByRule) : Type 0 where
  report_is : at.report ≡ report
  of_rule : slice_get rules at.number ≡ Some at.rule
  of_line : Contains lines at.line

certain_rules : (whole : List Rule) (report : ℕ) (lines : List Line) (line : Line) → Contains lines line
    → (start : ℕ) (rules : List Rule) → ((place : ℕ) (rule : Rule) → slice_get rules place ≡ Some rule → slice_get whole (start + place) ≡ Some rule)
    → All (IsCertainPlace whole report lines) (pair_rules report line start rules)
certain_rules whole report lines line among start [] are = All-nil (IsCertainPlace whole report lines)
certain_rules whole report lines line among start (rule ∷ rules) are =
    let first : start + 0 ≡ start = omega arith in
    All-cons (IsCertainPlace whole report lines) (beside report line start rule) (pair_rules report line (start + 1) rules)
    (record { report_is = refl; of_rule = subst (λ n. slice_get whole n ≡ Some rule) first (are 0 rule refl); of_line = among })
    (certain_rules whole report lines line among (start + 1) rules
    (λ place later got. let next : start + suc place ≡ start + 1 + place = omega arith in
    subst (λ n. slice_get whole n ≡ Some later) next (are (suc place) later got)))

certain_lines : (rules : List Rule) (report : ℕ) (whole lines : List Line)
    → ((line : Line) → Contains lines line → Contains whole line)
    → All (IsCertainPlace rules report whole) (lines_by_rules rules report lines)
certain_lines rules report whole [] are = All-nil (IsCertainPlace rules report whole)
certain_lines rules report whole (line ∷ lines) are =
    All-append (IsCertainPlace rules report whole) (line_by_rules rules report line) (lines_by_rules rules report lines)
    (certain_rules rules report whole line (are line (Contains-list_head line lines)) 0 rules
    (λ place rule got. let same : place ≡ 0 + place = omega arith in subst (λ n. slice_get rules n ≡ Some rule) same got))
    (certain_lines rules report whole lines (λ other among. are other (Contains-list_tail line lines other among)))

-- a crossing of these reports, with its report and its rule
pub record IsCertainCrossing (rules : List Rule) (reports : List Reported) (at : LineByRule) : Type 0 where
  pub reported : Reported
  pub first : 1 ≤ at.report
  pub of_report : slice_get reports (at.report - 1) ≡ Some reported
  pub of_rule : slice_get rules at.number ≡ Some at.rule
  pub of_line : Contains reported.report.lines at.line
  pub over : is_over at ≡ true

certain_at_seam : (before : List Reported) (reported : Reported) (rest : List Reported)
    → slice_get (before ++ (reported ∷ rest)) (length before) ≡ Some reported
certain_at_seam [] reported rest = refl
certain_at_seam (first ∷ before) reported rest = certain_at_seam before reported rest

certain_reports : (rules : List Rule) (whole before reports : List Reported) → whole ≡ before ++ reports
    → All (IsCertainCrossing rules whole) (crossings_after rules before reports)
certain_reports rules whole before [] is = All-nil (IsCertainCrossing rules whole)
certain_reports rules whole before (reported ∷ reports) is =
    All-append (IsCertainCrossing rules whole) (report_crossings rules before reported)
    (crossings_after rules (before ++ reported ∷ []) reports)
    (λ k default within. here (get_or (report_crossings rules before reported) k default)
    (All-filter (is_first_over before) (IsCertainPlace rules (length before + 1) reported.report.lines) places
    (certain_lines rules (length before + 1) reported.report.lines reported.report.lines (λ line among. among)) k default within)
    (filter_passes (is_first_over before) places k default within))
    (certain_reports rules whole (before ++ reported ∷ []) reports (is ∙ sym (append_assoc before (reported ∷ []) reports)))
  where
    places : List LineByRule
    places = lines_by_rules rules (length before + 1) reported.report.lines

    here : (at : LineByRule) → IsCertainPlace rules (length before + 1) reported.report.lines at → is_first_over before at ≡ true
        → IsCertainCrossing rules whole at
    here at place passes =
        let number : length before ≡ at.report - 1 = let e = place.report_is in omega (arith, e) in
        record {
          reported = reported;
          first = let e = place.report_is in omega (arith, e);
          of_report = subst (λ n. slice_get whole n ≡ Some reported) number
              (subst (λ l. slice_get l (length before) ≡ Some reported) (sym is) (certain_at_seam before reported reports));
          of_rule = place.of_rule;
          of_line = place.of_line;
          over = (and_parts (is_over at) _ passes).0;
        }

certain_alarm : (may_answer : ℕ → ℕ → ℕ → ℕ → Type 0) (rules : List Rule) (reports : List Reported) (at : LineByRule) (alarm : Alarm)
    → IsAlarm may_answer at alarm → IsCertainCrossing rules reports at → IsCertain rules reports alarm
certain_alarm may_answer rules reports at alarm is crossing = record {
  reported = crossing.reported;
  rule = at.rule;
  first = subst (λ n. 1 ≤ n) (sym is.report) crossing.first;
  of_report = subst (λ n. slice_get reports (n - 1) ≡ Some crossing.reported) (sym is.report) crossing.of_report;
  of_rule = subst (λ n. slice_get rules n ≡ Some at.rule) (sym is.rule) crossing.of_rule;
  certain = λ grain lists capacity phi sound.
      let records = records_before lists crossing.reported.report.positions in
      let holds : LineHoldsWeight records at.line =
      All-contains (LineHoldsWeight records) crossing.reported.report.lines at.line sound.interval crossing.of_line in
      let low = leb-true at.rule.limit at.line.lo (and_parts (under at.line.prefix at.rule.prefix) (leb at.rule.limit at.line.lo) crossing.over).1 in
      subst (λ p. at.rule.limit ≤ prefix_weight p records) (sym is.prefix) (omega (arith, low, holds.low));
}

certain_alarms : (may_answer : ℕ → ℕ → ℕ → ℕ → Type 0) (rules : List Rule) (reports : List Reported) (places : List LineByRule)
    (alarms : List Alarm) → AreAlarms may_answer places alarms → All (IsCertainCrossing rules reports) places
    → All (IsCertain rules reports) alarms
certain_alarms may_answer rules reports [] [] are crossing = All-nil (IsCertain rules reports)
certain_alarms may_answer rules reports [] (alarm ∷ alarms) are crossing = absurd are
certain_alarms may_answer rules reports (at ∷ places) [] are crossing = absurd are
certain_alarms may_answer rules reports (at ∷ places) (alarm ∷ alarms) are crossing =
    All-cons (IsCertain rules reports) alarm alarms
    (certain_alarm may_answer rules reports at alarm are.0 (All-head (IsCertainCrossing rules reports) at places crossing))
    (certain_alarms may_answer rules reports places alarms are.1 (All-tail (IsCertainCrossing rules reports) at places crossing))

pub crossings_are_certain : (rules : List Rule) (reports : List Reported) → All (IsCertainCrossing rules reports) (crossings rules reports)
crossings_are_certain rules reports =
    subst (All (IsCertainCrossing rules reports)) (sym (crossings_are_recursive rules reports)) (certain_reports rules reports [] reports refl)

pub alarms_of_reports_are_certain : (may_answer : ℕ → ℕ → ℕ → ℕ → Type 0) (rules : List Rule) (reports : List Reported)
    (alarms : List Alarm) → AreAlarmsOf may_answer rules reports alarms → All (IsCertain rules reports) alarms
alarms_of_reports_are_certain may_answer rules reports alarms are =
    certain_alarms may_answer rules reports (crossings rules reports) alarms are (crossings_are_certain rules reports)
