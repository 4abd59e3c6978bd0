-- Alarms, one for each crossing.
use Rattle.std.proofs.Common.{◌≡◌, ℕ, ◌+◌, ◌<◌, Bool, true, false, cond, ◌&&◌, ◌||◌, eqb}
use Rattle.std.proofs.Common.{List, [], ◌∷◌, ◌++◌, length, filter, take, refl, sym, ap, subst, ◌∙◌, arith, append_assoc, get_or}
use Rattle.std.specs.Prelude.{All, MatchOption, Option, Some, None}
use Rattle.std.specs.Option.{option_to_list}
use Rattle.std.proofs.lemmas.List.{map-append, length-take-le}
use Rattle.std.proofs.lemmas.List.Elements.{filter-append, filter_passes, All-nil, All-cons, All-head, All-tail}
use Rattle.std.proofs.lemmas.Bool.{and_parts, not-true}
use Rattle.std.specs.List.{list_any}
use Rattle.prefix_lattice.specs.{PrefixValue, same_as}
use Rattle.hhh_report.specs.declared.line.Line.{Line}
use Rattle.hhh_report.specs.declared.reports.Reported.{Reported}
use Rattle.watch_rules.specs.declared.rule.Rule.{Rule}
use Rattle.watch_rules.specs.declared.alarm.Alarm.{Alarm}
use Rattle.watch_rules.specs.declared.raised.Raised.{Raised}
use Rattle.watch_rules.specs.Alarms.{IsAlarm, AreAlarms, AreAlarmsOf}
use Rattle.watch_rules.specs.Crossings.{LineByRule, beside, is_over, line_by_rules, lines_by_rules, crossings}
use Rattle.watch_rules.specs.RaisedPairs.{is_raised, raised_by, AreNew}
use Rattle.watch_rules.specs.Watch.{is_next, next_crossings}
use Rattle.watch_rules.proofs.PairLemmas.{PairUnderHolds, is_pair}
use Rattle.watch_rules.proofs.CrossingLemmas.{crossing_rules-more, crossings-more, report_crossings, next_crossings_are}

pub alarms-append : (may_answer : ℕ → ℕ → ℕ → ℕ → Type 0) (places others : List LineByRule) (alarms more : List Alarm)
    → AreAlarms may_answer places alarms → AreAlarms may_answer others more → AreAlarms may_answer (places ++ others) (alarms ++ more)
alarms-append may_answer [] others [] more are are_more = are_more
alarms-append may_answer [] others (alarm ∷ alarms) more are are_more = absurd are
alarms-append may_answer (at ∷ places) others [] more are are_more = absurd are
alarms-append may_answer (at ∷ places) others (alarm ∷ alarms) more are are_more =
    (are.0, alarms-append may_answer places others alarms more are.1 are_more)

-- whether a rule and a prefix were alarmed of is whether they are among the crossings
pub alarms_are_of_pairs : (may_answer : ℕ → ℕ → ℕ → ℕ → Type 0) (places : List LineByRule) (alarms : List Alarm)
    → AreAlarms may_answer places alarms → (number : ℕ) (prefix : PrefixValue)
    → is_raised (raised_by alarms) number prefix ≡ list_any (is_pair number prefix) places
alarms_are_of_pairs may_answer [] [] are number prefix = refl
alarms_are_of_pairs may_answer [] (alarm ∷ alarms) are number prefix = absurd are
alarms_are_of_pairs may_answer (at ∷ places) [] are number prefix = absurd are
alarms_are_of_pairs may_answer (at ∷ places) (alarm ∷ alarms) are number prefix =
    ap (λ n. (eqb n number && same_as alarm.prefix prefix) || is_raised (raised_by alarms) number prefix) are.0.rule
    ∙ ap (λ p. (eqb at.number number && same_as p prefix) || is_raised (raised_by alarms) number prefix) are.0.prefix
    ∙ ap (λ b. is_pair number prefix at || b) (alarms_are_of_pairs may_answer places alarms are.1 number prefix)

-- the alarm of the next rule, if the line is over its limit, is appended
pub alarms_of_next_rule : (may_answer : ℕ → ℕ → ℕ → ℕ → Type 0) (test : LineByRule → Bool) (before : List LineByRule)
    (rules : List Rule) (report place : ℕ) (line : Line) (rule : Rule) (alarms new : List Alarm) (found : Option Alarm)
    → place < length rules → rule ≡ get_or rules place rule
    → MatchOption found (test (beside report line place rule) ≡ false)
    (λ alarm. (test (beside report line place rule) ≡ true) × IsAlarm may_answer (beside report line place rule) alarm)
    → new ≡ alarms ++ option_to_list found
    → AreAlarms may_answer (before ++ filter test (line_by_rules (take place rules) report line)) alarms
    → AreAlarms may_answer (before ++ filter test (line_by_rules (take (place + 1) rules) report line)) new
alarms_of_next_rule may_answer test before rules report place line rule alarms new found within is judged pushed are =
    subst (AreAlarms may_answer (before ++ filter test (line_by_rules (take (place + 1) rules) report line))) (sym pushed)
    (subst (λ l. AreAlarms may_answer l (alarms ++ option_to_list found)) (sym grown)
    (alarms-append may_answer (before ++ filter test so_far) (cond (test at) (at ∷ []) []) alarms (option_to_list found) are
    (one found judged)))
  where
    at : LineByRule
    at = beside report line place rule

    so_far : List LineByRule
    so_far = line_by_rules (take place rules) report line

    grown : before ++ filter test (line_by_rules (take (place + 1) rules) report line)
        ≡ (before ++ filter test so_far) ++ cond (test at) (at ∷ []) []
    grown =
        ap (λ l. before ++ filter test l) (crossing_rules-more report line rules place rule within is)
        ∙ ap (λ l. before ++ l) (filter-append test so_far (at ∷ []))
        ∙ sym (append_assoc before (filter test so_far) (cond (test at) (at ∷ []) []))

    one : (found : Option Alarm) → MatchOption found (test at ≡ false) (λ alarm. (test at ≡ true) × IsAlarm may_answer at alarm)
        → AreAlarms may_answer (cond (test at) (at ∷ []) []) (option_to_list found)
    one None judged = subst (λ b. AreAlarms may_answer (cond b (at ∷ []) []) []) (sym judged) tt
    one (Some alarm) judged = subst (λ b. AreAlarms may_answer (cond b (at ∷ []) []) (alarm ∷ [])) (sym judged.0) (judged.1, tt)

-- the alarms of the next report are appended
pub alarms_of_next_report : PairUnderHolds → (may_answer : ℕ → ℕ → ℕ → ℕ → Type 0) (rules : List Rule) (reports : List Reported)
    (place : ℕ) (reported : Reported) (raised : List Raised) (alarms more : List Alarm)
    → place < length reports → reported ≡ get_or reports place reported → raised ≡ raised_by alarms
    → AreAlarmsOf may_answer rules (take place reports) alarms
    → AreAlarms may_answer (next_crossings rules raised (place + 1) reported.report.lines) more
    → AreAlarmsOf may_answer rules (take (place + 1) reports) (alarms ++ more)
alarms_of_next_report one may_answer rules reports place reported raised alarms more within is pairs are next =
    let before = take place reports in
    let long : length before ≡ place = length-take-le place reports (omega (arith, within)) in
    let known : (number : ℕ) (prefix : PrefixValue)
    → is_raised raised number prefix ≡ list_any (is_pair number prefix) (crossings rules before) =
    λ number prefix. ap (λ l. is_raised l number prefix) pairs
    ∙ alarms_are_of_pairs may_answer (crossings rules before) alarms are number prefix in
    let same : next_crossings rules raised (place + 1) reported.report.lines ≡ report_crossings rules before reported =
    ap (λ n. next_crossings rules raised (n + 1) reported.report.lines) (sym long)
    ∙ next_crossings_are one rules before raised reported known in
    subst (λ l. AreAlarms may_answer l (alarms ++ more)) (sym (crossings-more rules reports place reported within is))
    (alarms-append may_answer (crossings rules before) (report_crossings rules before reported) alarms more are
    (subst (λ l. AreAlarms may_answer l more) same next))

pub alarms_raise-append : (alarms more : List Alarm) → raised_by (alarms ++ more) ≡ raised_by alarms ++ raised_by more
alarms_raise-append alarms more = map-append _ alarms more

-- alarms of crossings that aren't raised are new
pub alarms_are_new : (may_answer : ℕ → ℕ → ℕ → ℕ → Type 0) (raised : List Raised) (places : List LineByRule) (alarms : List Alarm)
    → AreAlarms may_answer places alarms → All (λ at. is_next raised at ≡ true) places → AreNew raised alarms
alarms_are_new may_answer raised [] [] are next = All-nil (λ (alarm : Alarm). is_raised raised alarm.rule alarm.prefix ≡ false)
alarms_are_new may_answer raised [] (alarm ∷ alarms) are next = absurd are
alarms_are_new may_answer raised (at ∷ places) [] are next = absurd are
alarms_are_new may_answer raised (at ∷ places) (alarm ∷ alarms) are next =
    let here : is_raised raised at.number at.line.prefix ≡ false =
    not-true _ (and_parts (is_over at) _ (All-head (λ (place : LineByRule). is_next raised place ≡ true) at places next)).1 in
    All-cons (λ (a : Alarm). is_raised raised a.rule a.prefix ≡ false) alarm alarms
    (ap (λ n. is_raised raised n alarm.prefix) are.0.rule ∙ ap (λ p. is_raised raised at.number p) are.0.prefix ∙ here)
    (alarms_are_new may_answer raised places alarms are.1
    (All-tail (λ (place : LineByRule). is_next raised place ≡ true) at places next))

pub next_alarms_are_new : (may_answer : ℕ → ℕ → ℕ → ℕ → Type 0) (rules : List Rule) (raised : List Raised) (report : ℕ)
    (lines : List Line) (alarms : List Alarm) → AreAlarms may_answer (next_crossings rules raised report lines) alarms → AreNew raised alarms
next_alarms_are_new may_answer rules raised report lines alarms are =
    alarms_are_new may_answer raised (next_crossings rules raised report lines) alarms are
    (filter_passes (is_next raised) (lines_by_rules rules report lines))
