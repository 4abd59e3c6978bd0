-- A rule and a prefix are alarmed of once.
use Rattle.std.proofs.Common.{◌≡◌, ℕ, ◌+◌, ◌≤◌, Bool, true, false, cond, not, ◌&&◌, ◌||◌, eqb, leb}
use Rattle.std.proofs.Common.{List, [], ◌∷◌, ◌++◌, length, sum_by, refl, sym, ap, subst, ◌∙◌, arith, AllPairs}
use Rattle.std.specs.Prelude.{count_by, Option, Some, None}
use Rattle.std.specs.List.{slice_get}
use Rattle.std.specs.Cmp.{IsTotalOrder}
use Rattle.std.specs.Ordering.{ordering_reverse}
use Rattle.std.specs.declared.cmp.Ordering.TheVariants.{Less, Greater}
use Rattle.std.proofs.lemmas.Bool.{and_parts, false_from_ne_true}
use Rattle.std.proofs.lemmas.List.Elements.{All-weaker}
use Rattle.std.proofs.lemmas.List.Folds.{list_any-append}
use Rattle.std.proofs.lemmas.List.Sums.{sum_by-append, sum_by-cons}
use Rattle.prefix_lattice.specs.{PrefixValue, under, same_as, report_order}
use Rattle.prefix_lattice.proofs.ListLemmas.{AllPairs-list_head, AllPairs-list_tail}
use Rattle.hhh_report.specs.declared.line.Line.{Line}
use Rattle.hhh_report.specs.declared.reports.Reported.{Reported}
use Rattle.watch_rules.specs.declared.rule.Rule.{Rule}
use Rattle.watch_rules.specs.declared.alarm.Alarm.{Alarm}
use Rattle.watch_rules.specs.Alarms.{AreAlarms, AreAlarmsOf}
use Rattle.watch_rules.specs.Crossings.{LineByRule, line_by_rules, lines_by_rules, is_first_over, have_over, had_over, crossings}
use Rattle.watch_rules.proofs.PairLemmas.{PairUnderHolds, is_pair, pair_count, pair_count-filter, pair_count-append, pair_count-rule}
use Rattle.watch_rules.proofs.PairLemmas.{pair_count-no_rule_of_lines, pair_count-other_prefixes}
use Rattle.watch_rules.proofs.CrossingLemmas.{crossing_of_prefix, crossings_after, crossings_are_recursive, report_crossings}

-- the lines of a report: the level falls, and so on
abbrev PrecedesOnce : Line → Line → Type 0
PrecedesOnce line later = report_order line.prefix later.prefix ≡ Less

-- a line of the prefix isn't before another of it
not_once_more : PairUnderHolds → IsTotalOrder report_order → (prefix : PrefixValue) (line later : Line)
    → same_as line.prefix prefix ≡ true → PrecedesOnce line later → same_as later.prefix prefix ≡ false
not_once_more one order prefix line later is before =
    false_from_ne_true (same_as later.prefix prefix) (λ again.
    let first = and_parts (under line.prefix prefix) (under prefix line.prefix) is in
    let second = and_parts (under later.prefix prefix) (under prefix later.prefix) again in
    let same : line.prefix ≡ later.prefix =
    one line.prefix prefix first.0 first.1 ∙ sym (one later.prefix prefix second.0 second.1) in
    let back : report_order later.prefix line.prefix ≡ Less =
    subst (λ p. report_order p line.prefix ≡ Less) same (subst (λ p. report_order line.prefix p ≡ Less) (sym same) before) in
    let turned : Less ≡ Greater = sym before ∙ order.antisymm line.prefix later.prefix ∙ ap ordering_reverse back in
    cc)

at_most_once : (over has news : Bool) (count : ℕ) → count ≤ cond (has && news) 1 0
    → cond (over && news) 1 0 + 0 ≤ cond ((over || has) && news) 1 0
at_most_once true has true count few = omega arith
at_most_once true has false count few = omega arith
at_most_once false has news count few = omega arith

-- a report has a pair at most once, and only if no earlier report had its prefix over the limit
report_has_it_once : PairUnderHolds → IsTotalOrder report_order → (rules : List Rule) (number : ℕ) (rule : Rule)
    → slice_get rules number ≡ Some rule → (before : List Reported) (prefix : PrefixValue) (report : ℕ) (lines : List Line)
    → AllPairs PrecedesOnce lines
    → pair_count (is_first_over before) number prefix (lines_by_rules rules report lines)
    ≤ cond (have_over prefix rule.limit lines && (under prefix rule.prefix && not (had_over prefix rule.limit before))) 1 0
report_has_it_once one order rules number rule got before prefix report [] rising = omega arith
report_has_it_once one order rules number rule got before prefix report (line ∷ lines) rising =
    by_same (report_has_it_once one order rules number rule got before prefix report lines (AllPairs-list_tail PrecedesOnce line lines rising))
    (same_as line.prefix prefix) refl
  where
    test : LineByRule → Bool
    test = is_first_over before

    news : Bool
    news = under prefix rule.prefix && not (had_over prefix rule.limit before)

    has : Bool
    has = have_over prefix rule.limit lines

    here : ℕ
    here = pair_count test number prefix (line_by_rules rules report line)

    others : ℕ
    others = pair_count test number prefix (lines_by_rules rules report lines)

    all : pair_count test number prefix (lines_by_rules rules report (line ∷ lines)) ≡ here + others
    all = pair_count-append test number prefix (line_by_rules rules report line) (lines_by_rules rules report lines)

    at_line : here ≡ cond ((same_as line.prefix prefix && leb rule.limit line.lo) && news) 1 0
    at_line = pair_count-rule test number prefix report line 0 number rules rule got (omega arith)
        ∙ ap (λ b. cond b 1 0) (crossing_of_prefix one before prefix report line number rule)

    by_same : others ≤ cond (has && news) 1 0 → (same : Bool) → same_as line.prefix prefix ≡ same
        → pair_count test number prefix (lines_by_rules rules report (line ∷ lines))
        ≤ cond (((same_as line.prefix prefix && leb rule.limit line.lo) || has) && news) 1 0
    by_same more true is =
        let none : others ≡ 0 = pair_count-other_prefixes test number prefix report lines rules rule got
        (All-weaker (PrecedesOnce line) (λ (later : Line). same_as later.prefix prefix ≡ false)
        (λ later before. not_once_more one order prefix line later is before) lines
        (AllPairs-list_head PrecedesOnce line lines rising)) in
        omega (arith, all, at_line, none, at_most_once (same_as line.prefix prefix && leb rule.limit line.lo) has news others more)
    by_same more false is =
        let empty : here ≡ 0 = at_line ∙ ap (λ b. cond ((b && leb rule.limit line.lo) && news) 1 0) is in
        let once : Bool → ℕ = λ b. cond b 1 0 in
        let same : once (((same_as line.prefix prefix && leb rule.limit line.lo) || has) && news) ≡ once (has && news) =
        ap (λ b. once (((b && leb rule.limit line.lo) || has) && news)) is in
        omega (arith, all, empty, same, more)

one_report_more_once : (had has below : Bool) (here later : ℕ) → here ≤ cond (has && (below && not had)) 1 0
    → later + cond (had || (has || false)) 1 0 ≤ 1 → (here + later) + cond had 1 0 ≤ 1
one_report_more_once true true true here later few more = omega (arith, few, more)
one_report_more_once true true false here later few more = omega (arith, few, more)
one_report_more_once true false below here later few more = omega (arith, few, more)
one_report_more_once false true true here later few more = omega (arith, few, more)
one_report_more_once false true false here later few more = omega (arith, few, more)
one_report_more_once false false below here later few more = omega (arith, few, more)

-- reports have a pair at most once, and not at all if earlier ones had its prefix over the limit
reports_have_it_once : PairUnderHolds → IsTotalOrder report_order → (rules : List Rule) (number : ℕ) (rule : Rule)
    → slice_get rules number ≡ Some rule → (prefix : PrefixValue) (before reports : List Reported)
    → count_by (is_pair number prefix) (crossings_after rules before reports) + cond (had_over prefix rule.limit before) 1 0 ≤ 1
reports_have_it_once one order rules number rule got prefix before [] =
    elim (had_over prefix rule.limit before) as (λ b. 0 + cond b 1 0 ≤ 1) [ true ↦ omega arith | false ↦ omega arith ]
reports_have_it_once one order rules number rule got prefix before (reported ∷ reports) =
    let had : Bool = had_over prefix rule.limit before in
    let has : Bool = have_over prefix rule.limit reported.report.lines in
    let later = crossings_after rules (before ++ reported ∷ []) reports in
    let here = report_crossings rules before reported in
    let places = lines_by_rules rules (length before + 1) reported.report.lines in
    let grown : had_over prefix rule.limit (before ++ reported ∷ []) ≡ (had || (has || false)) =
    list_any-append (λ (r : Reported). have_over prefix rule.limit r.report.lines) before (reported ∷ []) in
    let more : count_by (is_pair number prefix) later + cond (had || (has || false)) 1 0 ≤ 1 =
    subst (λ b. count_by (is_pair number prefix) later + cond b 1 0 ≤ 1) grown
    (reports_have_it_once one order rules number rule got prefix (before ++ reported ∷ []) reports) in
    let few : count_by (is_pair number prefix) here ≤ cond (has && (under prefix rule.prefix && not had)) 1 0 =
    subst (λ n. n ≤ cond (has && (under prefix rule.prefix && not had)) 1 0)
    (sym (pair_count-filter (is_first_over before) number prefix places))
    (report_has_it_once one order rules number rule got before prefix (length before + 1) reported.report.lines
    reported.report.are_lines.rising) in
    let all : count_by (is_pair number prefix) (here ++ later)
    ≡ count_by (is_pair number prefix) here + count_by (is_pair number prefix) later =
    sum_by-append (λ at. cond (is_pair number prefix at) 1 0) here later in
    subst (λ n. n + cond had 1 0 ≤ 1) (sym all)
    (one_report_more_once had has (under prefix rule.prefix) (count_by (is_pair number prefix) here) (count_by (is_pair number prefix) later)
    few more)

-- and without a rule of that number not at all
reports_never_have_it_once : (rules : List Rule) (number : ℕ) → slice_get rules number ≡ None
    → (prefix : PrefixValue) (before reports : List Reported) → count_by (is_pair number prefix) (crossings_after rules before reports) ≡ 0
reports_never_have_it_once rules number none prefix before [] = refl
reports_never_have_it_once rules number none prefix before (reported ∷ reports) =
    let later = crossings_after rules (before ++ reported ∷ []) reports in
    let here = report_crossings rules before reported in
    let places = lines_by_rules rules (length before + 1) reported.report.lines in
    let empty : count_by (is_pair number prefix) here ≡ 0 =
    pair_count-filter (is_first_over before) number prefix places
    ∙ pair_count-no_rule_of_lines (is_first_over before) number prefix (length before + 1) reported.report.lines rules none in
    let more : count_by (is_pair number prefix) later ≡ 0 =
    reports_never_have_it_once rules number none prefix (before ++ reported ∷ []) reports in
    sum_by-append (λ at. cond (is_pair number prefix at) 1 0) here later
    ∙ omega (arith, empty, more)

crossings_have_it_once : PairUnderHolds → IsTotalOrder report_order → (rules : List Rule) (number : ℕ) (prefix : PrefixValue)
    (reports : List Reported) → count_by (is_pair number prefix) (crossings rules reports) ≤ 1
crossings_have_it_once one order rules number prefix reports =
    subst (λ l. count_by (is_pair number prefix) l ≤ 1) (sym (crossings_are_recursive rules reports)) (by_rule (slice_get rules number) refl)
  where
    by_rule : (found : Option Rule) → slice_get rules number ≡ found
        → count_by (is_pair number prefix) (crossings_after rules [] reports) ≤ 1
    by_rule None is =
        let none = reports_never_have_it_once rules number is prefix [] reports in omega (arith, none)
    by_rule (Some rule) is =
        let once = reports_have_it_once one order rules number rule is prefix [] reports in omega (arith, once)

alarms_of_once_are_counted : (may_answer : ℕ → ℕ → ℕ → ℕ → Type 0) (places : List LineByRule) (alarms : List Alarm)
    → AreAlarms may_answer places alarms → (number : ℕ) (prefix : PrefixValue)
    → count_by (λ (alarm : Alarm). eqb alarm.rule number && same_as alarm.prefix prefix) alarms ≡ count_by (is_pair number prefix) places
alarms_of_once_are_counted may_answer [] [] are number prefix = refl
alarms_of_once_are_counted may_answer [] (alarm ∷ alarms) are number prefix = absurd are
alarms_of_once_are_counted may_answer (at ∷ places) [] are number prefix = absurd are
alarms_of_once_are_counted may_answer (at ∷ places) (alarm ∷ alarms) are number prefix =
    let counts : Alarm → ℕ = λ a. cond (eqb a.rule number && same_as a.prefix prefix) 1 0 in
    let pairs : LineByRule → ℕ = λ p. cond (is_pair number prefix p) 1 0 in
    sum_by-cons counts alarm alarms
    ∙ ap (λ n. cond (eqb n number && same_as alarm.prefix prefix) 1 0 + sum_by counts alarms) are.0.rule
    ∙ ap (λ p. cond (eqb at.number number && same_as p prefix) 1 0 + sum_by counts alarms) are.0.prefix
    ∙ ap (λ n. pairs at + n) (alarms_of_once_are_counted may_answer places alarms are.1 number prefix)
    ∙ sym (sum_by-cons pairs at places)

pub alarms_are_once : PairUnderHolds → IsTotalOrder report_order → (may_answer : ℕ → ℕ → ℕ → ℕ → Type 0) (rules : List Rule)
    (reports : List Reported) (alarms : List Alarm) → AreAlarmsOf may_answer rules reports alarms
    → (number : ℕ) (prefix : PrefixValue)
    → count_by (λ (alarm : Alarm). eqb alarm.rule number && same_as alarm.prefix prefix) alarms ≤ 1
alarms_are_once one order may_answer rules reports alarms are number prefix =
    subst (λ n. n ≤ 1) (sym (alarms_of_once_are_counted may_answer (crossings rules reports) alarms are number prefix))
    (crossings_have_it_once one order rules number prefix reports)
