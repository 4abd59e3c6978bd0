-- Worked examples of crossings, alarms and raised pairs, most by computing.
use Rattle.std.proofs.Common.{◌≡◌, ◌*◌, ◌^◌, ◌/◌, ◌≤◌, [], ◌∷◌, true, false, refl, arith, None}
use Rattle.std.proofs.lemmas.List.Elements.{All-nil, All-cons}
use Rattle.std.proofs.lemmas.List.Kept.{AllPairs-cons}
use Rattle.std.specs.declared.cmp.Ordering.TheVariants.{Less}
use Rattle.prefix_lattice.specs.{PrefixValue, report_order}
use Rattle.prefix_lattice.proofs.Examples.{front}
use Rattle.hhh_report.specs.{AreReportLines}
use Rattle.hhh_report.specs.declared.line.Line.{Line}
use Rattle.hhh_report.specs.declared.reports.Reported.{Reported}
use Rattle.watch_rules.specs.declared.alarm.Alarm.{Alarm}
use Rattle.watch_rules.specs.declared.rule.Rule.{Rule}
use Rattle.watch_rules.specs.Alarms.{IsAlarm, AreAlarmsOf}
use Rattle.watch_rules.specs.Crossings.{beside, crossings, have_over, had_over, is_first_over, is_over, line_by_rules, lines_by_rules}
use Rattle.watch_rules.specs.Judge.{IsOverLimit, MayJudge, most_severity}
use Rattle.watch_rules.specs.RaisedPairs.{is_raised, pair_code, raised_by}
use Rattle.watch_rules.specs.Watch.{AreRules, is_next, next_crossings, report_limit, rule_limit}

-- a low of 100 reaches a limit of 100, and one of 99 doesn't
pub at_the_limit : IsOverLimit 100 120 100
at_the_limit = record { some = omega arith; over = omega arith; ordered = omega arith; small = omega arith }

pub below_the_limit : ¬ IsOverLimit 99 120 100
below_the_limit over = omega (arith, over.over)

-- a judge that answers how often the low has the limit in it may answer 2 for 200, and none may answer 8
pub twice_the_limit : MayJudge (λ lo hi limit severity. severity ≡ lo / limit) 200 220 100 2
twice_the_limit = record { mild = omega arith; answered = refl }

pub eight_is_too_severe : ¬ MayJudge (λ lo hi limit severity. severity ≡ lo / limit) 800 800 100 8
eight_is_too_severe judged = let most : 8 ≤ most_severity = judged.mild in omega (arith, most)

-- 10.0.0.0/8 20.0.0.0/8 with 100, and the root
abbrev pub network : PrefixValue
network = record { source = front 0x0a000000 8; dest = front 0x14000000 8 }

abbrev root : PrefixValue
root = record { source = []; dest = [] }

abbrev line : Line
line = record { prefix = network; lo = 100; hi = 120 }

-- rules for all prefixes, with limits of 100 and 101, and one for the network's sources
abbrev pub of_100 : Rule
of_100 = record { prefix = root; limit = 100; some = omega arith }

abbrev of_101 : Rule
of_101 = record { prefix = root; limit = 101; some = omega arith }

abbrev of_sources : Rule
of_sources = record { prefix = record { source = front 0x0a000000 8; dest = [] }; limit = 1; some = omega arith }

abbrev of_others : Rule
of_others = record { prefix = record { source = front 0x0b000000 8; dest = [] }; limit = 1; some = omega arith }

pub low_at_the_limit_is_over : is_over (beside 1 line 0 of_100) ≡ true
low_at_the_limit_is_over = refl

pub low_below_it_is_not : is_over (beside 1 line 0 of_101) ≡ false
low_below_it_is_not = refl

pub rule_covers_what_is_under_it : is_over (beside 1 line 0 of_sources) ≡ true
rule_covers_what_is_under_it = refl

pub rule_of_other_sources_does_not : is_over (beside 1 line 0 of_others) ≡ false
rule_of_other_sources_does_not = refl

pub line_beside_two_rules : line_by_rules (of_100 ∷ of_101 ∷ []) 1 line ≡ beside 1 line 0 of_100 ∷ beside 1 line 1 of_101 ∷ []
line_beside_two_rules = refl

pub two_lines_by_one_rule : lines_by_rules (of_100 ∷ []) 1 (line ∷ line ∷ []) ≡ beside 1 line 0 of_100 ∷ beside 1 line 0 of_100 ∷ []
two_lines_by_one_rule = refl

pub network_is_over : have_over network 100 (line ∷ []) ≡ true
network_is_over = refl

pub root_is_not : have_over root 100 (line ∷ []) ≡ false
root_is_not = refl

-- a line comes before another in a report
abbrev Precedes : Line → Line → Type 0
Precedes earlier later = report_order earlier.prefix later.prefix ≡ Less

pub one_line : AreReportLines (line ∷ [])
one_line = record {
  few = omega arith;
  ordered = All-cons (λ (l : Line). l.lo ≤ l.hi) line [] (omega arith) (All-nil (λ (l : Line). l.lo ≤ l.hi));
  rising = AllPairs-cons Precedes line [] (All-nil (Precedes line)) (λ place later other before within. absurd (omega arith));
}

-- a report of this line
abbrev pub told : Reported
told = record {
  report = record { positions = 1 ∷ []; total = 100; threshold = 1; lines = line ∷ []; are_lines = one_line };
  saved = None;
}

pub report_had_it_over : had_over network 100 (told ∷ []) ≡ true
report_had_it_over = refl

pub second_report_is_not_first : is_first_over (told ∷ []) (beside 2 line 0 of_100) ≡ false
second_report_is_not_first = refl

pub told_once : crossings (of_100 ∷ []) (told ∷ told ∷ []) ≡ beside 1 line 0 of_100 ∷ []
told_once = refl

pub told_by_the_rules_that_it_is_over : crossings (of_100 ∷ of_101 ∷ of_sources ∷ []) (told ∷ []) ≡ beside 1 line 0 of_100 ∷ beside 1 line 2 of_sources ∷ []
told_by_the_rules_that_it_is_over = refl

pub told_by_none : crossings (of_101 ∷ []) (told ∷ []) ≡ []
told_by_none = refl

-- the alarm of the line, where a judge may answer 1 alone
abbrev pub alarm : Alarm
alarm = record { report = 1; rule = 0; prefix = network; lo = 100; severity = 1 }

pub alarm_of_the_line : IsAlarm (λ lo hi limit severity. severity ≡ 1) (beside 1 line 0 of_100) alarm
alarm_of_the_line = record { report = refl; rule = refl; prefix = refl; lo = refl; severity = record { mild = omega arith; answered = refl } }

pub one_alarm_of_two_reports : AreAlarmsOf (λ lo hi limit severity. severity ≡ 1) (of_100 ∷ []) (told ∷ told ∷ []) (alarm ∷ [])
one_alarm_of_two_reports = (alarm_of_the_line, tt)

pub no_alarm_is_missing : ¬ AreAlarmsOf (λ lo hi limit severity. severity ≡ 1) (of_100 ∷ []) (told ∷ told ∷ []) []
no_alarm_is_missing none = none

pub one_rule : AreRules (of_100 ∷ [])
one_rule = record { some = omega arith; few = omega arith }

pub no_rule : ¬ AreRules []
no_rule rules = omega (arith, rules.some)

pub pair_of_the_alarm : raised_by (alarm ∷ []) ≡ record { rule = 0; prefix = network } ∷ []
pair_of_the_alarm = refl

pub pair_is_raised : is_raised (raised_by (alarm ∷ [])) 0 network ≡ true
pair_is_raised = refl

pub pair_of_another_rule_is_not : is_raised (raised_by (alarm ∷ [])) 1 network ≡ false
pair_of_another_rule_is_not = refl

pub raised_pair_is_not_next : is_next (raised_by (alarm ∷ [])) (beside 2 line 0 of_100) ≡ false
raised_pair_is_not_next = refl

pub other_rule_is_next : next_crossings (of_100 ∷ of_sources ∷ []) (raised_by (alarm ∷ [])) 2 (line ∷ []) ≡ beside 2 line 1 of_sources ∷ []
other_rule_is_next = refl

-- rule 1 and the root: the number of the rule comes above 16 bits of lengths and 64 of the key
pub code_of_rule_and_root : pair_code 1 root ≡ 65536 * 2 ^ 64
code_of_rule_and_root = refl

pub most_rules_and_reports : rule_limit * report_limit ≡ 2 ^ 68
most_rules_and_reports = refl
