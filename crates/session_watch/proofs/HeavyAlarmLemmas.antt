-- What the alarms by one rule say of the records of sound reports, and how many there are of a prefix.
use Rattle.std.proofs.Common.{◌≡◌, ◌∙◌, ℕ, ◌+◌, ◌-◌, ◌≤◌, ◌&&◌, cond, eqb, List, [], ◌∷◌, All, get_or, refl, sym, ap, subst, arith}
use Rattle.std.specs.List.{count_by, sum_by}
use Rattle.std.proofs.lemmas.Option.{get_or_from_slice_get, slice_get_within}
use Rattle.std.proofs.lemmas.List.Elements.{All-head, All-tail}
use Rattle.std.proofs.lemmas.List.Sums.{sum_by-cons}
use Rattle.prefix_lattice.specs.{PrefixValue, RecordValue, prefix_weight, same_as}
use Rattle.prefix_lattice.specs.declared.grain.Grain.{Grain}
use Rattle.hhh_report.specs.{IsSound, records_before}
use Rattle.hhh_report.specs.declared.reports.Reported.{Reported}
use Rattle.watch_rules.specs.{IsCertain}
use Rattle.watch_rules.specs.declared.alarm.Alarm.{Alarm}
use Rattle.watch_rules.specs.declared.rule.Rule.{Rule}
use Rattle.session_watch.specs.Watch.{IsHeavyAlarm}

-- an alarm by one rule has its number, 0
heavy_alarm_has_rule_0 : (rule : Rule) (reports : List Reported) (alarm : Alarm) → IsCertain (rule ∷ []) reports alarm
    → alarm.rule ≡ 0
heavy_alarm_has_rule_0 rule reports alarm is =
    let within = slice_get_within (rule ∷ []) alarm.rule is.rule is.of_rule in omega (arith, within)

heavy_alarm_has_rule : (rule : Rule) (reports : List Reported) (alarm : Alarm) (is : IsCertain (rule ∷ []) reports alarm)
    → is.rule ≡ rule
heavy_alarm_has_rule rule reports alarm is =
    sym (get_or_from_slice_get (rule ∷ []) alarm.rule is.rule is.rule is.of_rule)
    ∙ ap (λ n. get_or (rule ∷ []) n is.rule) (heavy_alarm_has_rule_0 rule reports alarm is)

-- where its report is sound, its prefix has at least the limit
heavy_alarm : (rule : Rule) (reports : List Reported) (grain : Grain) (lists : List (List RecordValue)) (capacity phi : ℕ)
    → All (λ (reported : Reported). IsSound grain reported.report lists capacity phi) reports
    → (alarm : Alarm) → IsCertain (rule ∷ []) reports alarm → IsHeavyAlarm rule.limit lists reports alarm
heavy_alarm rule reports grain lists capacity phi sound alarm is =
    let place = alarm.report - 1 in
    let within = slice_get_within reports place is.reported is.of_report in
    let here : IsSound grain is.reported.report lists capacity phi =
    subst (λ (reported : Reported). IsSound grain reported.report lists capacity phi)
    (get_or_from_slice_get reports place is.reported is.reported is.of_report) (sound place is.reported within) in
    record {
      reported = is.reported;
      first = is.first;
      of_report = is.of_report;
      heavy = subst (λ (r : Rule). r.limit ≤ prefix_weight alarm.prefix (records_before lists is.reported.report.positions))
          (heavy_alarm_has_rule rule reports alarm is) (is.certain grain lists capacity phi here);
    }

pub heavy_alarms : (rule : Rule) (reports : List Reported) (alarms : List Alarm) → All (IsCertain (rule ∷ []) reports) alarms
    → (grain : Grain) (lists : List (List RecordValue)) (capacity phi : ℕ)
    → All (λ (reported : Reported). IsSound grain reported.report lists capacity phi) reports
    → All (IsHeavyAlarm rule.limit lists reports) alarms
heavy_alarms rule reports alarms certain grain lists capacity phi sound =
    λ place default within. heavy_alarm rule reports grain lists capacity phi sound (get_or alarms place default) (certain place default within)

-- of alarms by one rule, those of a prefix are those of the rule and the prefix
pub heavy_alarms_are_counted : (rule : Rule) (reports : List Reported) (prefix : PrefixValue) (alarms : List Alarm)
    → All (IsCertain (rule ∷ []) reports) alarms
    → count_by (λ (alarm : Alarm). same_as alarm.prefix prefix) alarms
    ≡ count_by (λ (alarm : Alarm). eqb alarm.rule 0 && same_as alarm.prefix prefix) alarms
heavy_alarms_are_counted rule reports prefix [] certain = refl
heavy_alarms_are_counted rule reports prefix (alarm ∷ alarms) certain =
    let counts : Alarm → ℕ = λ a. cond (same_as a.prefix prefix) 1 0 in
    let pairs : Alarm → ℕ = λ a. cond (eqb a.rule 0 && same_as a.prefix prefix) 1 0 in
    let number = heavy_alarm_has_rule_0 rule reports alarm (All-head (IsCertain (rule ∷ []) reports) alarm alarms certain) in
    let more = heavy_alarms_are_counted rule reports prefix alarms (All-tail (IsCertain (rule ∷ []) reports) alarm alarms certain) in
    sum_by-cons counts alarm alarms
    ∙ ap (λ n. counts alarm + n) more
    ∙ ap (λ n. cond (eqb n 0 && same_as alarm.prefix prefix) 1 0 + sum_by pairs alarms) (sym number)
    ∙ sym (sum_by-cons pairs alarm alarms)
