-- The text of a watch by a judge that goes by a formula.
use Rattle.std.proofs.Common.{◌≡◌, ◌∙◌, ℕ, List, [], ◌∷◌, All, sym, ap, subst}
use Rattle.prefix_lattice.specs.declared.grain.Grain.{Grain}
use Rattle.hhh_report.specs.declared.reports.Reported.{Reported}
use Rattle.watch_rules.specs.{AreAlarmsOf, GoesByFormula, HasSmallHighs, judged_by}
use Rattle.watch_rules.specs.declared.alarm.Alarm.{Alarm}
use Rattle.watch_rules.specs.declared.rule.Rule.{Rule}
use Rattle.report_text.specs.{AreSameSessions, IsSessionText}
use Rattle.report_text.specs.declared.session.Session.{Session}
use Rattle.session_watch.specs.Watch.{IsWatchOf, watch_text}

-- a formula gives the alarms of a judge that goes by it
abbrev pub WatchTextByFormula : (ℕ → ℕ → ℕ → ℕ → Type 0) → Type 0
WatchTextByFormula may_answer =
    (formula : ℕ → ℕ → ℕ → ℕ) (rules : List Rule) (reports : List Reported) (alarms : List Alarm)
    → GoesByFormula formula may_answer → All HasSmallHighs reports → AreAlarmsOf may_answer rules reports alarms
    → AreAlarmsOf (judged_by formula) rules reports alarms

-- and these are one list
abbrev pub WatchTextHasOneList : Type 0
WatchTextHasOneList =
    (formula : ℕ → ℕ → ℕ → ℕ) (rules : List Rule) (reports : List Reported) (alarms others : List Alarm)
    → AreAlarmsOf (judged_by formula) rules reports alarms → AreAlarmsOf (judged_by formula) rules reports others
    → others ≡ alarms

-- a text is that of one session
abbrev pub WatchTextHasOneSession : Type 0
WatchTextHasOneSession =
    (grain : Grain) (text : List ℕ) (session other : Session) → IsSessionText grain text session
    → IsSessionText grain text other → AreSameSessions session other

-- which has one list of reports
abbrev pub WatchTextHasEqualReports : Type 0
WatchTextHasEqualReports = (session other : Session) → AreSameSessions session other → other.reports ≡ session.reports

-- the highs that a text shows are numbers of 64 bits
watch_text_has_small_highs : (grain : Grain) (text : List ℕ) (session : Session) → IsSessionText grain text session
    → All HasSmallHighs session.reports
watch_text_has_small_highs grain text session is =
    λ place default within. λ line other inside. ((is.is_session.reports place default within).lines line other inside).high

pub watch_text_goes_by_formula : (may_answer : ℕ → ℕ → ℕ → ℕ → Type 0) → WatchTextByFormula may_answer
    → (formula : ℕ → ℕ → ℕ → ℕ) (rule : Rule) (grain : Grain) (text answer : List ℕ)
    → GoesByFormula formula may_answer → IsWatchOf may_answer rule grain text answer
    → IsWatchOf (judged_by formula) rule grain text answer
watch_text_goes_by_formula may_answer given formula rule grain text answer goes is = record {
  session = is.session;
  is_session = is.is_session;
  not_long = is.not_long;
  watched = record {
    alarms = is.watched.alarms;
    are_alarms = given formula (rule ∷ []) is.session.reports is.watched.alarms goes
        (watch_text_has_small_highs grain text is.session is.is_session) is.watched.are_alarms;
    spelled = is.watched.spelled;
  };
}

pub watch_text_is_one : WatchTextHasOneList → WatchTextHasOneSession → WatchTextHasEqualReports
    → (formula : ℕ → ℕ → ℕ → ℕ) (rule : Rule) (grain : Grain) (text answer other : List ℕ) → IsWatchOf (judged_by formula) rule grain text answer
    → IsWatchOf (judged_by formula) rule grain text other → other ≡ answer
watch_text_is_one one_list one equal formula rule grain text answer other is is_other =
    let reports : is_other.session.reports ≡ is.session.reports =
    equal is.session is_other.session (one grain text is.session is_other.session is.is_session is_other.is_session) in
    let alarms = subst (λ r. AreAlarmsOf (judged_by formula) (rule ∷ []) r is_other.watched.alarms) reports is_other.watched.are_alarms in
    is_other.watched.spelled
    ∙ ap watch_text (one_list formula (rule ∷ []) is.session.reports is.watched.alarms is_other.watched.alarms is.watched.are_alarms alarms)
    ∙ sym is.watched.spelled
