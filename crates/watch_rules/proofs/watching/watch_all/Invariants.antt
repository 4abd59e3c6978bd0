use Rattle.std.proofs.Common.{◌≡◌, ℕ, take}
use Rattle.watch_rules.specs.Alarms.{AreAlarmsOf}
use Rattle.watch_rules.specs.RaisedPairs.{raised_by}
use Rattle.watch_rules.proofs.watching.watch_all.Given as goal

-- the alarms of the reports so far
abbrev pub invariant-loop-reported : goal.invariant-loop-reported
invariant-loop-reported g l =
    let may_answer : ℕ → ℕ → ℕ → ℕ → Type 0 = λ lo hi limit severity.
    (goal.Fn-dyn g).post (l.judge.rule.vtable, l.judge.rule.value) (lo, (hi, (limit, tt))) severity in
    record {
      judge : l.watch.judge.now ≡ l.judge;
      rules : l.watch.rules.items ≡ l.fn.rules.items;
      seen : l.watch.seen ≡ l.reported-index;
      raised : l.watch.raised ≡ raised_by l.alarms;
      alarms : AreAlarmsOf may_answer l.fn.rules.items (take l.reported-index l.reports) l.alarms;
    }
