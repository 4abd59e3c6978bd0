use Rattle.std.proofs.Common.{ℕ, ◌+◌, take}
use Rattle.watch_rules.specs.Alarms.{AreAlarms}
use Rattle.watch_rules.specs.Watch.{next_crossings}
use Rattle.watch_rules.proofs.watch.Watch.alarms_of.Given as goal

-- the alarms of the lines so far
abbrev pub invariant-loop-line : goal.invariant-loop-line
invariant-loop-line g l =
    let may_answer : ℕ → ℕ → ℕ → ℕ → Type 0 = λ lo hi limit severity.
    (goal.Fn-dyn g).post (l.self.judge.now.rule.vtable, l.self.judge.now.rule.value) (lo, (hi, (limit, tt))) severity in
    AreAlarms may_answer (next_crossings l.self.rules.items l.self.raised (l.self.seen + 1) (take l.line-index l.report.lines)) l.alarms
