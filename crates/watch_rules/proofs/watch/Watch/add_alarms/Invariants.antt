use Rattle.std.proofs.Common.{ℕ, ◌+◌, ◌++◌, List, take, filter}
use Rattle.watch_rules.specs.Alarms.{AreAlarms}
use Rattle.watch_rules.specs.Crossings.{LineByRule, line_by_rules}
use Rattle.watch_rules.specs.Watch.{is_next}
use Rattle.watch_rules.proofs.watch.Watch.add_alarms.Given as goal

-- the alarms of the line beside the rules so far are appended
abbrev pub invariant-loop-number : goal.invariant-loop-number
invariant-loop-number g l =
    let may_answer : ℕ → ℕ → ℕ → ℕ → Type 0 = λ lo hi limit severity.
    (goal.Fn-dyn g).post (l.self.judge.now.rule.vtable, l.self.judge.now.rule.value) (lo, (hi, (limit, tt))) severity in
    (before : List LineByRule) → AreAlarms may_answer before l.fn.alarms
    → AreAlarms may_answer (before ++ filter (is_next l.self.raised)
    (line_by_rules (take l.number l.self.rules.items) (l.self.seen + 1) l.line)) l.alarms
