use Rattle.std.proofs.Common.{◌+◌, ◌∙◌, Some, None, sym}
use Rattle.std.proofs.lemmas.List.{append-nil}
use Rattle.watch_rules.specs.Watch.{is_next}
use Rattle.watch_rules.proofs.AlarmLemmas.{alarms_of_next_rule}
use Rattle.watch_rules.proofs.watch.Watch.add_alarms.Goals as goal
use Rattle.watch_rules.proofs.watch.Watch.add_alarms.Goals.{in-Some+in_ok-push, in_default}

pub loop-number-preserved : goal.loop-number-preserved
loop-number-preserved g c =
    let rules = c.args.self.now.rules.items in
    let same = c.deref-rule-items.ensures.value in
    let within = rw same at c.loop-number-test.true in
    let is = rw same at c.rule-item.is in
    elim c.match-alarm_of.branch [
      | in-Some+in_ok-push w ↦ λ before are.
          alarms_of_next_rule _ (is_next c.args.self.now.raised) before rules (c.args.self.now.seen + 1) c.loop-number.number
          c.args.line.now c.rule-item.result c.loop-number.alarms _ (Some w.in-Some.alarm)
          within is w.in-Some.ensures (w.alarms-is ∙ w.in_ok-push.ensures.ok) (c.loop-number.invariant before are)
      | in_default w ↦ λ before are.
          alarms_of_next_rule _ (is_next c.args.self.now.raised) before rules (c.args.self.now.seen + 1) c.loop-number.number
          c.args.line.now c.rule-item.result c.loop-number.alarms _ None
          within is w.in_default.ensures (w.alarms-is ∙ sym (append-nil c.loop-number.alarms)) (c.loop-number.invariant before are)
    ]
