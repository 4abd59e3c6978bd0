use Rattle.std.proofs.Common.{◌+◌, ◌++◌, ◌∙◌, sym, ap}
use Rattle.watch_rules.specs.RaisedPairs.{raised_by}
use Rattle.watch_rules.proofs.AlarmLemmas.{alarms_of_next_report, alarms_raise-append}
use Rattle.watch_rules.proofs.watching.watch_all.Goals as goal

pub loop-reported-preserved : goal.loop-reported-preserved
loop-reported-preserved g c =
    let inv = c.loop-reported.invariant in
    let seen = c.in_ok-see.ensures in
    let alarms = c.loop-reported.alarms in
    let more = c.in_ok-see.field-0 in
    let items = c.as_slice-reported-items.ensures in
    let of_judge = rw inv.judge at seen.alarms in
    let next = rw (inv.rules, inv.seen) at of_judge in
    record {
      judge = seen.judge ∙ inv.judge;
      rules = seen.rules ∙ inv.rules;
      seen = seen.seen ∙ ap (λ n. n + 1) inv.seen;
      raised = seen.raised ∙ ap (λ l. l ++ raised_by more) inv.raised
          ∙ sym (ap raised_by c.in_ok-append.ensures.ok ∙ alarms_raise-append alarms more);
      alarms = rw c.in_ok-append.ensures.ok
          (alarms_of_next_report c.prefixes_are_ordered.ensures.antisymmetric _ c.args.rules.items c.args.reports.now
          c.loop-reported.reported-index c.reported-item.result c.loop-reported.watch.raised alarms more
          (rw items at c.loop-reported-test.true) (rw items at c.reported-item.is) inv.raised inv.alarms next);
    }
