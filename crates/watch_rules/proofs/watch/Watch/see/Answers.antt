use Rattle.std.proofs.Common.{◌+◌, sym, subst}
use Rattle.watch_rules.specs.RaisedPairs.{AreNew}
use Rattle.watch_rules.proofs.AlarmLemmas.{next_alarms_are_new}
use Rattle.watch_rules.proofs.watch.Watch.see.Goals as goal

pub raise-requires : goal.raise-requires
raise-requires g c =
    subst (AreNew c.args.self.now.raised) (sym c.as_slice.ensures)
    (next_alarms_are_new _ c.args.self.now.rules.items c.args.self.now.raised (c.args.self.now.seen + 1) c.args.report.now.lines
    c.in_ok-alarms.alarms c.in_ok-alarms.ensures)
