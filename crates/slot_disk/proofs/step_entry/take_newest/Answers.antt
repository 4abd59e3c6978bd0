use Rattle.std.proofs.Common.{◌-◌, ◌<◌, length, arith, rules}
use Rattle.slot_disk.specs.declared.step_entry.StepKind.TheVariants.{Wrote}
use Rattle.slot_disk.proofs.NewestEntryLemmas.{newest_entry_gives_newest_step}
use Rattle.slot_disk.proofs.step_entry.take_newest.Goals as goal

pub returns-clause-step : goal.returns-clause-step
returns-clause-step c =
    let some : 0 < length c.args.entries.now = search rules in
    newest_entry_gives_newest_step c.args.entries.now c.split_at.result.0.now c.args.written.now c.split_at-2.result.0.now
    c.split_at-2.result.1.now (length c.args.entries.now - 1) c.min.result (record { kind = Wrote; place = 0; start = 0 }) (omega arith)
    c.split_at.ensures.front c.min.ensures c.split_at-2.ensures.front c.split_at-2.ensures.back
