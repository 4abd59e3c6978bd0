use Rattle.cut_merge.proofs.RunLemmas.{run_intervals_grow}
use Rattle.cut_merge.proofs.run.push_intervals.Goals as goal

pub loop-place-preserved : goal.loop-place-preserved
loop-place-preserved c =
    let more = run_intervals_grow c.args.table.now.entries c.loop-place.place c.entry-entry.result c.entry-entry.ensures.entry in
    cc (more, c.loop-place.invariant, c.in_ok-push.ensures.items)
