use Rattle.space_saving.specs.declared.entry.Entry.{Entry}
use Rattle.checkpoint.specs.Body.{entry_bytes}
use Rattle.std.proofs.Common.{◌<◌, ◌^◌}
use Rattle.checkpoint.proofs.NextValueLemmas.{spelling_of_next_value, all_with_next_value}
use Rattle.checkpoint.proofs.encoding.push_entries.Goals as goal

pub loop-place-preserved : goal.loop-place-preserved
loop-place-preserved c =
    let entries = c.args.table.now.entries in
    let place = c.loop-place.place in (
      spelling_of_next_value entry_bytes c.args.out.now.items c.loop-place.out.items c.push_entry.new.out.items entries place c.entry.result
          c.entry.ensures.entry c.loop-place.invariant.0 c.in_ok-push_entry.ensures.spelled,
      all_with_next_value (λ (e : Entry). e.key < 2 ^ 64) entries place c.entry.result c.entry.ensures.entry c.loop-place.invariant.1
          c.in_ok-push_entry.ensures.key,
    )
