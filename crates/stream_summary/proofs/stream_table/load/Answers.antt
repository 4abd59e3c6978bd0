use Rattle.std.proofs.Common.{◌≤◌, sym, ap, ◌∙◌, subst, arith}
use Rattle.std.specs.List.{AllByRecursion}
use Rattle.space_saving.specs.declared.entry.Entry.{Entry}
use Rattle.space_saving.specs.{put_into}
use Rattle.stream_summary.proofs.LoadedLemmas.{loaded_less_before_index, loaded_more}
use Rattle.stream_summary.proofs.stream_table.load.Goals as goal

pub append-requires-clause-below : goal.append-requires-clause-below
append-requires-clause-below c =
    let es = c.args.flat.now.entries in
    let e = c.entry.result in
    c.last_bucket-from.ensures.counts e.count (subst (AllByRecursion (λ (x : Entry). x.count ≤ e.count)) (sym c.loop-place.invariant.entries)
    (loaded_less_before_index 0 es c.loop-place.place e c.requires.flat.is_table.ascending c.entry.ensures.entry))

pub loop-place-preserved : goal.loop-place-preserved
loop-place-preserved c = record {
  together = c.append.ensures.together;
  buckets = c.append.ensures.buckets ∙ c.loop-place.invariant.buckets;
  slots = omega (arith, c.append.ensures.slots, c.loop-place.invariant.slots);
  entries = c.append.ensures.entries ∙ ap (put_into c.entry.result) c.loop-place.invariant.entries
      ∙ loaded_more c.args.flat.now.entries c.loop-place.place c.entry.result c.requires.flat.is_table.ascending c.entry.ensures.entry;
}
