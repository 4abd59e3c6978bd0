use Rattle.std.proofs.Common.{◌++◌, ◌∷◌, [], map, take, sym, ap, ◌∙◌, subst, arith}
use Rattle.std.proofs.lemmas.List.{map_more, take_more_set}
use Rattle.std.proofs.lemmas.Option.{get_or_from_slice_get}
use Rattle.space_saving.specs.declared.entry.Entry.{Entry}
use Rattle.stream_summary.specs.Buckets.{entry_at}
use Rattle.stream_summary.proofs.ReadIndexLemmas.{IsAtIndex, in_at_index, next_at_index}
use Rattle.stream_summary.proofs.arena.Arena.write_in_order.Goals as goal

pub after-next-requires : goal.after-next-requires
after-next-requires c =
    let order = c.args.self.now.order.order in
    in_at_index order c.loop-place.place c.unwrap-number.result.0
    (subst (IsAtIndex order c.loop-place.place) c.unwrap-number.ensures c.loop-place.invariant.next)

pub loop-place-preserved : goal.loop-place-preserved
loop-place-preserved c =
    let arena = c.args.self.now in
    let order = arena.order.order in
    let place = c.loop-place.place in
    let n = c.unwrap-number.result in
    let f = entry_at arena.slots.items arena.buckets.items in
    let at = subst (IsAtIndex order place) c.unwrap-number.ensures c.loop-place.invariant.next in
    record {
      next = next_at_index order place n c.after-next.result at c.after-next.ensures;
      written = take_more_set c.loop-place.into place c.entry.result (omega arith)
          ∙ ap (λ l. l ++ c.entry.result ∷ []) c.loop-place.invariant.written
          ∙ ap (λ (e : Entry). map f (take place order) ++ e ∷ [])
          (c.entry.ensures ∙ ap f (sym (get_or_from_slice_get order place n.0 0 at)))
          ∙ sym (map_more f order place 0 (omega (arith, c.requires.as_many)));
    }
