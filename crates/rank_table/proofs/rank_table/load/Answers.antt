use Rattle.std.proofs.Common.{◌≡◌, ◌+◌, ◌<◌, ◌++◌, ◌∷◌, [], length, take, sym, ap, ◌∙◌, subst, arith}
use Rattle.std.proofs.lemmas.List.{length-take-le, take_more}
use Rattle.std.proofs.lemmas.Option.{get_or_from_slice_get}
use Rattle.rank_table.specs.declared.slot.Slot.{Slot}
use Rattle.space_saving.specs.declared.entry.Entry.{Entry}
use Rattle.rank_table.specs.Slot.{Slots}
use Rattle.rank_table.specs.Marks.{numbered}
use Rattle.rank_table.specs.RankTable.{AreParts}
use Rattle.rank_table.proofs.NumberedEntryLemmas.{length-numbered_entries, numbered-push_entry}
use Rattle.rank_table.proofs.rank_table.load.Goals as goal

pub append-requires-clause-room : goal.append-requires-clause-room
append-requires-clause-room c =
    let entries = c.args.flat.now.entries in
    subst (λ (r : Slots). length r.slots < r.capacity) (sym c.loop-place.invariant.ranked)
    (omega (arith, length-numbered_entries 0 (take c.loop-place.place entries), length-take-le c.loop-place.place entries (omega arith)))

pub loop-place-preserved : goal.loop-place-preserved
loop-place-preserved c =
    let entries = c.args.flat.now.entries in
    let place = c.loop-place.place in
    let entry = c.entry-entry.result in
    let more : take (place + 1) entries ≡ take place entries ++ entry ∷ [] =
    take_more entries place entry (omega arith) ∙ ap (λ (e : Entry). take place entries ++ e ∷ [])
    (get_or_from_slice_get entries place entry entry c.entry-entry.ensures.entry) in
    let count : 0 + length (take place entries) ≡ place = omega (arith, length-take-le place entries (omega arith)) in
    record {
      together = subst (λ n. AreParts n c.append.new.index c.append.new.ranked) c.loop-place.invariant.together.as_many c.append.ensures.together;
      ranked = c.append.ensures.ranked
          ∙ ap (λ (r : Slots). let s : Slots = record {
            capacity = r.capacity;
            slots = r.slots ++ (let t : Slot = record {
              entry = entry;
              time =
                  place;
            } in t) ∷ [];
          } in s) c.loop-place.invariant.ranked
          ∙ ap (λ slots. let s : Slots = record { capacity = c.args.ranked.now.capacity; slots = slots } in s)
          (sym (ap (numbered 0) more ∙ numbered-push_entry 0 (take place entries) entry place count));
    }

pub append-requires-clause-together : goal.append-requires-clause-together
append-requires-clause-together c = subst (λ n. AreParts n c.loop-place.index c.loop-place.ranked) (sym c.loop-place.invariant.together.as_many)
    c.loop-place.invariant.together
