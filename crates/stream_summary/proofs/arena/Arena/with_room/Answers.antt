use Rattle.std.proofs.Common.{◌^◌, ◌-◌, refl, ap}
use Rattle.stream_summary.specs.declared.arena.Arena.{Arena}
use Rattle.stream_summary.specs.declared.slot.Bucket.{Bucket}
use Rattle.stream_summary.proofs.EmptyArenaLemmas.{arena_of_nothing}
use Rattle.stream_summary.proofs.arena.Arena.with_room.Goals as goal

pub returns : goal.returns
returns c =
    let arena : Arena = record {
      slots = c.in_ok-slots.slots;
      buckets = c.in_ok-buckets.buckets;
      order = c.in_ok-order.order;
      steps = c.in_ok-steps.steps;
      recent = c.none.result;
    } in
    let free : Bucket = record { count = 2 ^ 64 - 1; last = c.from_index.result } in
    arena_of_nothing arena c.args.room free c.requires.some c.requires.few refl c.in_ok-slots.ensures.items c.in_ok-slots.ensures.capacity
    (c.in_ok-buckets.ensures.items_if_clones_equal (λ y is. is)) (ap (λ r. r.order) c.in_ok-order.ensures.empty)
    (ap (λ r. r.room) c.in_ok-order.ensures.empty) c.in_ok-steps.ensures.steps c.in_ok-steps.ensures.room
