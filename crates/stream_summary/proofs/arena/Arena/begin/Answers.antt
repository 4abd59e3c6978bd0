use Rattle.std.proofs.Common.{◌≢◌, ◌<◌, ◌++◌, List, length, sym, ap, ◌∙◌, subst, arith}
use Rattle.std.specs.Prelude.{All, IfSome, slice_set, vec_capacity}
use Rattle.std.specs.List.{AllByRecursion}
use Rattle.std.proofs.lemmas.List.{length-set, map-set}
use Rattle.std.proofs.lemmas.List.Elements.{All-from_recursion}
use Rattle.stream_summary.specs.declared.slot.Slot.{Slot}
use Rattle.stream_summary.specs.declared.slot.Bucket.{Bucket}
use Rattle.stream_summary.specs.Lists.{Pairwise}
use Rattle.stream_summary.specs.Ring.{IsIn, RingValue}
use Rattle.stream_summary.specs.Buckets.{IsBelow, bucket_of, count_of, keys_of}
use Rattle.stream_summary.specs.Arena.{slot_of}
use Rattle.stream_summary.proofs.AllInPairwiseLemmas.{all_remove, pairwise_remove}
use Rattle.stream_summary.proofs.BucketedTakeLemmas.{bucketed_apart_from_bucket}
use Rattle.stream_summary.proofs.FreeBucketLemmas.{some_is_free}
use Rattle.stream_summary.proofs.ArenaPutLemmas.{ArenaStepsAround, ArenaOrderAround, arena_begun}
use Rattle.stream_summary.proofs.ArenaPutLemmas.{arena_begun_from_stays, arena_order_around, arena_steps_around}
use Rattle.stream_summary.proofs.arena.Arena.begin.Goals as goal

pub free_bucket-bucket-requires-clause-free : goal.free_bucket-bucket-requires-clause-free
free_bucket-bucket-requires-clause-free c = some_is_free c.args.self.now c.args.number.0 c.requires.arena c.requires.within c.requires.apart

pub remove-requires : goal.remove-requires
remove-requires c = c.requires.arena.linked.whole c.free_bucket-bucket.result.0 c.free_bucket-bucket.ensures.within

pub insert_after-requires : goal.insert_after-requires
insert_after-requires c =
    let old = c.args.self.now in
    let count = count_of old.buckets.items in
    let b = c.free_bucket-bucket.result.0 in
    let at = c.requires.arena.linked.whole b c.free_bucket-bucket.ensures.within in
    let left = c.remove.ensures.order at.front at.back at.is in
    record {
      at = subst (λ l. IfSome c.args.below (λ a. IsIn a.0 l)) (sym left)
          (arena_begun_from_stays old c.args.below c.args.entry.count b at.front at.back c.requires.arena at.is c.free_bucket-bucket.ensures.free
          c.requires.counts c.requires.below c.requires.less);
      below = omega (arith, c.free_bucket-bucket.ensures.within, c.requires.arena.steps_room, c.remove.ensures.room);
      apart = subst (All (λ other. other ≢ b)) (sym left) (All-from_recursion (λ other. other ≢ b) (at.front ++ at.back)
          (bucketed_apart_from_bucket count at.front b at.back (subst (Pairwise (IsBelow count)) at.is c.requires.arena.linked.buckets)));
    }

pub write_slot-requires : goal.write_slot-requires
write_slot-requires c = subst (λ v. c.args.number.0 < length v.items) (sym c.write_bucket.ensures.slots) c.requires.within

pub returns : goal.returns
returns c =
    let old = c.args.self.now in
    let new = c.write_slot.new.self in
    let bs = old.buckets.items in
    let count = count_of bs in
    let bucket = c.free_bucket-bucket.result in
    let b = bucket.0 in
    let holds = c.requires.arena in
    let at = holds.linked.whole b c.free_bucket-bucket.ensures.within in
    let left = c.remove.ensures.order at.front at.back at.is in
    let slots = c.write_slot.ensures.slots ∙ ap (λ v. slice_set v.items c.args.number.0 (slot_of c.args.entry bucket)) c.write_bucket.ensures.slots in
    let buckets = ap (λ v. v.items) c.write_slot.ensures.buckets ∙ c.write_bucket.ensures.buckets in
    let ring = c.write_slot.ensures.order ∙ c.write_bucket.ensures.order in
    let steps = c.write_slot.ensures.steps ∙ c.write_bucket.ensures.steps in
    let inside = subst (λ l. IfSome c.args.below (λ a. IsIn a.0 l)) (sym left)
    (arena_begun_from_stays old c.args.below c.args.entry.count b at.front at.back holds at.is c.free_bucket-bucket.ensures.free
    c.requires.counts c.requires.below c.requires.less) in
    let pairs = subst (Pairwise (IsBelow count)) (sym left) (pairwise_remove (IsBelow count) at.front b at.back
    (subst (Pairwise (IsBelow count)) at.is holds.linked.buckets)) in
    let low = subst (AllByRecursion (λ x. x < length bs)) (sym left) (all_remove (λ x. x < length bs) at.front b at.back
    (subst (AllByRecursion (λ x. x < length bs)) at.is holds.linked.within)) in
    let around = arena_steps_around count (length bs) c.args.entry.count b c.remove.new.self.order c.insert_after.new.self.order c.args.below pairs low
    c.requires.counts c.requires.less inside c.requires.last c.insert_after.ensures.first c.insert_after.ensures.order in
    let entries = arena_order_around bs (bucket_of old.slots.items) c.args.entry.count c.args.number.0 old.order.order c.insert_after-2.new.self.order
    old.steps.order c.args.below c.last_in-last.result holds.linked c.requires.counts c.requires.below c.requires.less c.requires.last
    c.last_in-last.ensures c.insert_after-2.ensures.first c.insert_after-2.ensures.order in
    let told = arena_begun old new c.args.number c.args.entry bucket at.front at.back c.remove.new.self.order holds c.requires.within c.requires.apart
    c.requires.counts c.free_bucket-bucket.ensures.within c.free_bucket-bucket.ensures.free at.is left
    (subst (λ (r : RingValue). ArenaStepsAround count c.args.entry.count b c.remove.new.self.order r.order) (sym steps) around)
    (subst (λ (r : RingValue). ArenaOrderAround (λ x. count (bucket_of old.slots.items x)) c.args.entry.count c.args.number.0 old.order.order r.order)
    (sym ring) entries)
    (ap (λ r. r.room) ring ∙ c.insert_after-2.ensures.room)
    (ap (λ r. r.room) steps ∙ c.insert_after.ensures.room ∙ c.remove.ensures.room) slots buckets in
    record {
      arena = told.0;
      put = told.1;
      keys = ap keys_of slots ∙ map-set (λ (s : Slot). s.key) old.slots.items c.args.number.0 (slot_of c.args.entry bucket);
      memory = c.write_slot.ensures.memory ∙ ap vec_capacity c.write_bucket.ensures.slots;
      buckets = ap (λ (l : List Bucket). length l) buckets ∙ length-set bs b (record { count = c.args.entry.count; last = c.args.number });
    }
