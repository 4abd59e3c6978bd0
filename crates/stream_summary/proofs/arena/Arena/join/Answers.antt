use Rattle.std.proofs.Common.{◌≢◌, ◌<◌, ◌∷◌, ◌++◌, List, length, sym, ap, ◌∙◌, subst, arith}
use Rattle.std.specs.Prelude.{slice_set, vec_capacity}
use Rattle.std.proofs.lemmas.List.{length-set, map-set}
use Rattle.std.proofs.lemmas.List.Elements.{All-from_recursion}
use Rattle.stream_summary.specs.declared.slot.Slot.{Slot}
use Rattle.stream_summary.specs.declared.slot.Bucket.{Bucket}
use Rattle.stream_summary.specs.Ring.{IsIn}
use Rattle.stream_summary.specs.Buckets.{IsInUse, count_of, last_of, keys_of}
use Rattle.stream_summary.specs.Arena.{slot_of}
use Rattle.stream_summary.proofs.ArenaPutLemmas.{arena_joined}
use Rattle.stream_summary.proofs.arena.Arena.join.Goals as goal

pub insert_after-requires : goal.insert_after-requires
insert_after-requires c =
    let old = c.args.self.now in
    let used : IsInUse (count_of old.buckets.items) (length old.buckets.items) c.args.bucket.0 = record {
      within = c.requires.bucket;
      counts = omega (arith, c.requires.agrees, c.requires.counts);
    } in
    record {
      at = subst (λ n. IsIn n old.order.order) (sym c.last_of-last.ensures) (c.requires.arena.linked.lasts c.args.bucket.0 used);
      below = omega (arith, c.requires.within, c.requires.arena.fits, c.requires.arena.order_room);
      apart = All-from_recursion (λ other. other ≢ c.args.number.0) old.order.order c.requires.apart;
    }

pub write_slot-requires : goal.write_slot-requires
write_slot-requires c = subst (λ v. c.args.number.0 < length v.items) (sym c.write_bucket.ensures.slots) c.requires.within

pub returns : goal.returns
returns c =
    let old = c.args.self.now in
    let new = c.write_slot.new.self in
    let last = c.last_of-last.result in
    let end = last_of old.buckets.items c.args.bucket.0 in
    let used : IsInUse (count_of old.buckets.items) (length old.buckets.items) c.args.bucket.0 = record {
      within = c.requires.bucket;
      counts = omega (arith, c.requires.agrees, c.requires.counts);
    } in
    let at = c.requires.arena.linked.lasts c.args.bucket.0 used in
    let slots = c.write_slot.ensures.slots ∙ ap (λ v. slice_set v.items c.args.number.0 (slot_of c.args.entry c.args.bucket)) c.write_bucket.ensures.slots in
    let buckets = ap (λ v. v.items) c.write_slot.ensures.buckets ∙ c.write_bucket.ensures.buckets in
    let ring = c.write_slot.ensures.order ∙ c.write_bucket.ensures.order in
    let steps = c.write_slot.ensures.steps ∙ c.write_bucket.ensures.steps in
    let goes = c.insert_after.ensures.order at.front at.back (at.is ∙ ap (λ n. at.front ++ n ∷ at.back) (sym c.last_of-last.ensures))
    ∙ ap (λ n. at.front ++ n ∷ c.args.number.0 ∷ at.back) c.last_of-last.ensures in
    let told = arena_joined old new c.args.number c.args.entry c.args.bucket at.front at.back c.requires.arena c.requires.within c.requires.apart
    c.requires.counts c.requires.bucket c.requires.agrees at.is (ap (λ r. r.order) ring ∙ goes)
    (ap (λ r. r.room) ring ∙ c.insert_after.ensures.room) steps slots buckets in
    record {
      arena = told.0;
      put = told.1;
      keys = ap keys_of slots ∙ map-set (λ (s : Slot). s.key) old.slots.items c.args.number.0 (slot_of c.args.entry c.args.bucket);
      memory = c.write_slot.ensures.memory ∙ ap vec_capacity c.write_bucket.ensures.slots;
      buckets = ap (λ (l : List Bucket). length l) buckets ∙ length-set old.buckets.items c.args.bucket.0
          (record { count = c.args.entry.count; last = c.args.number });
    }
