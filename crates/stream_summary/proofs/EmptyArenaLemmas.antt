-- Arenas of no entries, and a slot more.
use Rattle.std.proofs.Common.{◌≡◌, ℕ, ◌+◌, ◌<◌, ◌≤◌, zero, suc, List, [], ◌∷◌, ◌++◌, length, get_or, replicate, sym}
use Rattle.std.proofs.Common.{ap, ◌∙◌, subst, arith}
use Rattle.std.proofs.Common.{⊎_elim, add-one, vec_capacity}
use Rattle.std.proofs.lemmas.Bool.{cases_lt}
use Rattle.std.proofs.lemmas.List.{append-nil, get_or-replicate, get_or_append_left, get_or_past, length-replicate}
use Rattle.std.proofs.lemmas.List.{length_push}
use Rattle.std.specs.List.{AllByRecursion}
use Rattle.space_saving.specs.declared.entry.Entry.{Entry}
use Rattle.stream_summary.specs.declared.arena.Arena.{Arena}
use Rattle.stream_summary.specs.declared.slot.Slot.{Slot}
use Rattle.stream_summary.specs.declared.slot.Bucket.{Bucket}
use Rattle.stream_summary.specs.Lists.{Pairwise, numbers_below}
use Rattle.stream_summary.specs.Ring.{IsIn}
use Rattle.stream_summary.specs.Buckets.{AreBucketed, AreBucketedBy, GoesBefore, IsBelow, IsInUse, bucket_of}
use Rattle.stream_summary.specs.Buckets.{count_of, entries_at, free_count}
use Rattle.stream_summary.specs.Buckets.{last_of, no_bucket, no_slot}
use Rattle.stream_summary.specs.Arena.{IsArena, IsEmptyArena, arena_entries}
use Rattle.stream_summary.proofs.AllInPairwiseLemmas.{all_append, all_at, all_map, all_map_in, is_in_between}
use Rattle.stream_summary.proofs.AllInPairwiseLemmas.{is_in_front, pairwise_insert, pairwise_map_in}
use Rattle.stream_summary.proofs.ArenaLemmas.{arena_of_parts, arena_entries_stay}

-- the numbers below one
pub arena_numbers_below_more : (n : ℕ) → numbers_below (n + 1) ≡ numbers_below n ++ n ∷ []
arena_numbers_below_more n = ap numbers_below (add-one n)

pub arena_numbers_below_are_below : (n : ℕ) → AllByRecursion (λ x. x < n) (numbers_below n)
arena_numbers_below_are_below zero = tt
arena_numbers_below_are_below (suc n) =
    all_append (λ x. x < suc n) (numbers_below n) (n ∷ []) (all_map (λ x (low : x < n). omega (arith, low))
    (numbers_below n) (arena_numbers_below_are_below n))
    (omega arith, tt)

pub arena_number_is_below : (n x : ℕ) → x < n → IsIn x (numbers_below n)
arena_number_is_below zero x low = absurd (omega arith)
arena_number_is_below (suc n) x low =
    ⊎_elim
    (λ (below : x < n). is_in_front x (numbers_below n) (n ∷ []) (arena_number_is_below n x below))
    (λ (above : n ≤ x). let is : n ≡ x = omega arith in
    subst (λ y. IsIn y (numbers_below n ++ n ∷ [])) is (is_in_between (numbers_below n) n []))
    (cases_lt x n)

pub arena_numbers_below_rise : (n : ℕ) → Pairwise (λ x y. x < y) (numbers_below n)
arena_numbers_below_rise zero = tt
arena_numbers_below_rise (suc n) =
    pairwise_insert (λ x y. x < y) (numbers_below n) n [] (subst (Pairwise (λ x y. x < y)) (sym (append-nil (numbers_below n))) (arena_numbers_below_rise n))
    (arena_numbers_below_are_below n) tt

-- the count of each of so many free buckets
arena_free_counts : (room : ℕ) (free : Bucket) (b : ℕ) → free.count ≡ free_count → count_of (replicate room free) b ≡ free_count
arena_free_counts room free b is =
    ⊎_elim
    (λ (low : b < room). ap (λ (k : Bucket). k.count) (get_or-replicate room b free no_bucket low) ∙ is)
    (λ (high : room ≤ b). ap (λ (k : Bucket). k.count) (get_or_past (replicate room free) b no_bucket (omega (arith, length-replicate room free))))
    (cases_lt b room)

-- so many free buckets
pub arena_bucketed_nothing : (room : ℕ) (slots : List Slot) (free : Bucket) → free.count ≡ free_count
    → AreBucketed slots (replicate room free) room [] (numbers_below room)
arena_bucketed_nothing room slots free is =
    let count = count_of (replicate room free) in
    let counts : (b : ℕ) → count b ≡ free_count = λ b. arena_free_counts room free b is in
    let none : (b : ℕ) → IsInUse count room b → ⊥ = λ b used. omega (arith, used.counts, counts b) in
    record {
      entries = tt;
      buckets = pairwise_map_in (numbers_below room) (λ x y first second (rises : x < y).
          let goes : IsBelow count x y = record {
            apart = λ same. omega (arith, rises, same);
            rises = omega (arith, counts x, counts y);
            strictly = λ used. omega (arith, used, counts x);
          } in goes) (arena_numbers_below_rise room);
      used = tt;
      lasts = λ b used. absurd (none b used);
      own = λ b used. absurd (none b used);
      within = arena_numbers_below_are_below room;
      whole = λ b low. arena_number_is_below room b low;
      most = λ b. omega (arith, counts b);
    }

pub arena_of_nothing : (arena : Arena) (room : ℕ) (free : Bucket) → 1 ≤ room → room ≤ 4096 → free.count ≡ free_count → arena.slots.items ≡ []
    → room ≤ vec_capacity arena.slots
    → arena.buckets.items ≡ replicate room free → arena.order.order ≡ [] → arena.order.room ≡ room → arena.steps.order ≡ numbers_below room
    → arena.steps.room ≡ room → IsEmptyArena room arena
arena_of_nothing arena room free some few is slots memory buckets order order_room steps steps_room =
    let long : length (replicate room free) ≡ room = length-replicate room free in
    record {
      holds = arena_of_parts arena [] (replicate room free) [] (numbers_below room) slots buckets order steps (omega (arith, long)) (omega (arith, long))
          (order_room ∙ sym long) (steps_room ∙ sym long) tt
          (subst (λ n. AreBucketed [] (replicate room free) n [] (numbers_below room)) (sym long) (arena_bucketed_nothing room [] free is));
      slots = slots;
      memory = memory;
      buckets = ap (λ (l : List Bucket). length l) buckets ∙ long;
      order = order;
    }

-- the same entries in other slots that have the same buckets
arena_bucketed_agree : (bucket other count last : ℕ → ℕ) (room : ℕ) (order steps : List ℕ) → AreBucketedBy bucket count last room order steps
    → ((x : ℕ) → IsIn x order → other x ≡ bucket x) → AreBucketedBy other count last room order steps
arena_bucketed_agree bucket other count last room order steps linked same = record {
  entries = pairwise_map_in order (λ x y first second (before : GoesBefore bucket count last x y).
      let same_x = same x first in
      let same_y = same y second in
      let goes : GoesBefore other count last x y = record {
        apart = before.apart;
        rises = omega (arith, before.rises, ap count same_x, ap count same_y);
        ends = λ ends. let less : count (bucket x) < count (bucket y) = before.ends (ap last (sym same_x) ∙ ends) in
            omega (arith, ap count same_x, ap count same_y);
      } in goes) linked.entries;
  buckets = linked.buckets;
  used = all_map_in order (λ x is_in (used : IsInUse count room (bucket x)). subst (IsInUse count room) (sym (same x is_in)) used) linked.used;
  lasts = linked.lasts;
  own = λ b used. same (last b) (linked.lasts b used) ∙ linked.own b used;
  within = linked.within;
  whole = linked.whole;
  most = linked.most;
}

-- a slot more, which isn't in the order
pub arena_pushed : (old new : Arena) (slot : Slot) → IsArena old → length old.slots.items < length old.buckets.items
    → new.slots.items ≡ old.slots.items ++ slot ∷ [] → new.buckets ≡ old.buckets → new.order ≡ old.order → new.steps ≡ old.steps
    → IsArena new × (arena_entries new ≡ arena_entries old)
arena_pushed old new slot holds room slots buckets order steps =
    let ss = old.slots.items in
    let bs = old.buckets.items in
    let more = ss ++ slot ∷ [] in
    let there : (x : ℕ) → IsIn x old.order.order → get_or more x no_slot ≡ get_or ss x no_slot = λ x is_in.
    get_or_append_left ss (slot ∷ []) no_slot x (all_at (λ y. y < length ss) x old.order.order holds.within is_in) in
    let long : length more ≡ length ss + 1 = length_push ss slot in (
      arena_of_parts new more bs old.order.order old.steps.order slots (ap (λ v. v.items) buckets) (ap (λ r. r.order) order) (ap (λ r. r.order) steps)
          holds.most (omega (arith, long, room)) (ap (λ r. r.room) order ∙ holds.order_room) (ap (λ r. r.room) steps ∙ holds.steps_room)
          (all_map (λ x (low : x < length ss). omega (arith, low, long)) old.order.order holds.within)
          (arena_bucketed_agree (bucket_of ss) (bucket_of more) (count_of bs) (last_of bs) (length bs) old.order.order old.steps.order holds.linked
          (λ x is_in. ap (λ (s : Slot). s.bucket.0) (there x is_in))),
      ap (λ r. entries_at new.slots.items new.buckets.items r.order) order
          ∙ ap (λ v. entries_at new.slots.items v.items old.order.order) buckets
          ∙ ap (λ l. entries_at l bs old.order.order) slots
          ∙ arena_entries_stay ss more bs bs old.order.order (λ x is_in. ap (λ (s : Slot).
          let e : Entry = record { key = s.key; count = count_of bs s.bucket.0; error = s.error } in e) (there x is_in)),
    )
