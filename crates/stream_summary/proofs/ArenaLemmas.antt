-- Arenas whose parts are known, and what their slots and buckets say.
use Rattle.std.proofs.Common.{◌≡◌, ◌≢◌, ℕ, ◌<◌, ◌≤◌, List, [], ◌∷◌, length, set, get_or, refl, sym, ap, ◌∙◌, subst}
use Rattle.std.proofs.lemmas.List.{get_or-set_same, get_or-set_other}
use Rattle.std.specs.List.{AllByRecursion}
use Rattle.space_saving.specs.declared.entry.Entry.{Entry}
use Rattle.stream_summary.specs.declared.arena.Arena.{Arena}
use Rattle.stream_summary.specs.declared.slot.Slot.{Slot}
use Rattle.stream_summary.specs.declared.slot.Bucket.{Bucket}
use Rattle.stream_summary.specs.Ring.{IsIn}
use Rattle.stream_summary.specs.Buckets.{AreBucketed, bucket_of, count_of, entries_at, entry_at, no_bucket, no_slot}
use Rattle.stream_summary.specs.Buckets.{IsInUse}
use Rattle.stream_summary.specs.Arena.{IsArena}
use Rattle.stream_summary.proofs.AllInPairwiseLemmas.{all_at, is_in_first, is_in_rest}

-- an arena of these parts
pub arena_of_parts : (arena : Arena) (slots : List Slot) (buckets : List Bucket) (order steps : List ℕ) → arena.slots.items ≡ slots
    → arena.buckets.items ≡ buckets → arena.order.order ≡ order → arena.steps.order ≡ steps → length buckets ≤ 4096
    → length slots ≤ length buckets → arena.order.room ≡ length buckets → arena.steps.room ≡ length buckets
    → AllByRecursion (λ place. place < length slots) order → AreBucketed slots buckets (length buckets) order steps → IsArena arena
arena_of_parts arena slots buckets order steps has_slots has_buckets has_order has_steps most fits order_room steps_room within linked = record {
  most = subst (λ (l : List Bucket). length l ≤ 4096) (sym has_buckets) most;
  fits = subst (λ (l : List Slot). length l ≤ length arena.buckets.items) (sym has_slots)
      (subst (λ (l : List Bucket). length slots ≤ length l) (sym has_buckets) fits);
  order_room = order_room ∙ sym (ap (λ (l : List Bucket). length l) has_buckets);
  steps_room = steps_room ∙ sym (ap (λ (l : List Bucket). length l) has_buckets);
  within = subst (λ (l : List Slot). AllByRecursion (λ place. place < length l) arena.order.order) (sym has_slots)
      (subst (AllByRecursion (λ place. place < length slots)) (sym has_order) within);
  linked = subst (λ (l : List Slot). AreBucketed l arena.buckets.items (length arena.buckets.items) arena.order.order arena.steps.order) (sym has_slots)
      (subst (λ (l : List Bucket). AreBucketed slots l (length l) arena.order.order arena.steps.order) (sym has_buckets)
      (subst (λ l. AreBucketed slots buckets (length buckets) l arena.steps.order) (sym has_order)
      (subst (AreBucketed slots buckets (length buckets) order) (sym has_steps) linked)));
}

-- what an arena says of its entry: the bucket is one of the buckets, and in use
pub arena_entry_is_used : (arena : Arena) (place : ℕ) → IsArena arena → IsIn place arena.order.order
    → IsInUse (count_of arena.buckets.items) (length arena.buckets.items) (bucket_of arena.slots.items place)
arena_entry_is_used arena place holds is_in =
    all_at (λ x. IsInUse (count_of arena.buckets.items) (length arena.buckets.items) (bucket_of arena.slots.items x)) place arena.order.order
    holds.linked.used is_in

pub arena_entry_is_within : (arena : Arena) (place : ℕ) → IsArena arena → IsIn place arena.order.order → place < length arena.slots.items
arena_entry_is_within arena place holds is_in = all_at (λ x. x < length arena.slots.items) place arena.order.order holds.within is_in

-- a bucket that was written, and the others
pub arena_bucket_written : (buckets : List Bucket) (b : ℕ) (bucket : Bucket) → b < length buckets → get_or (set buckets b bucket) b no_bucket ≡ bucket
arena_bucket_written buckets b bucket within = get_or-set_same buckets b bucket no_bucket within

pub arena_bucket_elsewhere : (buckets : List Bucket) (b other : ℕ) (bucket : Bucket) → other ≢ b
    → get_or (set buckets b bucket) other no_bucket ≡ get_or buckets other no_bucket
arena_bucket_elsewhere buckets b other bucket apart = get_or-set_other buckets b other bucket no_bucket apart

-- a slot that was written, and the others
pub arena_slot_written : (slots : List Slot) (place : ℕ) (slot : Slot) → place < length slots → get_or (set slots place slot) place no_slot ≡ slot
arena_slot_written slots place slot within = get_or-set_same slots place slot no_slot within

pub arena_slot_elsewhere : (slots : List Slot) (place other : ℕ) (slot : Slot) → other ≢ place
    → get_or (set slots place slot) other no_slot ≡ get_or slots other no_slot
arena_slot_elsewhere slots place other slot apart = get_or-set_other slots place other slot no_slot apart

-- the entries at these places are the same where each is
pub arena_entries_stay : (slots slots_after : List Slot) (buckets buckets_after : List Bucket) (places : List ℕ)
    → ((x : ℕ) → IsIn x places → entry_at slots_after buckets_after x ≡ entry_at slots buckets x)
    → entries_at slots_after buckets_after places ≡ entries_at slots buckets places
arena_entries_stay slots slots_after buckets buckets_after [] same = refl
arena_entries_stay slots slots_after buckets buckets_after (place ∷ places) same =
    let here : entry_at slots_after buckets_after place ≡ entry_at slots buckets place = same place (is_in_first place places) in
    let rest : entries_at slots_after buckets_after places ≡ entries_at slots buckets places =
    arena_entries_stay slots slots_after buckets buckets_after places (λ x is_in. same x (is_in_rest x place places is_in)) in
    ap (λ e. e ∷ entries_at slots_after buckets_after places) here ∙ ap (λ l. entry_at slots buckets place ∷ l) rest

-- an entry stays where its bucket keeps its count
pub arena_entry_keeps_count : (slots : List Slot) (buckets buckets_after : List Bucket) (place : ℕ)
    → count_of buckets_after (bucket_of slots place) ≡ count_of buckets (bucket_of slots place)
    → entry_at slots buckets_after place ≡ entry_at slots buckets place
arena_entry_keeps_count slots buckets buckets_after place same =
    ap (λ count. let e : Entry = record {
      key = (get_or slots place no_slot).key;
      count = count;
      error = (get_or slots place no_slot).error;
    } in e) same
