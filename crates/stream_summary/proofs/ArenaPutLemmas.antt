-- Arenas after an entry was put in.
use Rattle.std.proofs.Common.{◌≡◌, ◌≢◌, ℕ, ◌<◌, ◌≤◌, List, [], ◌∷◌, ◌++◌, length, set, get_or, refl, sym, ap, ◌∙◌}
use Rattle.std.proofs.Common.{subst, arith}
use Rattle.std.proofs.Common.{⊎_elim, Option, None, Some, append_assoc}
use Rattle.std.specs.Prelude.{IfSome, IfNone, MatchOption}
use Rattle.std.specs.Option.{option_map}
use Rattle.std.proofs.lemmas.Bool.{cases_eq, cases_lt}
use Rattle.std.proofs.lemmas.List.{length-set}
use Rattle.std.specs.List.{AllByRecursion}
use Rattle.space_saving.specs.declared.entry.Entry.{Entry}
use Rattle.stream_summary.specs.declared.arena.Arena.{Arena}
use Rattle.stream_summary.specs.declared.slot.Slot.{Slot}
use Rattle.stream_summary.specs.declared.slot.Bucket.{Bucket}
use Rattle.stream_summary.specs.declared.numbers.EntryNumber.{EntryNumber}
use Rattle.stream_summary.specs.declared.numbers.BucketNumber.{BucketNumber}
use Rattle.stream_summary.specs.Lists.{Pairwise}
use Rattle.stream_summary.specs.Ring.{IsIn}
use Rattle.stream_summary.specs.Buckets.{AreBucketed, AreBucketedBy, GoesBefore, IsBelow, IsInUse, bucket_of}
use Rattle.stream_summary.specs.Buckets.{count_of, entries_at, entry_at, last_of}
use Rattle.stream_summary.specs.Buckets.{free_count, no_bucket, no_slot}
use Rattle.stream_summary.specs.Arena.{IsArena, IsLastUpTo, IsPutIn, begun, slot_of}
use Rattle.stream_summary.proofs.AllInPairwiseLemmas.{all_at, all_map_in, all_append, all_insert, is_in_back}
use Rattle.stream_summary.proofs.AllInPairwiseLemmas.{is_in_rest, is_in_remove}
use Rattle.stream_summary.proofs.AllInPairwiseLemmas.{pairwise_before, pairwise_behind}
use Rattle.stream_summary.proofs.BucketedPutLemmas.{bucketed_joined, bucketed_begun}
use Rattle.stream_summary.proofs.ArenaLemmas.{arena_of_parts, arena_bucket_written, arena_bucket_elsewhere}
use Rattle.stream_summary.proofs.ArenaLemmas.{arena_slot_written, arena_slot_elsewhere, arena_entries_stay}

-- the entries up to the last one of a bucket, and those behind it
pub arena_less_up_to_last : (bucket count last : ℕ → ℕ) (room b : ℕ) (front back steps : List ℕ)
    → AreBucketedBy bucket count last room (front ++ last b ∷ back) steps → IsInUse count room b
    → AllByRecursion (λ x. count (bucket x) ≤ count b) (front ++ last b ∷ [])
arena_less_up_to_last bucket count last room b front back steps linked used =
    let own = ap count (linked.own b used) in
    all_append (λ x. count (bucket x) ≤ count b) front (last b ∷ [])
    (all_map_in front (λ x is_in (before : GoesBefore bucket count last x (last b)). omega (arith, before.rises, own))
    (pairwise_before (GoesBefore bucket count last) front (last b) back linked.entries))
    (omega (arith, own), tt)

pub arena_greater_behind_last : (bucket count last : ℕ → ℕ) (room b : ℕ) (front back steps : List ℕ)
    → AreBucketedBy bucket count last room (front ++ last b ∷ back) steps → IsInUse count room b
    → AllByRecursion (λ x. count b < count (bucket x)) back
arena_greater_behind_last bucket count last room b front back steps linked used =
    let own = linked.own b used in
    all_map_in back (λ y is_in (behind : GoesBefore bucket count last (last b) y).
    let higher : count (bucket (last b)) < count (bucket y) = behind.ends (ap last own) in omega (arith, higher, ap count own))
    (pairwise_behind (GoesBefore bucket count last) front (last b) back linked.entries)

-- an entry as its slot and the buckets say
abbrev arena_entry_of_slot : List Bucket → Slot → Entry
arena_entry_of_slot buckets slot = record { key = slot.key; count = count_of buckets slot.bucket.0; error = slot.error }

-- the entry that is written, and the others
pub arena_entry_written : (slots : List Slot) (buckets buckets_after : List Bucket) (place : ℕ) (entry : Entry) (b : BucketNumber) → place < length slots
    → count_of buckets_after b.0 ≡ entry.count → entry_at (set slots place (slot_of entry b)) buckets_after place ≡ entry
arena_entry_written slots buckets buckets_after place entry b within counts =
    ap (arena_entry_of_slot buckets_after) (arena_slot_written slots place (slot_of entry b) within)
    ∙ ap (λ count. let e : Entry = record { key = entry.key; count = count; error = entry.error } in e) counts

pub arena_entry_elsewhere : (slots : List Slot) (buckets buckets_after : List Bucket) (place other : ℕ) (slot : Slot) → other ≢ place
    → count_of buckets_after (bucket_of slots other) ≡ count_of buckets (bucket_of slots other)
    → entry_at (set slots place slot) buckets_after other ≡ entry_at slots buckets other
arena_entry_elsewhere slots buckets buckets_after place other slot apart same =
    ap (arena_entry_of_slot buckets_after) (arena_slot_elsewhere slots place other slot apart)
    ∙ ap (λ count. let e : Entry = record { key = (get_or slots other no_slot).key; count = count; error = (get_or slots other no_slot).error } in e) same

-- what was put in, where the other entries' buckets keep their counts
pub is_put_in : (old new : Arena) (number : EntryNumber) (entry : Entry) (b : BucketNumber) (front back : List ℕ)
    → number.0 < length old.slots.items
    → AllByRecursion (λ other. other ≢ number.0) old.order.order
    → old.order.order ≡ front ++ back → new.order.order ≡ front ++ number.0 ∷ back
    → new.slots.items ≡ set old.slots.items number.0 (slot_of entry b)
    → new.buckets.items ≡ begun old.buckets.items b.0 entry.count number → b.0 < length old.buckets.items
    → ((x : ℕ) → IsIn x (front ++ back)
    → count_of (begun old.buckets.items b.0 entry.count number) (bucket_of old.slots.items x) ≡ count_of old.buckets.items (bucket_of old.slots.items x))
    → AllByRecursion (λ other. count_of old.buckets.items (bucket_of old.slots.items other) ≤ entry.count) front
    → AllByRecursion (λ other. entry.count < count_of old.buckets.items (bucket_of old.slots.items other)) back
    → IsPutIn number.0 entry old new
is_put_in old new number entry b front back within apart before after slots buckets low same less greater =
    let ss = old.slots.items in
    let bs = old.buckets.items in
    let written : Bucket = record { count = entry.count; last = number } in
    let apart_here = subst (AllByRecursion (λ other. other ≢ number.0)) before apart in
    record {
      front = front;
      back = back;
      before = before;
      after = after;
      entries = ap (λ l. entries_at l new.buckets.items (front ++ back)) slots
          ∙ ap (λ l. entries_at (set ss number.0 (slot_of entry b)) l (front ++ back)) buckets
          ∙ arena_entries_stay ss (set ss number.0 (slot_of entry b)) bs (begun bs b.0 entry.count number) (front ++ back)
          (λ x is_in. arena_entry_elsewhere ss bs (begun bs b.0 entry.count number) number.0 x (slot_of entry b)
          (all_at (λ other. other ≢ number.0) x (front ++ back) apart_here is_in) (same x is_in));
      here = ap (λ l. entry_at l new.buckets.items number.0) slots
          ∙ ap (λ l. entry_at (set ss number.0 (slot_of entry b)) l number.0) buckets
          ∙ arena_entry_written ss bs (begun bs b.0 entry.count number) number.0 entry b within
          (ap (λ (k : Bucket). k.count) (arena_bucket_written bs b.0 written low));
      less = less;
      greater = greater;
    }

-- counts stay where a bucket is written with its count
pub arena_count_where_begun : (buckets : List Bucket) (b count : ℕ) (last : EntryNumber) (other : ℕ) → b < length buckets → count_of buckets b ≡ count
    → count_of (begun buckets b count last) other ≡ count_of buckets other
arena_count_where_begun buckets b count last other within is =
    let written : Bucket = record { count = count; last = last } in
    ⊎_elim
    (λ (here : other ≡ b). ap (count_of (begun buckets b count last)) here ∙ ap (λ (k : Bucket). k.count) (arena_bucket_written buckets b written within)
    ∙ sym is ∙ ap (count_of buckets) (sym here))
    (λ (there : other ≡ b → ⊥). ap (λ (k : Bucket). k.count) (arena_bucket_elsewhere buckets b other written there))
    (cases_eq other b)

-- an entry joined a bucket of its count
pub arena_joined : (old new : Arena) (number : EntryNumber) (entry : Entry) (b : BucketNumber) (front back : List ℕ) → IsArena old
    → number.0 < length old.slots.items → AllByRecursion (λ other. other ≢ number.0) old.order.order → entry.count < free_count
    → b.0 < length old.buckets.items → count_of old.buckets.items b.0 ≡ entry.count
    → old.order.order ≡ front ++ last_of old.buckets.items b.0 ∷ back
    → new.order.order ≡ front ++ last_of old.buckets.items b.0 ∷ number.0 ∷ back → new.order.room ≡ old.order.room → new.steps ≡ old.steps
    → new.slots.items ≡ set old.slots.items number.0 (slot_of entry b)
    → new.buckets.items ≡ begun old.buckets.items b.0 entry.count number
    → IsArena new × IsPutIn number.0 entry old new
arena_joined old new number entry b front back holds within apart few low counts before after room steps slots buckets =
    let ss = old.slots.items in
    let bs = old.buckets.items in
    let end = last_of bs b.0 in
    let bucket = bucket_of ss in
    let count = count_of bs in
    let written : Bucket = record { count = entry.count; last = number } in
    let slot : Slot = slot_of entry b in
    let bs_after = begun bs b.0 entry.count number in
    let ss_after = set ss number.0 slot in
    let used : IsInUse count (length bs) b.0 = record { within = low; counts = omega (arith, counts, few) } in
    let linked = subst (λ l. AreBucketed ss bs (length bs) l old.steps.order) before holds.linked in
    let less : AllByRecursion (λ x. count (bucket x) ≤ entry.count) (front ++ end ∷ []) =
    subst (λ n. AllByRecursion (λ x. count (bucket x) ≤ n) (front ++ end ∷ [])) counts
    (arena_less_up_to_last bucket count (last_of bs) (length bs) b.0 front back old.steps.order linked used) in
    let greater : AllByRecursion (λ x. entry.count < count (bucket x)) back =
    subst (λ n. AllByRecursion (λ x. n < count (bucket x)) back) counts
    (arena_greater_behind_last bucket count (last_of bs) (length bs) b.0 front back old.steps.order linked used) in
    let split : old.order.order ≡ (front ++ end ∷ []) ++ back = before ∙ sym (append_assoc front (end ∷ []) back) in
    let split_after : new.order.order ≡ (front ++ end ∷ []) ++ number.0 ∷ back = after ∙ sym (append_assoc front (end ∷ []) (number.0 ∷ back)) in
    let same : (x : ℕ) → count_of bs_after x ≡ count x = λ x. arena_count_where_begun bs b.0 entry.count number x low counts in
    let same_buckets : length bs_after ≡ length bs = length-set bs b.0 written in
    let same_slots : length ss_after ≡ length ss = length-set ss number.0 slot in
    let linked_after = bucketed_joined bucket count (last_of bs) (bucket_of ss_after) (count_of bs_after) (last_of bs_after) (length bs) b.0 number.0
    entry.count (front ++ end ∷ []) back old.steps.order (subst (λ l. AreBucketed ss bs (length bs) l old.steps.order) split holds.linked)
    low counts few same (ap (λ (k : Bucket). k.last.0) (arena_bucket_written bs b.0 written low))
    (λ x there. ap (λ (k : Bucket). k.last.0) (arena_bucket_elsewhere bs b.0 x written there))
    (ap (λ (s : Slot). s.bucket.0) (arena_slot_written ss number.0 slot within))
    (λ x there. ap (λ (s : Slot). s.bucket.0) (arena_slot_elsewhere ss number.0 x slot there))
    (subst (AllByRecursion (λ other. other ≢ number.0)) split apart) less greater in (
      arena_of_parts new ss_after bs_after ((front ++ end ∷ []) ++ number.0 ∷ back) old.steps.order slots buckets split_after (ap (λ r. r.order) steps)
          (omega (arith, same_buckets, holds.most)) (omega (arith, same_buckets, same_slots, holds.fits)) (room ∙ holds.order_room ∙ sym same_buckets)
          (ap (λ r. r.room) steps ∙ holds.steps_room ∙ sym same_buckets)
          (subst (λ n. AllByRecursion (λ x. x < n) ((front ++ end ∷ []) ++ number.0 ∷ back)) (sym same_slots)
          (all_insert (λ x. x < length ss) (front ++ end ∷ []) number.0 back (subst (AllByRecursion (λ x. x < length ss)) split holds.within) within))
          (subst (λ n. AreBucketed ss_after bs_after n ((front ++ end ∷ []) ++ number.0 ∷ back) old.steps.order) (sym same_buckets) linked_after),
      is_put_in old new number entry b (front ++ end ∷ []) back within apart split split_after slots buckets low (λ x is_in. same (bucket x)) less greater,
    )

-- where a free bucket goes among the others
pub record ArenaStepsAround (count : ℕ → ℕ) (c b : ℕ) (left after : List ℕ) : Type 0 where
  pub low : List ℕ
  pub high : List ℕ
  pub left_is : left ≡ low ++ high
  pub after_is : after ≡ low ++ b ∷ high
  pub less : AllByRecursion (λ x. count x < c) low
  pub greater : AllByRecursion (λ x. c < count x) high

pub arena_steps_around : (count : ℕ → ℕ) (room c b : ℕ) (left after : List ℕ) (below : Option BucketNumber) → Pairwise (IsBelow count) left
    → AllByRecursion (λ x. x < room) left → c < free_count
    → IfSome below (λ a. count a.0 < c) → IfSome below (λ a. IsIn a.0 left)
    → ((other : ℕ) → other < room → count other ≤ c → MatchOption below ⊥ (λ a. count other ≤ count a.0))
    → IfNone below (after ≡ b ∷ left)
    → IfSome below (λ a. (front back : List ℕ) → left ≡ front ++ a.0 ∷ back → after ≡ front ++ a.0 ∷ b ∷ back)
    → ArenaStepsAround count c b left after
arena_steps_around count room c b left after None pairs within few less inside last first put = record {
  low = [];
  high = left;
  left_is = refl;
  after_is = first;
  less = tt;
  greater = all_map_in left (λ x is_in (low : x < room). ⊎_elim
      (λ (above : c < count x). above)
      (λ (not_above : count x ≤ c). absurd (last x low not_above))
      (cases_lt c (count x))) within;
}
arena_steps_around count room c b left after (Some a) pairs within few less inside last first put =
    let front = inside.front in
    let back = inside.back in
    let ordered : Pairwise (IsBelow count) (front ++ a.0 ∷ back) = subst (Pairwise (IsBelow count)) inside.is pairs in
    let inner = subst (AllByRecursion (λ x. x < room)) inside.is within in
    record {
      low = front ++ a.0 ∷ [];
      high = back;
      left_is = inside.is ∙ sym (append_assoc front (a.0 ∷ []) back);
      after_is = put front back inside.is ∙ sym (append_assoc front (a.0 ∷ []) (b ∷ back));
      less = all_append (λ x. count x < c) front (a.0 ∷ [])
          (all_map_in front (λ x is_in (before : IsBelow count x a.0). omega (arith, before.rises, less))
          (pairwise_before (IsBelow count) front a.0 back ordered)) (less, tt);
      greater = all_map_in back (λ y is_in (behind : IsBelow count a.0 y). ⊎_elim
          (λ (above : c < count y). above)
          (λ (not_above : count y ≤ c).
          let low : y < room = all_at (λ x. x < room) y (front ++ a.0 ∷ back) inner (is_in_back y front (a.0 ∷ back) (is_in_rest y a.0 back is_in)) in
          let lower : count a.0 < count y = behind.strictly (omega (arith, less, few)) in
          let not_lower : count y ≤ count a.0 = last y low not_above in
          absurd (omega arith))
          (cases_lt c (count y))) (pairwise_behind (IsBelow count) front a.0 back ordered);
    }

-- where an entry goes among the others
pub record ArenaOrderAround (count : ℕ → ℕ) (c place : ℕ) (order after : List ℕ) : Type 0 where
  pub front : List ℕ
  pub back : List ℕ
  pub before : order ≡ front ++ back
  pub after_is : after ≡ front ++ place ∷ back
  pub less : AllByRecursion (λ x. count x < c) front
  pub greater : AllByRecursion (λ x. c < count x) back

pub arena_order_around : (buckets : List Bucket) (bucket : ℕ → ℕ) (c place : ℕ) (order after steps : List ℕ) (below : Option BucketNumber)
    (end : Option EntryNumber)
    → AreBucketedBy bucket (count_of buckets) (last_of buckets) (length buckets) order steps → c < free_count
    → IfSome below (λ a. a.0 < length buckets) → IfSome below (λ a. count_of buckets a.0 < c)
    → IsLastUpTo buckets c below
    → end ≡ option_map (λ (a : BucketNumber). (get_or buckets a.0 no_bucket).last) below
    → IfNone end (after ≡ place ∷ order)
    → IfSome end (λ e. (front back : List ℕ) → order ≡ front ++ e.0 ∷ back → after ≡ front ++ e.0 ∷ place ∷ back)
    → ArenaOrderAround (λ x. count_of buckets (bucket x)) c place order after
arena_order_around buckets bucket c place order after steps None end linked few within less last is first put =
    let count = count_of buckets in
    record {
      front = [];
      back = order;
      before = refl;
      after_is = subst (λ e. IfNone e (after ≡ place ∷ order)) is first;
      less = tt;
      greater = all_map_in order (λ x is_in (used : IsInUse count (length buckets) (bucket x)). ⊎_elim
          (λ (above : c < count (bucket x)). above)
          (λ (not_above : count (bucket x) ≤ c). absurd (last (bucket x) used.within not_above))
          (cases_lt c (count (bucket x)))) linked.used;
    }
arena_order_around buckets bucket c place order after steps (Some a) end linked few within less last is first put =
    let count = count_of buckets in
    let used : IsInUse count (length buckets) a.0 = record { within = within; counts = omega (arith, less, few) } in
    let at = linked.lasts a.0 used in
    let e = last_of buckets a.0 in
    let there = subst (λ o. IfSome o (λ (n : EntryNumber). (front back : List ℕ) → order ≡ front ++ n.0 ∷ back → after ≡ front ++ n.0 ∷ place ∷ back))
    is put in
    let split : AreBucketedBy bucket count (last_of buckets) (length buckets) (at.front ++ e ∷ at.back) steps =
    subst (λ l. AreBucketedBy bucket count (last_of buckets) (length buckets) l steps) at.is linked in
    record {
      front = at.front ++ e ∷ [];
      back = at.back;
      before = at.is ∙ sym (append_assoc at.front (e ∷ []) at.back);
      after_is = there at.front at.back at.is ∙ sym (append_assoc at.front (e ∷ []) (place ∷ at.back));
      less = all_map_in (at.front ++ e ∷ []) (λ x is_in (low : count (bucket x) ≤ count a.0). omega (arith, low, less))
          (arena_less_up_to_last bucket count (last_of buckets) (length buckets) a.0 at.front at.back steps split used);
      greater = all_map_in at.back (λ y is_in (high : count a.0 < count (bucket y)). ⊎_elim
          (λ (above : c < count (bucket y)). above)
          (λ (not_above : count (bucket y) ≤ c).
          let inside : IsIn y order = subst (IsIn y) (sym at.is) (is_in_back y at.front (e ∷ at.back) (is_in_rest y e at.back is_in)) in
          let its : IsInUse count (length buckets) (bucket y) = all_at (λ z. IsInUse count (length buckets) (bucket z)) y order linked.used inside in
          let not_lower : count (bucket y) ≤ count a.0 = last (bucket y) its.within not_above in
          absurd (omega arith))
          (cases_lt c (count (bucket y)))) (arena_greater_behind_last bucket count (last_of buckets) (length buckets) a.0 at.front at.back steps split used);
    }

-- an entry began a free bucket
pub arena_begun : (old new : Arena) (number : EntryNumber) (entry : Entry) (b : BucketNumber) (from to left : List ℕ) → IsArena old
    → number.0 < length old.slots.items → AllByRecursion (λ other. other ≢ number.0) old.order.order → entry.count < free_count
    → b.0 < length old.buckets.items → count_of old.buckets.items b.0 ≡ free_count
    → old.steps.order ≡ from ++ b.0 ∷ to → left ≡ from ++ to
    → ArenaStepsAround (count_of old.buckets.items) entry.count b.0 left new.steps.order
    → ArenaOrderAround (λ x. count_of old.buckets.items (bucket_of old.slots.items x)) entry.count number.0 old.order.order new.order.order
    → new.order.room ≡ old.order.room → new.steps.room ≡ old.steps.room
    → new.slots.items ≡ set old.slots.items number.0 (slot_of entry b)
    → new.buckets.items ≡ begun old.buckets.items b.0 entry.count number
    → IsArena new × IsPutIn number.0 entry old new
arena_begun old new number entry b from to left holds within apart few low free steps_are left_is steps order room steps_room slots buckets =
    let ss = old.slots.items in
    let bs = old.buckets.items in
    let bucket = bucket_of ss in
    let count = count_of bs in
    let written : Bucket = record { count = entry.count; last = number } in
    let slot : Slot = slot_of entry b in
    let bs_after = begun bs b.0 entry.count number in
    let ss_after = set ss number.0 slot in
    let same : (x : ℕ) → x ≢ b.0 → count_of bs_after x ≡ count x = λ x there. ap (λ (k : Bucket). k.count) (arena_bucket_elsewhere bs b.0 x written there) in
    let same_buckets : length bs_after ≡ length bs = length-set bs b.0 written in
    let same_slots : length ss_after ≡ length ss = length-set ss number.0 slot in
    let linked = subst (λ l. AreBucketed ss bs (length bs) l (from ++ b.0 ∷ to)) order.before
    (subst (AreBucketed ss bs (length bs) old.order.order) steps_are holds.linked) in
    let linked_after = bucketed_begun bucket count (last_of bs) (bucket_of ss_after) (count_of bs_after) (last_of bs_after) (length bs) b.0 number.0
    entry.count order.front order.back from to steps.low steps.high linked (sym left_is ∙ steps.left_is) free few
    (ap (λ (k : Bucket). k.count) (arena_bucket_written bs b.0 written low)) same
    (ap (λ (k : Bucket). k.last.0) (arena_bucket_written bs b.0 written low))
    (λ x there. ap (λ (k : Bucket). k.last.0) (arena_bucket_elsewhere bs b.0 x written there))
    (ap (λ (s : Slot). s.bucket.0) (arena_slot_written ss number.0 slot within))
    (λ x there. ap (λ (s : Slot). s.bucket.0) (arena_slot_elsewhere ss number.0 x slot there))
    (subst (AllByRecursion (λ other. other ≢ number.0)) order.before apart) order.less order.greater steps.less steps.greater in
    let not_free : (x : ℕ) → IsIn x (order.front ++ order.back) → bucket x ≢ b.0 = λ x is_in is.
    let used : IsInUse count (length bs) (bucket x) = all_at (λ z. IsInUse count (length bs) (bucket z)) x (order.front ++ order.back) linked.used is_in in
    omega (arith, used.counts, ap count is, free) in (
      arena_of_parts new ss_after bs_after (order.front ++ number.0 ∷ order.back) (steps.low ++ b.0 ∷ steps.high) slots buckets order.after_is
          steps.after_is
          (omega (arith, same_buckets, holds.most)) (omega (arith, same_buckets, same_slots, holds.fits)) (room ∙ holds.order_room ∙ sym same_buckets)
          (steps_room ∙ holds.steps_room ∙ sym same_buckets)
          (subst (λ n. AllByRecursion (λ x. x < n) (order.front ++ number.0 ∷ order.back)) (sym same_slots)
          (all_insert (λ x. x < length ss) order.front number.0 order.back (subst (AllByRecursion (λ x. x < length ss)) order.before holds.within) within))
          (subst (λ n. AreBucketed ss_after bs_after n (order.front ++ number.0 ∷ order.back) (steps.low ++ b.0 ∷ steps.high)) (sym same_buckets)
          linked_after),
      is_put_in old new number entry b order.front order.back within apart order.before order.after_is slots buckets low
          (λ x is_in. same (bucket x) (not_free x is_in))
          (all_map_in order.front (λ x is_in (less : count (bucket x) < entry.count). omega (arith, less)) order.less) order.greater,
    )

-- a bucket in use stays among the others where a free one leaves them
pub arena_begun_from_stays : (old : Arena) (below : Option BucketNumber) (c b : ℕ) (from to : List ℕ) → IsArena old → old.steps.order ≡ from ++ b ∷ to
    → count_of old.buckets.items b ≡ free_count → c < free_count
    → IfSome below (λ a. a.0 < length old.buckets.items) → IfSome below (λ a. count_of old.buckets.items a.0 < c)
    → IfSome below (λ a. IsIn a.0 (from ++ to))
arena_begun_from_stays old None c b from to holds is free few within less = tt
arena_begun_from_stays old (Some a) c b from to holds is free few within less =
    is_in_remove a.0 from b to (λ same. omega (arith, ap (count_of old.buckets.items) same, less, few, free))
    (subst (IsIn a.0) is (holds.linked.whole a.0 within))

-- the last entry of a bucket in use is in the order
pub arena_last_in_stays : (old : Arena) (below : Option BucketNumber) (end : Option EntryNumber) (c : ℕ) → IsArena old → c < free_count
    → IfSome below (λ a. a.0 < length old.buckets.items) → IfSome below (λ a. count_of old.buckets.items a.0 < c)
    → end ≡ option_map (λ (a : BucketNumber). (get_or old.buckets.items a.0 no_bucket).last) below
    → IfSome end (λ e. IsIn e.0 old.order.order)
arena_last_in_stays old None end c holds few within less is = subst (λ o. IfSome o (λ (e : EntryNumber). IsIn e.0 old.order.order)) (sym is) tt
arena_last_in_stays old (Some a) end c holds few within less is =
    let used : IsInUse (count_of old.buckets.items) (length old.buckets.items) a.0 = record { within = within; counts = omega (arith, less, few) } in
    subst (λ o. IfSome o (λ (e : EntryNumber). IsIn e.0 old.order.order)) (sym is) (holds.linked.lasts a.0 used)
