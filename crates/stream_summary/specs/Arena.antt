-- The parts of a table, which no public contract cites.
use Rattle.std.specs.Prelude.{ℕ, ◌≡◌, ◌+◌, ◌<◌, ◌≤◌, List, [], ◌∷◌, ◌++◌, length, vec_capacity, slice_index_or}
use Rattle.std.specs.Prelude.{slice_set, Option, MatchOption}
use Rattle.std.specs.List.{AllByRecursion}
use Rattle.key_index.specs.{KeyEntries, HoldsKeys}
use Rattle.space_saving.specs.declared.entry.Entry.{Entry}
use Rattle.space_saving.specs.{put_into}
use Rattle.stream_summary.specs.declared.arena.Arena.{Arena}
use Rattle.stream_summary.specs.declared.slot.Bucket.{Bucket}
use Rattle.stream_summary.specs.declared.slot.Slot.{Slot}
use Rattle.stream_summary.specs.declared.numbers.BucketNumber.{BucketNumber}
use Rattle.stream_summary.specs.declared.numbers.EntryNumber.{EntryNumber}
use Rattle.stream_summary.specs.Ring.{IsIn}
use Rattle.stream_summary.specs.Buckets.{AreBucketed, bucket_of, count_of, entries_at, entry_at, free_count, keys_of}
use Rattle.stream_summary.specs.Buckets.{no_bucket}

-- entries in buckets: at most as many slots as buckets, and rings with room for both
pub record IsArena (arena : Arena) : Type 0 where
  pub most : length arena.buckets.items ≤ 4096
  pub fits : length arena.slots.items ≤ length arena.buckets.items
  pub order_room : arena.order.room ≡ length arena.buckets.items
  pub steps_room : arena.steps.room ≡ length arena.buckets.items
  pub within : AllByRecursion (λ place. place < length arena.slots.items) arena.order.order
  pub linked : AreBucketed arena.slots.items arena.buckets.items (length arena.buckets.items) arena.order.order arena.steps.order

-- an arena of no entries, with room for so many
pub record IsEmptyArena (room : ℕ) (arena : Arena) : Type 0 where
  pub holds : IsArena arena
  pub slots : arena.slots.items ≡ []
  pub memory : room ≤ vec_capacity arena.slots
  pub buckets : length arena.buckets.items ≡ room
  pub order : arena.order.order ≡ []

-- the buckets after one got another last entry
abbrev pub with_last : List Bucket → ℕ → EntryNumber → List Bucket
with_last buckets bucket last = slice_set buckets bucket (record { count = (slice_index_or buckets bucket no_bucket).count; last = last })

-- the buckets after one was given back
abbrev pub given_back : List Bucket → ℕ → List Bucket
given_back buckets bucket = slice_set buckets bucket (record { count = free_count; last = (slice_index_or buckets bucket no_bucket).last })

-- the buckets after a free one is begun
abbrev pub begun : List Bucket → ℕ → ℕ → EntryNumber → List Bucket
begun buckets bucket count last = slice_set buckets bucket (record { count = count; last = last })

-- the slot of an entry in a bucket
abbrev pub slot_of : Entry → BucketNumber → Slot
slot_of entry bucket = record { key = entry.key; error = entry.error; bucket = bucket }

-- some bucket is free
abbrev pub HasFree : List Bucket → Type 0
HasFree buckets = (bucket : ℕ) × (bucket < length buckets) × (count_of buckets bucket ≡ free_count)

-- the bucket comes before all that have greater counts, and all others come before it or are it
abbrev pub IsLastUpTo : List Bucket → ℕ → Option BucketNumber → Type 0
IsLastUpTo buckets count bucket = (other : ℕ) → other < length buckets → count_of buckets other ≤ count
    → MatchOption bucket ⊥ (λ b. count_of buckets other ≤ count_of buckets b.0)

-- an entry left the order, and the others stay as they were
pub record IsTakenOut (place : ℕ) (old new : Arena) : Type 0 where
  pub front : List ℕ
  pub back : List ℕ
  pub before : old.order.order ≡ front ++ place ∷ back
  pub after : new.order.order ≡ front ++ back
  pub entries : entries_at new.slots.items new.buckets.items (front ++ back) ≡ entries_at old.slots.items old.buckets.items (front ++ back)

-- an entry was put into the order, and the others stay as they were
pub record IsPutIn (place : ℕ) (entry : Entry) (old new : Arena) : Type 0 where
  pub front : List ℕ
  pub back : List ℕ
  pub before : old.order.order ≡ front ++ back
  pub after : new.order.order ≡ front ++ place ∷ back
  pub entries : entries_at new.slots.items new.buckets.items (front ++ back) ≡ entries_at old.slots.items old.buckets.items (front ++ back)
  pub here : entry_at new.slots.items new.buckets.items place ≡ entry
  pub less : AllByRecursion (λ other. count_of old.buckets.items (bucket_of old.slots.items other) ≤ entry.count) front
  pub greater : AllByRecursion (λ other. entry.count < count_of old.buckets.items (bucket_of old.slots.items other)) back

-- the entries of an arena in their order
abbrev pub arena_entries : Arena → List Entry
arena_entries arena = entries_at arena.slots.items arena.buckets.items arena.order.order

-- An entry left its place in the order and another one in the same slot went to its own. The rest are the entries that stay.
pub record IsReplaced (place : ℕ) (entry : Entry) (old new : Arena) : Type 0 where
  pub entries : (front back : List ℕ) → old.order.order ≡ front ++ place ∷ back
      → arena_entries new ≡ put_into entry (entries_at old.slots.items old.buckets.items (front ++ back))
  pub stays : (other : ℕ) → IsIn other old.order.order → IsIn other new.order.order
  pub counted : length new.order.order ≡ length old.order.order

-- an index of the keys of the slots, and an arena in whose order each slot stands; as many as there are buckets have room
pub record AreParts (index : KeyEntries) (arena : Arena) : Type 0 where
  pub some : 1 ≤ length arena.buckets.items
  pub roomy : index.room ≡ length arena.buckets.items
  pub keyed : HoldsKeys (keys_of arena.slots.items) index
  pub memory : length arena.buckets.items ≤ vec_capacity arena.slots
  pub holds : IsArena arena
  pub whole : (place : ℕ) → place < length arena.slots.items → IsIn place arena.order.order
  pub counted : length arena.order.order ≡ length arena.slots.items

-- the entry after this weight is added to it
abbrev pub raised_entry : ℕ → Entry → Entry
raised_entry weight entry = record entry { count = entry.count + weight }

-- the entry of a new key that takes the place of another: its count becomes the error of the new entry
abbrev pub heir_entry : ℕ → ℕ → Entry → Entry
heir_entry key weight head = record { key = key; count = head.count + weight; error = head.count }
