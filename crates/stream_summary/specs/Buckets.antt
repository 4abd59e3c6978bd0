-- Entries in buckets of equal count, which no public contract cites.
use Rattle.std.specs.Prelude.{ℕ, ◌≡◌, ◌≢◌, ◌+◌, ◌-◌, ◌^◌, ◌<◌, ◌≤◌, List, Option, None, Some, map, slice_index_or}
use Rattle.std.specs.List.{AllByRecursion}
use Rattle.space_saving.specs.declared.entry.Entry.{Entry}
use Rattle.stream_summary.specs.declared.numbers.BucketNumber.{BucketNumber}
use Rattle.stream_summary.specs.declared.slot.Slot.{Slot}
use Rattle.stream_summary.specs.declared.slot.Bucket.{Bucket}
use Rattle.stream_summary.specs.Lists.{Pairwise}
use Rattle.stream_summary.specs.Ring.{IsIn}

-- the count of a bucket that isn't in use
abbrev pub free_count : ℕ
free_count = 2 ^ 64 - 1

abbrev pub no_slot : Slot
no_slot = record { key = 0; error = 0; bucket = record { 0 = 0 } }

abbrev pub no_bucket : Bucket
no_bucket = record { count = free_count; last = record { 0 = 0 } }

-- the bucket of the entry at this place
abbrev pub bucket_of : List Slot → ℕ → ℕ
bucket_of slots place = (slice_index_or slots place no_slot).bucket.0

-- the count of a bucket
abbrev pub count_of : List Bucket → ℕ → ℕ
count_of buckets bucket = (slice_index_or buckets bucket no_bucket).count

-- the place of the entry that comes last in a bucket
abbrev pub last_of : List Bucket → ℕ → ℕ
last_of buckets bucket = (slice_index_or buckets bucket no_bucket).last.0

-- the entry at this place
abbrev pub entry_at : List Slot → List Bucket → ℕ → Entry
entry_at slots buckets place = record {
  key = (slice_index_or slots place no_slot).key;
  count = count_of buckets (bucket_of slots place);
  error = (slice_index_or slots place no_slot).error;
}

-- the entries at these places
abbrev pub entries_at : List Slot → List Bucket → List ℕ → List Entry
entries_at slots buckets places = map (entry_at slots buckets) places

-- the keys of slots
abbrev pub keys_of : List Slot → List ℕ
keys_of slots = map (λ slot. slot.key) slots

-- one entry may stand before another: counts don't fall, and after the last one of a bucket they are greater
pub record GoesBefore (bucket count last : ℕ → ℕ) (place later : ℕ) : Type 0 where
  pub apart : place ≢ later
  pub rises : count (bucket place) ≤ count (bucket later)
  pub ends : last (bucket place) ≡ place → count (bucket place) < count (bucket later)

-- one bucket may stand before another: of those in use, each count is greater than the one before
pub record IsBelow (count : ℕ → ℕ) (bucket later : ℕ) : Type 0 where
  pub apart : bucket ≢ later
  pub rises : count bucket ≤ count later
  pub strictly : count bucket < free_count → count bucket < count later

-- the bucket is one of so many, and in use
pub record IsInUse (count : ℕ → ℕ) (room bucket : ℕ) : Type 0 where
  pub within : bucket < room
  pub counts : count bucket < free_count

-- Entries in their order, in buckets that stand in theirs. Each of these entries has a bucket that is in use, and each bucket
-- in use names the last of its entries. All buckets stand in their order, those that are free at its end.
pub record AreBucketedBy (bucket count last : ℕ → ℕ) (room : ℕ) (order steps : List ℕ) : Type 0 where
  pub entries : Pairwise (GoesBefore bucket count last) order
  pub buckets : Pairwise (IsBelow count) steps
  pub used : AllByRecursion (λ place. IsInUse count room (bucket place)) order
  pub lasts : (b : ℕ) → IsInUse count room b → IsIn (last b) order
  pub own : (b : ℕ) → IsInUse count room b → bucket (last b) ≡ b
  pub within : AllByRecursion (λ b. b < room) steps
  pub whole : (b : ℕ) → b < room → IsIn b steps
  pub most : (b : ℕ) → count b ≤ free_count

-- the same of what has these buckets, counts and lasts
abbrev pub AreBucketed : List Slot → List Bucket → ℕ → List ℕ → List ℕ → Type 0
AreBucketed slots buckets room order steps = AreBucketedBy (bucket_of slots) (count_of buckets) (last_of buckets) room order steps

-- how many counts a search for this one has still before it
abbrev pub counts_left : List Bucket → ℕ → Option BucketNumber → ℕ
counts_left buckets count None = count + 1
counts_left buckets count (Some bucket) = count - count_of buckets bucket.0
