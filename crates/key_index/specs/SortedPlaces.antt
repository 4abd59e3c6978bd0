-- Lists of places in the order of their keys, which no public contract cites.
use Rattle.std.specs.Prelude.{ℕ, ◌≡◌, ◌≢◌, ◌+◌, ◌*◌, ◌^◌, ◌<◌, ◌≤◌, List, length, slice_index}

-- where a place stands in the order of keys, and among equal keys of places: its key, before 16 bits for the place
abbrev pub standing : ℕ → ℕ → ℕ
standing key place = key * 2 ^ 16 + place

-- the places stand in this order, and none twice
abbrev pub Rises : List ℕ → List ℕ → Type 0
Rises keys listed = (one other : ℕ) → one < other → other < length listed
    → standing (slice_index keys (slice_index listed one)) (slice_index listed one)
    < standing (slice_index keys (slice_index listed other)) (slice_index listed other)

-- the place is in the list
abbrev pub IsListed : List ℕ → ℕ → Type 0
IsListed listed place = (at : ℕ) × (at < length listed) × (slice_index listed at ≡ place)

-- what stands before a number in the order is in the list before this index, and the rest from there on
pub record Splits (keys listed : List ℕ) (number at : ℕ) : Type 0 where
  pub before : (index : ℕ) → index < at
      → standing (slice_index keys (slice_index listed index)) (slice_index listed index) < number
  pub after : (index : ℕ) → at ≤ index → index < length listed
      → number ≤ standing (slice_index keys (slice_index listed index)) (slice_index listed index)

-- the list has one more place, and stays in order
pub record HasMore (keys old new : List ℕ) (place : ℕ) : Type 0 where
  pub added : IsListed new place
  pub kept : (other : ℕ) → IsListed old other → IsListed new other
  pub only : (other : ℕ) → IsListed new other → other ≢ place → IsListed old other
  pub rises : Rises keys old → (IsListed old place → ⊥) → Rises keys new

-- the list has one place less, and stays in order
pub record HasLess (keys old new : List ℕ) (place : ℕ) : Type 0 where
  pub gone : IsListed new place → ⊥
  pub kept : (other : ℕ) → IsListed old other → other ≢ place → IsListed new other
  pub only : (other : ℕ) → IsListed new other → IsListed old other
  pub rises : Rises keys new
