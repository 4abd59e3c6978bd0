-- What a read gives of a disk's bytes, and what a write leaves of them, whole or cut short by a crash.
use Rattle.std.specs.Prelude.{ℕ, ◌≡◌, ◌+◌, ◌-◌, ◌<◌, ◌≤◌, min, List, length, take, drop, slice_index, Option, Some}

-- the bytes that a read gives have P, where they are known
abbrev pub IfImageKnown : Option (List ℕ) → (List ℕ → Type 0) → Type 0
IfImageKnown reads P = (bytes : List ℕ) → reads ≡ Some bytes → P bytes

-- the bytes that a read gave and those that it gives are so related, where both are known
abbrev pub IfBothKnown : Option (List ℕ) → Option (List ℕ) → (List ℕ → List ℕ → Type 0) → Type 0
IfBothKnown old new R = (before after : List ℕ) → old ≡ Some before → new ≡ Some after → R before after

-- these are the bytes from an offset on, up to the end or the room
pub record GivesRange (place room : ℕ) (bytes into : List ℕ) (count : ℕ) : Type 0 where
  pub count_is : count ≡ min room (length bytes - place)
  pub bytes_are : take count into ≡ take count (drop place bytes)

-- after a write of this many bytes at this offset that was cut short: any bytes in its range and past the old end, and
-- each other byte as before
pub record IsTornImage (place count : ℕ) (old new : List ℕ) : Type 0 where
  pub no_shorter : length old ≤ length new
  pub before : (k : ℕ) → k < place → k < length old → slice_index new k ≡ slice_index old k
  pub after : (k : ℕ) → place + count ≤ k → k < length old → slice_index new k ≡ slice_index old k

-- after a write of these bytes at this offset: they are in its range, and the rest up to the old end is as before
pub record IsWrittenImage (place : ℕ) (piece old new : List ℕ) : Type 0 where
  pub torn : IsTornImage place (length piece) old new
  pub fits : (k : ℕ) → k < length piece → place + k < length new
  pub range : (k : ℕ) → k < length piece → slice_index new (place + k) ≡ slice_index piece k

-- an image that was possible, after a write that was cut short
abbrev pub IsTornFrom : (List ℕ → Type 0) → ℕ → ℕ → List ℕ → Type 0
IsTornFrom possible place count image = (old : List ℕ) × possible old × IsTornImage place count old image

-- no image but these bytes is possible
abbrev pub IsOnlyImage : List ℕ → (List ℕ → Type 0) → Type 0
IsOnlyImage bytes possible = (image : List ℕ) → possible image → image ≡ bytes
