-- What a put may leave of a store.
use Rattle.std.specs.Prelude.{ℕ, zero, suc, ◌≡◌, ◌≢◌, ◌+◌, ◌<◌, ◌≤◌, ◌⊎◌, Bool, if◌then◌else◌, List, [], ◌∷◌, length}
use Rattle.std.specs.Prelude.{Some, slice_index}
use Rattle.slot_disk.specs.StoreLayout.{front_bytes, is_gate_open, slot_header, number_at, place_of_body}
use Rattle.slot_disk.specs.StoreLayout.{slot_body, slot_content, SlotContent, Closed, Whole}

-- the number of the other slot
abbrev pub other_slot_of : ℕ → ℕ
other_slot_of zero = 1
other_slot_of (suc slot) = 0

-- what is written at a gate to close it: the byte 0, or nothing where it is closed already
abbrev pub closing_put : Bool → List ℕ
closing_put gate = if gate then 0 ∷ [] else []

-- an open gate with a whole body under it
abbrev pub IsWhole : SlotContent → Type 0
IsWhole held = (body : List ℕ) × (held ≡ Whole body)

-- a slot is whole or closed
abbrev pub IsSoundSlots : SlotContent → Type 0
IsSoundSlots held = IsWhole held ⊎ (held ≡ Closed)

-- a store is ready for a put into a slot: the other slot, which is taken to be the newest, is whole, or both slots are
-- closed; and the slot itself is whole or closed
pub record IsReadyForPut (span slot : ℕ) (image : List ℕ) : Type 0 where
  pub other_holds : IsWhole (slot_content span (other_slot_of slot) image)
      ⊎ ((slot_content span (other_slot_of slot) image ≡ Closed) × (slot_content span slot image ≡ Closed))
  pub slot_holds : IsSoundSlots (slot_content span slot image)

-- the bytes fit a slot as a body: their first 8 bytes are their length, at most the span
pub record FitsSlot (span : ℕ) (body : List ℕ) : Type 0 where
  pub least : 8 ≤ length body
  pub most : length body ≤ span
  pub says : number_at 0 body ≡ length body

-- a gate may be closed: it is open or closed as it is known, and each slot is whole or closed
pub record CanClose (span slot : ℕ) (known : Bool) (image : List ℕ) : Type 0 where
  pub long : front_bytes ≤ length image
  pub gate : is_gate_open slot image ≡ known
  pub slot_holds : IsSoundSlots (slot_content span slot image)
  pub other_holds : IsSoundSlots (slot_content span (other_slot_of slot) image)

-- a body may be written: the slot is closed
pub record CanWrite (span slot : ℕ) (image : List ℕ) : Type 0 where
  pub long : front_bytes ≤ length image
  pub slot_holds : slot_content span slot image ≡ Closed
  pub other_holds : IsSoundSlots (slot_content span (other_slot_of slot) image)

-- a gate may be opened: it is closed, over this whole body
pub record CanOpen (span slot : ℕ) (body image : List ℕ) : Type 0 where
  pub long : front_bytes ≤ length image
  pub slot_holds : slot_content span slot image ≡ Closed
  pub stored : slot_body span slot image ≡ Some body
  pub other_holds : IsSoundSlots (slot_content span (other_slot_of slot) image)

-- a byte of a store is none of this slot's: neither its gate nor within its span
abbrev pub IsApartFrom : ℕ → ℕ → ℕ → Type 0
IsApartFrom span slot place =
    (place ≢ slot) × ((place < place_of_body span slot) ⊎ (place_of_body span slot + span ≤ place))

-- all of a store but one slot is as before: each byte up to the old end, the header, and what the other slot holds
pub record IsSameApart (span slot : ℕ) (old image : List ℕ) : Type 0 where
  pub long : front_bytes ≤ length image
  pub no_shorter : length old ≤ length image
  pub bytes : (place : ℕ) → place < length old → IsApartFrom span slot place
      → slice_index image place ≡ slice_index old place
  pub header : slot_header image ≡ slot_header old
  pub other_slot : slot_content span (other_slot_of slot) image ≡ slot_content span (other_slot_of slot) old

-- all but the slot is as before, and the slot is as before, or closed
pub record MayBeClosed (span slot : ℕ) (old image : List ℕ) : Type 0 where
  pub beside : IsSameApart span slot old image
  pub slot_holds : (slot_content span slot image ≡ slot_content span slot old) ⊎ (slot_content span slot image ≡ Closed)

-- all but the slot is as before, and the slot is closed
pub record IsClosed (span slot : ℕ) (old image : List ℕ) : Type 0 where
  pub beside : IsSameApart span slot old image
  pub slot_holds : slot_content span slot image ≡ Closed

-- all but the slot is as before, and the slot is closed, over this whole body
pub record IsStored (span slot : ℕ) (body old image : List ℕ) : Type 0 where
  pub closed : IsClosed span slot old image
  pub stored : slot_body span slot image ≡ Some body

-- all but the slot is as before, and the slot is closed, or whole with this body
pub record MayBeOpen (span slot : ℕ) (body old image : List ℕ) : Type 0 where
  pub beside : IsSameApart span slot old image
  pub slot_holds : (slot_content span slot image ≡ Closed) ⊎ (slot_content span slot image ≡ Whole body)

-- a put of this body may leave this image: all but the slot is as before, and the slot is as before, closed, or whole
-- with the new body
pub record PutMayLeave (span slot : ℕ) (body old image : List ℕ) : Type 0 where
  pub beside : IsSameApart span slot old image
  pub slot_holds : (slot_content span slot image ≡ slot_content span slot old) ⊎
      ((slot_content span slot image ≡ Closed) ⊎ (slot_content span slot image ≡ Whole body))

-- the put is done: all but the slot is as before, and the slot is whole with the new body
pub record IsPut (span slot : ℕ) (body old image : List ℕ) : Type 0 where
  pub beside : IsSameApart span slot old image
  pub slot_holds : slot_content span slot image ≡ Whole body

-- the newest body is kept: the old one whole in the other slot, or, if no slot was open, nothing or the new one
abbrev pub HoldsNewest : ℕ → ℕ → List ℕ → List ℕ → List ℕ → Type 0
HoldsNewest span slot body old image =
    ((held : List ℕ) × (slot_content span (other_slot_of slot) old ≡ Whole held)
    × (slot_content span (other_slot_of slot) image ≡ Whole held))
    ⊎ ((slot_content span (other_slot_of slot) image ≡ Closed)
    × ((slot_content span slot image ≡ Closed) ⊎ (slot_content span slot image ≡ Whole body)))

-- a put loses nothing: of a store that is ready for it, it may leave only what holds the newest body, the old or the new
abbrev pub LosesNothing : Type 0
LosesNothing =
    (span slot : ℕ) (body old image : List ℕ) → IsReadyForPut span slot old → PutMayLeave span slot body old image
    → HoldsNewest span slot body old image
