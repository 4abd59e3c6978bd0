-- The layout of two slots in the bytes of a store.
use Rattle.std.specs.Prelude.{ℕ, zero, suc, ◌≡◌, ◌+◌, ◌<◌, ◌≤◌, MatchOption, Bool, ◌==◌, ◌&&◌, nat_le, if◌then◌else◌}
use Rattle.std.specs.Prelude.{List, length, take, drop, slice_index, Option, None, Some}
use Rattle.byteorder.specs.Endian.{big_from}

-- how many bytes the gates and the header have, with which the store begins
abbrev pub front_bytes : ℕ
front_bytes = 64

-- how many bytes the header has, which follows the two gates of a byte each
abbrev pub header_bytes : ℕ
header_bytes = 62

-- whether the gate of a slot is open: the byte at the slot's number is 1. It has nothing to do with the gate of threads
abbrev pub is_gate_open : ℕ → List ℕ → Bool
is_gate_open slot image = slice_index image slot == 1

-- the header: the bytes after the gates
abbrev pub slot_header : List ℕ → List ℕ
slot_header image = take header_bytes (drop 2 image)

-- the offset of the body of a slot: that of slot 0 follows the header, that of slot 1 comes a span later
abbrev pub place_of_body : ℕ → ℕ → ℕ
place_of_body span zero = front_bytes
place_of_body span (suc slot) = front_bytes + span

-- the number in the 8 bytes at an offset, high byte first
unfoldable pub number_at : ℕ → List ℕ → ℕ
number_at place image = big_from 0 8 (drop place image)

-- what is read at an offset: the number there, or nothing where the bytes end before or inside it
abbrev pub IsNumberRead : ℕ → Option ℕ → List ℕ → Type 0
IsNumberRead place read image =
    MatchOption read (length image < place + 8) (λ number. (place + 8 ≤ length image) × (number ≡ number_at place image))

-- the bytes at an offset are a whole body: 8 bytes are there, and the length in them is from 8 to the span and doesn't
-- run past the end
abbrev pub body_is_whole : ℕ → ℕ → List ℕ → Bool
body_is_whole span place image =
    nat_le (place + 8) (length image) && (nat_le 8 (number_at place image)
    && (nat_le (number_at place image) span && nat_le (place + number_at place image) (length image)))

-- the body at an offset, as many bytes as its length says, where it is whole
abbrev pub body_at : ℕ → ℕ → List ℕ → Option (List ℕ)
body_at span place image = if body_is_whole span place image then Some (take (number_at place image) (drop place image)) else None

-- the body of a slot, whether its gate is open or closed
abbrev pub slot_body : ℕ → ℕ → List ℕ → Option (List ℕ)
slot_body span slot image = body_at span (place_of_body span slot) image

-- what a slot holds: nothing if its gate is closed, or under an open gate a broken body or a whole one
pub data SlotContent : Type 0 where
  Closed : SlotContent
  Broken : SlotContent
  Whole : List ℕ → SlotContent

-- what an open gate shows of a body
abbrev pub shown_in : Option (List ℕ) → SlotContent
shown_in None = Broken
shown_in (Some body) = Whole body

-- what a slot holds under a span
abbrev pub slot_content : ℕ → ℕ → List ℕ → SlotContent
slot_content span slot image = if is_gate_open slot image then shown_in (slot_body span slot image) else Closed
