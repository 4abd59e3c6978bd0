-- What is known of a store: its gates and its header.
use Rattle.std.specs.Prelude.{ℕ, zero, suc, ◌≡◌, ◌≤◌, Bool, true, false, List, length, Option}
use Rattle.std.proofs.Common.{sym, ◌∙◌}
use Rattle.slot_disk.specs.Images.{IfImageKnown, IsOnlyImage}
use Rattle.slot_disk.specs.Moments.{IsUnchangedAt}
use Rattle.slot_disk.specs.StoreLayout.{front_bytes, is_gate_open, slot_header}

-- whether each gate is open, and the header
pub record KnownSlotsState : Type 0 where
  pub first_open : Bool
  pub second_open : Bool
  pub header : List ℕ

-- whether the gate of a slot is open, as it is known
abbrev pub known_slot_open : KnownSlotsState → ℕ → Bool
known_slot_open slots zero = slots.first_open
known_slot_open slots (suc slot) = slots.second_open

-- the gates and the header of these bytes
abbrev pub known_slots_of : List ℕ → KnownSlotsState
known_slots_of image = record { first_open = is_gate_open 0 image; second_open = is_gate_open 1 image; header = slot_header image }

-- the same, after the gate of a slot was opened
abbrev pub after_opening : KnownSlotsState → ℕ → KnownSlotsState
after_opening slots zero = record slots { first_open = true }
after_opening slots (suc slot) = record slots { second_open = true }

-- these bytes are a store with such gates and such a header, and a crash leaves nothing else
pub record IsStoreOfKnown (bytes : List ℕ) (possible : List ℕ → Type 0) (slots : KnownSlotsState) : Type 0 where
  pub long : front_bytes ≤ length bytes
  pub slots_are : slots ≡ known_slots_of bytes
  pub only : IsOnlyImage bytes possible

-- the disk matches these slots: what a read gives, where it is known, is such a store, and a crash leaves nothing else
abbrev pub MatchesKnown : Option (List ℕ) → (List ℕ → Type 0) → KnownSlotsState → Type 0
MatchesKnown reads possible slots = IfImageKnown reads (λ bytes. IsStoreOfKnown bytes possible slots)

-- both gates closed, and this header
abbrev pub closed_known_slots : List ℕ → KnownSlotsState
closed_known_slots header = record { first_open = false; second_open = false; header = header }

-- a disk still matches its slots after a call that changes neither what a read gives nor the images
pub MatchesKnown-unchanged : {D : Type 0} (reads : D → Option (List ℕ)) (image_now : D → List ℕ → Type 0) (old new : D)
    (slots : KnownSlotsState) → IsUnchangedAt reads image_now old new → MatchesKnown (reads old) (image_now old) slots
    → MatchesKnown (reads new) (image_now new) slots
MatchesKnown-unchanged reads image_now old new slots same stands bytes is =
    let store = stands bytes (sym same.same_reads ∙ is) in
    record {
      long = store.long;
      slots_are = store.slots_are;
      only = λ image now. store.only image ((same.same_images image).0 now);
    }
