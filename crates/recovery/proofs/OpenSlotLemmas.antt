-- Slots whose gate is open.
use Rattle.std.proofs.Common.{◌≡◌, ℕ, zero, suc, ◌<◌, Bool, true, List, Option, Some, None, refl, sym, ap, subst, ◌∙◌}
use Rattle.std.proofs.Common.{arith, if◌then◌else◌}
use Rattle.slot_disk.specs.{Closed, Whole, KnownSlotsState, slot_content, is_gate_open, known_slot_open}
use Rattle.slot_disk.specs.{shown_in, known_slots_of, slot_body}
use Rattle.checkpoint.specs.declared.header.StoreHeader.{StoreHeader}
use Rattle.checkpoint.specs.declared.settings.StoreSettings.{StoreSettings}
use Rattle.checkpoint.specs.{IsBody, SavedValue, SlotHolds, StoreHolds, span_of}
use Rattle.checkpoint.specs.declared.fault.DecodeFault.{DecodeFault}
use Rattle.checkpoint.specs.declared.fault.DecodeFault.TheVariants as decode
use Rattle.recovery.specs.StoreFault.{decode_fault}
use Rattle.recovery.specs.Reading.{IsDamaged}
use Rattle.recovery.specs.Found.{IsBodyFault}
use Rattle.checkpoint.specs.{settings_shape}

-- under an open gate a slot shows what is stored
pub open_slot_shows_stored : (settings : StoreSettings) (slot : ℕ) (image : List ℕ) → is_gate_open slot image ≡ true
    → slot_content (span_of settings) slot image ≡ shown_in (slot_body (span_of settings) slot image)
open_slot_shows_stored settings slot image gate =
    ap (λ (b : Bool). if b then shown_in (slot_body (span_of settings) slot image) else Closed) gate

-- which is not a closed slot
pub open_slot_is_not_closed : (found : Option (List ℕ)) → shown_in found ≡ Closed → ⊥
open_slot_is_not_closed None same = cc same
open_slot_is_not_closed (Some body) same = cc same

-- a slot that holds something or nothing isn't damaged
pub open_slot_is_not_damaged : (settings : StoreSettings) (slot : ℕ) (image : List ℕ) (held : Option SavedValue)
    → SlotHolds settings slot image held → IsDamaged settings slot image → ⊥
open_slot_is_not_damaged settings slot image None shut damaged =
    open_slot_is_not_closed (slot_body (span_of settings) slot image) (sym (open_slot_shows_stored settings slot image damaged.gate) ∙ shut)
open_slot_is_not_damaged settings slot image (Some saved) holds damaged = damaged.no_body saved holds

-- nor is one of a sound store
pub store_open_slot_is_sound : (header : StoreHeader) (slot : ℕ) (image : List ℕ) (first second : Option SavedValue) → slot < 2
    → StoreHolds header image first second → IsDamaged header.settings slot image → ⊥
store_open_slot_is_sound header zero image first second within holds damaged =
    open_slot_is_not_damaged header.settings 0 image first holds.first_slot damaged
store_open_slot_is_sound header (suc zero) image first second within holds damaged =
    open_slot_is_not_damaged header.settings 1 image second holds.second_slot damaged
store_open_slot_is_sound header (suc (suc slot)) image first second within holds damaged = absurd (omega (arith, within))

-- a gate that is known to be open
pub open_slot_is_known : (slots : KnownSlotsState) (slot : ℕ) (image : List ℕ) → slot < 2 → slots ≡ known_slots_of image
    → known_slot_open slots slot ≡ true → is_gate_open slot image ≡ true
open_slot_is_known slots zero image within same gate = sym (ap (λ (s : KnownSlotsState). s.first_open) same) ∙ gate
open_slot_is_known slots (suc zero) image within same gate = sym (ap (λ (s : KnownSlotsState). s.second_open) same) ∙ gate
open_slot_is_known slots (suc (suc slot)) image within same gate = absurd (omega (arith, within))

-- an open gate over bytes that are no body
pub open_slot_is_damaged : (settings : StoreSettings) (slot : ℕ) (image body : List ℕ) → is_gate_open slot image ≡ true
    → slot_body (span_of settings) slot image ≡ Some body
    → ((saved : SavedValue) → IsBody settings.shards (settings_shape settings) saved body → ⊥) → IsDamaged settings slot image
open_slot_is_damaged settings slot image body gate stored none = record {
  gate = gate;
  no_body = λ saved holds.
      let whole : Whole body ≡ Whole holds.0 = sym (open_slot_shows_stored settings slot image gate ∙ ap shown_in stored) ∙ holds.1 in
      let same : body ≡ holds.0 = cc whole in
      none saved (subst (IsBody settings.shards (settings_shape settings) saved) (sym same) holds.2);
}

-- the fault of a body that wasn't decoded
pub open_slot_fault_without_body : (settings : StoreSettings) (slot : ℕ) (image : List ℕ) (fault : DecodeFault)
    → (fault ≡ decode.Damaged → IsDamaged settings slot image) → IsBodyFault settings slot image (decode_fault fault slot)
open_slot_fault_without_body settings slot image decode.Damaged damaged = (refl, damaged refl)
open_slot_fault_without_body settings slot image decode.OutOfMemory damaged = tt
