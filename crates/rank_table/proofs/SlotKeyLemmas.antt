-- The keys of slots.
use Rattle.std.proofs.Common.{◌≡◌, ◌≢◌, ℕ, ◌<◌, List, [], ◌∷◌, length, map, get_or, set, slice_get, All, Some, sym, ap}
use Rattle.std.proofs.Common.{◌∙◌, arith, get_or-set_same}
use Rattle.std.specs.List.{AllByRecursion}
use Rattle.std.proofs.lemmas.List.{length-map, map-set, set-get_or, get_or-map}
use Rattle.std.proofs.lemmas.List.Elements.{recursion_from_All}
use Rattle.std.proofs.lemmas.Option.{slice_get_within, get_or_from_slice_get}
use Rattle.rank_table.specs.declared.slot.Slot.{Slot}
use Rattle.rank_table.specs.Slot.{Slots, slot_keys}

-- the key of a slot
abbrev pub slot_key : Slot → ℕ
slot_key slot = slot.entry.key

-- a key that is not among the keys is no slot's
missing_slot_key_in_map : (key : ℕ) (slots : List Slot) → AllByRecursion (λ other. other ≢ key) (map slot_key slots)
    → AllByRecursion (λ slot. slot.entry.key ≢ key) slots
missing_slot_key_in_map key [] missing = tt
missing_slot_key_in_map key (first ∷ rest) missing = (missing.0, missing_slot_key_in_map key rest missing.1)

pub missing_key_has_no_slot : (key : ℕ) (slots : List Slot) → All (λ other. other ≢ key) (slot_keys slots)
    → AllByRecursion (λ slot. slot.entry.key ≢ key) slots
missing_key_has_no_slot key slots missing = missing_slot_key_in_map key slots (recursion_from_All (λ other. other ≢ key) (slot_keys slots) missing)

-- the place of a key is that of a slot
pub slot_key_place_is_within : (key place : ℕ) (slots : List Slot) → slice_get (slot_keys slots) place ≡ Some key → place < length slots
slot_key_place_is_within key place slots found =
    let within : place < length (slot_keys slots) = slice_get_within (slot_keys slots) place key found in
    omega (arith, length-map slots slot_key)

pub slot_key_at_its_place : (key place : ℕ) (slots : List Slot) (d : Slot) → slice_get (slot_keys slots) place ≡ Some key
    → (get_or slots place d).entry.key ≡ key
slot_key_at_its_place key place slots d found =
    sym (get_or-map slot_key slots place d 0 (slot_key_place_is_within key place slots found))
    ∙ get_or_from_slice_get (slot_keys slots) place key 0 found

-- a slot that changes and keeps its key
pub slot_keys_stay_on_set : (place : ℕ) (slots : List Slot) (slot d : Slot) → place < length slots
    → slot.entry.key ≡ (get_or slots place d).entry.key → slot_keys (set slots place slot) ≡ slot_keys slots
slot_keys_stay_on_set place slots slot d within same =
    map-set slot_key slots place slot ∙ ap (set (slot_keys slots) place) (same ∙ sym (get_or-map slot_key slots place d 0 within))
    ∙ set-get_or (slot_keys slots) place 0

-- a slot that changes and gets this key, as it is seen in the slots that are lent before and after
pub slot_keys_on_change : (place key : ℕ) (lent after : List Slot) (ranked raised : Slots) (slot : Slot) → lent ≡ ranked.slots
    → raised ≡ record ranked { slots = set ranked.slots place slot } → after ≡ raised.slots → slot.entry.key ≡ key
    → slot_keys after ≡ set (slot_keys lent) place key
slot_keys_on_change place key lent after ranked raised slot before is behind has =
    ap slot_keys (behind ∙ ap (λ (r : Slots). r.slots) is) ∙ map-set slot_key ranked.slots place slot
    ∙ ap (set (slot_keys ranked.slots) place) has ∙ ap (λ l. set (slot_keys l) place key) (sym before)

-- and the key at its place
pub slot_key_on_change : (place key : ℕ) (lent after : List Slot) (ranked raised : Slots) (slot : Slot) → lent ≡ ranked.slots
    → raised ≡ record ranked { slots = set ranked.slots place slot } → after ≡ raised.slots → slot.entry.key ≡ key → place < length ranked.slots
    → get_or (slot_keys after) place 0 ≡ key
slot_key_on_change place key lent after ranked raised slot before is behind has within =
    ap (λ keys. get_or keys place 0) (slot_keys_on_change place key lent after ranked raised slot before is behind has)
    ∙ get_or-set_same (slot_keys lent) place key 0 (omega (arith, within, ap length before, length-map lent slot_key))
