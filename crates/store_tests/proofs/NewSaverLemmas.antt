-- The saver of a store that was just made.
use Rattle.std.proofs.Common.{◌≡◌, ◌∙◌, ℕ, List, Bool, true, false, nat_lt, Option, None, Some, refl, sym, ap}
use Rattle.std.specs.Prelude.{if◌then◌else◌}
use Rattle.slot_disk.specs.{IsStoreOfKnown, KnownSlotsState, closed_known_slots}
use Rattle.checkpoint.specs.declared.settings.StoreSettings.{StoreSettings}
use Rattle.checkpoint.specs.{FormatIsEmpty, IsSafeSaver, SavedValue, header_bytes, saver_of, written_header}
use Rattle.checkpoint.specs.{newest_in, newest_slot_in, store_positions, store_sequence}

-- two closed gates and a header
pub new_saver_slots_are_closed : (slots : KnownSlotsState) (header : List ℕ) → slots.first_open ≡ false → slots.second_open ≡ false
    → slots.header ≡ header → slots ≡ closed_known_slots header
new_saver_slots_are_closed slots header first second same =
    ap (λ (b : Bool). let s : KnownSlotsState = record slots { first_open = b } in s) first
    ∙ ap (λ (b : Bool). let s : KnownSlotsState = record slots { first_open = false; second_open = b } in s) second
    ∙ ap closed_known_slots same

-- where no slot is the newest, the next save goes to slot 0
new_saver_begins_with_slot_zero : (first second : Option SavedValue) → None ≡ newest_in first second → 1 ≡ newest_slot_in first second
new_saver_begins_with_slot_zero None second none = refl
new_saver_begins_with_slot_zero (Some one) None none = cc none
new_saver_begins_with_slot_zero (Some one) (Some two) none = by_test (nat_lt one.sequence two.sequence) none
  where
    by_test : (b : Bool) → None ≡ (if b then Some two else Some one) → 1 ≡ (let n : ℕ = (if b then 1 else 0) in n)
    by_test true none = refl
    by_test false none = cc none

-- the saver of a store with no gate open
pub new_saver_stands : FormatIsEmpty → (settings : StoreSettings) (slots : KnownSlotsState) (digest : List ℕ)
    (possible : List ℕ → Type 0) (bytes : List ℕ) → slots ≡ closed_known_slots (header_bytes (written_header settings))
    → IsStoreOfKnown bytes possible slots → IsSafeSaver (saver_of slots (written_header settings) digest None) possible bytes
new_saver_stands empty settings slots digest possible bytes closed store =
    let opens = empty settings bytes store.long (sym store.slots_are ∙ closed) in
    record {
      is_known = record {
        slots_are = store.slots_are;
        first = opens.0;
        second = opens.1;
        holds = opens.2;
        slot_is = new_saver_begins_with_slot_zero opens.0 opens.1 (sym opens.3);
        sequence_is = ap store_sequence (sym opens.3);
        positions_are = ap (store_positions settings) (sym opens.3);
      };
      only = store.only;
    }
