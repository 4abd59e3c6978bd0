-- What a store opens to, and what puts into it leave.
use Rattle.std.proofs.Common.{◌≡◌, ◌⊎◌, ℕ, zero, suc, ◌+◌, ◌<◌, ◌≤◌, Bool, true, false, List, length, Option, Some}
use Rattle.std.proofs.Common.{None}
use Rattle.std.proofs.Common.{refl, sym, ap, subst, ◌∙◌, inl, inr, ⊎_elim, arith, le-ltb, lt-ltb, nat_lt, if◌then◌else◌}
use Rattle.slot_disk.specs.{Closed, Whole, closed_known_slots, slot_content, front_bytes}
use Rattle.slot_disk.specs.{other_slot_of, shown_in, known_slots_of, is_gate_open, slot_body}
use Rattle.slot_disk.specs.{number_at, KnownSlotsState, IsWhole}
use Rattle.byteorder.specs.Endian.{big_from}
use Rattle.byteorder.specs.Numbers.{big_number-reads_back}
use Rattle.slot_disk.specs.{IsReadyForPut, PutMayLeave, IsPut}
use Rattle.checkpoint.specs.declared.header.StoreHeader.{StoreHeader}
use Rattle.checkpoint.specs.declared.settings.StoreSettings.{StoreSettings}
use Rattle.checkpoint.specs.Header.{AreSettings, header_bytes, written_header}
use Rattle.checkpoint.specs.Lengths.{span_of}
use Rattle.checkpoint.specs.Saved.{SavedValue}
use Rattle.checkpoint.specs.Body.{IsBody, content_bytes}
use Rattle.checkpoint.specs.Numbers.{number_bytes}
use Rattle.checkpoint.specs.Store.{SlotHolds, StoreHolds, newest_in, newest_slot_in}
use Rattle.checkpoint.specs.Store.{IsNotNewest, OpensOldOrNew}
use Rattle.checkpoint.specs.Store.{HasNewest, store_sequence}
use Rattle.checkpoint.specs.Store.{BodiesFit, FormatIsEmpty, PutsOpenEither}
use Rattle.checkpoint.specs.Store.{PutsOpenNew}
use Rattle.checkpoint.specs.Store.{AreReady, SlotsHoldOne, OpenToOne}
use Rattle.checkpoint.proofs.BodyPartLemmas.{body_parts_fit_span, body_parts_are_long}
use Rattle.checkpoint.proofs.OneBodyLemmas.{one_body_is_short, one_body_spells_one_value}
use Rattle.checkpoint.specs.Header.{settings_shape}

-- a slot with the same content holds the same
store_slot_holds_same : (settings : StoreSettings) (slot : ℕ) (old image : List ℕ) (held : Option SavedValue)
    → slot_content (span_of settings) slot image ≡ slot_content (span_of settings) slot old
    → SlotHolds settings slot old held → SlotHolds settings slot image held
store_slot_holds_same settings slot old image None same shut = same ∙ shut
store_slot_holds_same settings slot old image (Some saved) same whole = (whole.0, same ∙ whole.1, whole.2)

-- a slot that a put was to write holds what it held, nothing, or the new body
store_slot_may_hold_new : (settings : StoreSettings) (slot : ℕ) (saved : SavedValue) (body old image : List ℕ) (held : Option SavedValue)
    → IsBody settings.shards (settings_shape settings) saved body → SlotHolds settings slot old held
    → PutMayLeave (span_of settings) slot body old image
    → SlotHolds settings slot image held ⊎ (SlotHolds settings slot image None ⊎ SlotHolds settings slot image (Some saved))
store_slot_may_hold_new settings slot saved body old image held is holds may =
    ⊎_elim (λ same. inl (store_slot_holds_same settings slot old image held same holds))
    (λ changed. inr (⊎_elim (λ shut. inl shut) (λ whole. inr (body, whole, is)) changed)) may.slot_holds

-- the later one is the newest
store_takes_later_second : (saved later : SavedValue) → saved.sequence < later.sequence
    → newest_in (Some saved) (Some later) ≡ Some later
store_takes_later_second saved later lt =
    ap (λ (b : Bool). if b then Some later else Some saved) (lt-ltb saved.sequence later.sequence lt)

store_takes_later_first : (saved other_one : SavedValue) → other_one.sequence < saved.sequence
    → newest_in (Some saved) (Some other_one) ≡ Some saved
store_takes_later_first saved other_one lt =
    ap (λ (b : Bool). if b then Some other_one else Some saved) (le-ltb saved.sequence other_one.sequence (omega (arith, lt)))

store_takes_first_slot : (saved other_one : SavedValue) → other_one.sequence < saved.sequence
    → newest_slot_in (Some saved) (Some other_one) ≡ 0
store_takes_first_slot saved other_one lt =
    ap (λ (b : Bool). let n : ℕ = (if b then 1 else 0) in n) (le-ltb saved.sequence other_one.sequence (omega (arith, lt)))

store_takes_second_slot : (saved later : SavedValue) → saved.sequence < later.sequence
    → newest_slot_in (Some saved) (Some later) ≡ 1
store_takes_second_slot saved later lt =
    ap (λ (b : Bool). let n : ℕ = (if b then 1 else 0) in n) (lt-ltb saved.sequence later.sequence lt)

-- what becomes of the newest where a slot that isn't the newest is closed, or written anew
pub record StoreIsReplaced (before closed written : Option SavedValue) (slot_written slot : ℕ) (saved : SavedValue) : Type 0 where
  pub closed_is : closed ≡ before
  pub written_is : written ≡ Some saved
  pub slot_is : slot_written ≡ slot

store_replaces_first : (first second : Option SavedValue) (saved : SavedValue) → IsNotNewest 0 first second
    → store_sequence (newest_in first second) < saved.sequence
    → StoreIsReplaced (newest_in first second) (newest_in None second) (newest_in (Some saved) second)
    (newest_slot_in (Some saved) second) 0 saved
store_replaces_first None None saved free lt = record { closed_is = refl; written_is = refl; slot_is = refl }
store_replaces_first None (Some one) saved free lt =
    record { closed_is = refl; written_is = store_takes_later_first saved one lt; slot_is = store_takes_first_slot saved one lt }
store_replaces_first (Some one) None saved free lt = absurd (⊎_elim (λ same. cc same) (λ none. cc none) free)
store_replaces_first (Some one) (Some two) saved free lt = by_test (nat_lt one.sequence two.sequence) free lt
  where
    by_test : (b : Bool) → (0 ≡ other_slot_of (if b then 1 else 0)) ⊎ ((if b then Some two else Some one) ≡ None)
        → store_sequence (if b then Some two else Some one) < saved.sequence
        → StoreIsReplaced (if b then Some two else Some one) (Some two) (newest_in (Some saved) (Some two))
        (newest_slot_in (Some saved) (Some two)) 0 saved
    by_test true free lt =
        record { closed_is = refl; written_is = store_takes_later_first saved two lt; slot_is = store_takes_first_slot saved two lt }
    by_test false free lt = absurd (⊎_elim (λ same. cc same) (λ none. cc none) free)

store_replaces_second : (first second : Option SavedValue) (saved : SavedValue) → IsNotNewest 1 first second
    → store_sequence (newest_in first second) < saved.sequence
    → StoreIsReplaced (newest_in first second) (newest_in first None) (newest_in first (Some saved))
    (newest_slot_in first (Some saved)) 1 saved
store_replaces_second None None saved free lt = record { closed_is = refl; written_is = refl; slot_is = refl }
store_replaces_second None (Some one) saved free lt = absurd (⊎_elim (λ same. cc same) (λ none. cc none) free)
store_replaces_second (Some one) None saved free lt =
    record { closed_is = refl; written_is = store_takes_later_second one saved lt; slot_is = store_takes_second_slot one saved lt }
store_replaces_second (Some one) (Some two) saved free lt = by_test (nat_lt one.sequence two.sequence) free lt
  where
    by_test : (b : Bool) → (1 ≡ other_slot_of (if b then 1 else 0)) ⊎ ((if b then Some two else Some one) ≡ None)
        → store_sequence (if b then Some two else Some one) < saved.sequence
        → StoreIsReplaced (if b then Some two else Some one) (Some one) (newest_in (Some one) (Some saved))
        (newest_slot_in (Some one) (Some saved)) 1 saved
    by_test true free lt = absurd (⊎_elim (λ same. cc same) (λ none. cc none) free)
    by_test false free lt =
        record { closed_is = refl; written_is = store_takes_later_second one saved lt; slot_is = store_takes_second_slot one saved lt }

-- slot 0 of a sound store is written: the image is as the old store, or the slot is closed, or holds the new body
store_with_first_written : (header : StoreHeader) (saved : SavedValue) (body old image : List ℕ) (first second : Option SavedValue)
    → StoreHolds header old first second → IsNotNewest 0 first second → IsBody header.settings.shards (settings_shape header.settings) saved body
    → store_sequence (newest_in first second) < saved.sequence → PutMayLeave (span_of header.settings) 0 body old image
    → OpensOldOrNew header old saved image
store_with_first_written header saved body old image first second holds free is lt may =
    let replaced = store_replaces_first first second saved free lt in
    let beside = store_slot_holds_same header.settings 1 old image second may.beside.other_slot holds.second_slot in
    let store_of : (held : Option SavedValue) → SlotHolds header.settings 0 image held → StoreHolds header image held second =
    λ held here. record {
      long = may.beside.long;
      header = may.beside.header ∙ holds.header;
      taken = holds.taken;
      first_slot = here;
      second_slot = beside;
    } in
    ⊎_elim (λ same. inl (newest_in first second, (first, second, holds, refl), (first, second, store_of first same, refl)))
    (λ changed. ⊎_elim
    (λ shut. inl (newest_in first second, (first, second, holds, refl), (None, second, store_of None shut, replaced.closed_is)))
    (λ whole. inr (Some saved, second, store_of (Some saved) whole, replaced.written_is)) changed)
    (store_slot_may_hold_new header.settings 0 saved body old image first is holds.first_slot may)

store_with_second_written : (header : StoreHeader) (saved : SavedValue) (body old image : List ℕ) (first second : Option SavedValue)
    → StoreHolds header old first second → IsNotNewest 1 first second → IsBody header.settings.shards (settings_shape header.settings) saved body
    → store_sequence (newest_in first second) < saved.sequence → PutMayLeave (span_of header.settings) 1 body old image
    → OpensOldOrNew header old saved image
store_with_second_written header saved body old image first second holds free is lt may =
    let replaced = store_replaces_second first second saved free lt in
    let beside = store_slot_holds_same header.settings 0 old image first may.beside.other_slot holds.first_slot in
    let store_of : (held : Option SavedValue) → SlotHolds header.settings 1 image held → StoreHolds header image first held =
    λ held here. record {
      long = may.beside.long;
      header = may.beside.header ∙ holds.header;
      taken = holds.taken;
      first_slot = beside;
      second_slot = here;
    } in
    ⊎_elim (λ same. inl (newest_in first second, (first, second, holds, refl), (first, second, store_of second same, refl)))
    (λ changed. ⊎_elim
    (λ shut. inl (newest_in first second, (first, second, holds, refl), (first, None, store_of None shut, replaced.closed_is)))
    (λ whole. inr (first, Some saved, store_of (Some saved) whole, replaced.written_is)) changed)
    (store_slot_may_hold_new header.settings 1 saved body old image second is holds.second_slot may)

pub stores_open_old_or_new : PutsOpenEither
stores_open_old_or_new header zero saved body old image first second within holds free is lt may =
    store_with_first_written header saved body old image first second holds free is lt may
stores_open_old_or_new header (suc zero) saved body old image first second within holds free is lt may =
    store_with_second_written header saved body old image first second holds free is lt may
stores_open_old_or_new header (suc (suc slot)) saved body old image first second within holds free is lt may =
    absurd (omega (arith, within))

-- once a put is done, the slot is the newest, and holds the new body
pub store_holds_new_body : (header : StoreHeader) (slot : ℕ) (saved : SavedValue) (body old image : List ℕ)
    (first second : Option SavedValue) → slot < 2 → StoreHolds header old first second → IsNotNewest slot first second
    → IsBody header.settings.shards (settings_shape header.settings) saved body → store_sequence (newest_in first second) < saved.sequence
    → IsPut (span_of header.settings) slot body old image → HasNewest header slot saved image
store_holds_new_body header zero saved body old image first second within holds free is lt put =
    let replaced = store_replaces_first first second saved free lt in
    let beside = store_slot_holds_same header.settings 1 old image second put.beside.other_slot holds.second_slot in
    record {
      first = Some saved;
      second = second;
      holds = record {
        long = put.beside.long;
        header = put.beside.header ∙ holds.header;
        taken = holds.taken;
        first_slot = (body, put.slot_holds, is);
        second_slot = beside;
      };
      newest_is = replaced.written_is;
      slot_is = replaced.slot_is;
    }
store_holds_new_body header (suc zero) saved body old image first second within holds free is lt put =
    let replaced = store_replaces_second first second saved free lt in
    let beside = store_slot_holds_same header.settings 0 old image first put.beside.other_slot holds.first_slot in
    record {
      first = first;
      second = Some saved;
      holds = record {
        long = put.beside.long;
        header = put.beside.header ∙ holds.header;
        taken = holds.taken;
        first_slot = beside;
        second_slot = (body, put.slot_holds, is);
      };
      newest_is = replaced.written_is;
      slot_is = replaced.slot_is;
    }
store_holds_new_body header (suc (suc slot)) saved body old image first second within holds free is lt put =
    absurd (omega (arith, within))

pub stores_open_the_new : PutsOpenNew
stores_open_the_new header slot saved body old image first second within holds free is lt put =
    let new = store_holds_new_body header slot saved body old image first second within holds free is lt put in
    (new.first, new.second, new.holds, new.newest_is)

-- a store whose gates are closed
pub closed_store_holds : (settings : StoreSettings) (image : List ℕ) → front_bytes ≤ length image
    → known_slots_of image ≡ closed_known_slots (header_bytes (written_header settings))
    → StoreHolds (written_header settings) image None None
closed_store_holds settings image long slots =
    let shut_first : is_gate_open 0 image ≡ false = ap (λ (s : KnownSlotsState). s.first_open) slots in
    let shut_second : is_gate_open 1 image ≡ false = ap (λ (s : KnownSlotsState). s.second_open) slots in
    record {
      long = long;
      header = ap (λ (s : KnownSlotsState). s.header) slots;
      taken = tt;
      first_slot = ap (λ (b : Bool). if b then shown_in (slot_body (span_of settings) 0 image) else Closed) shut_first;
      second_slot = ap (λ (b : Bool). if b then shown_in (slot_body (span_of settings) 1 image) else Closed) shut_second;
    }

pub formatted_stores_are_empty : FormatIsEmpty
formatted_stores_are_empty settings image long slots = (None, None, closed_store_holds settings image long slots, refl)

-- a slot that holds something is whole, and one that holds nothing is closed
store_slot_is_sound : (settings : StoreSettings) (slot : ℕ) (image : List ℕ) (held : Option SavedValue)
    → SlotHolds settings slot image held
    → IsWhole (slot_content (span_of settings) slot image) ⊎ (slot_content (span_of settings) slot image ≡ Closed)
store_slot_is_sound settings slot image None shut = inr shut
store_slot_is_sound settings slot image (Some saved) whole = inl (whole.0, whole.1)

-- of two slots, the one that isn't written is whole, or both are closed
store_is_ready_for_first : (header : StoreHeader) (image : List ℕ) (first second : Option SavedValue)
    → StoreHolds header image first second → IsNotNewest 0 first second → IsReadyForPut (span_of header.settings) 0 image
store_is_ready_for_first header image None None holds free =
    record { other_holds = inr (holds.second_slot, holds.first_slot); slot_holds = inr holds.first_slot }
store_is_ready_for_first header image first (Some two) holds free = record {
  other_holds = inl (holds.second_slot.0, holds.second_slot.1);
  slot_holds = store_slot_is_sound header.settings 0 image first holds.first_slot;
}
store_is_ready_for_first header image (Some one) None holds free = absurd (⊎_elim (λ same. cc same) (λ none. cc none) free)

store_is_ready_for_second : (header : StoreHeader) (image : List ℕ) (first second : Option SavedValue)
    → StoreHolds header image first second → IsNotNewest 1 first second → IsReadyForPut (span_of header.settings) 1 image
store_is_ready_for_second header image None None holds free =
    record { other_holds = inr (holds.first_slot, holds.second_slot); slot_holds = inr holds.second_slot }
store_is_ready_for_second header image (Some one) second holds free = record {
  other_holds = inl (holds.first_slot.0, holds.first_slot.1);
  slot_holds = store_slot_is_sound header.settings 1 image second holds.second_slot;
}
store_is_ready_for_second header image None (Some two) holds free = absurd (⊎_elim (λ same. cc same) (λ none. cc none) free)

pub stores_are_ready : AreReady
stores_are_ready header zero image first second within holds free = store_is_ready_for_first header image first second holds free
stores_are_ready header (suc zero) image first second within holds free =
    store_is_ready_for_second header image first second holds free
stores_are_ready header (suc (suc slot)) image first second within holds free = absurd (omega (arith, within))

-- under the settings a slot holds one thing
store_slot_holds_one : (settings : StoreSettings) (slot : ℕ) (image : List ℕ) (held again : Option SavedValue) → AreSettings settings
    → SlotHolds settings slot image held → SlotHolds settings slot image again → held ≡ again
store_slot_holds_one settings slot image None None are holds holds_again = refl
store_slot_holds_one settings slot image None (Some saved) are holds holds_again =
    let shut : Closed ≡ Whole holds_again.0 = sym holds ∙ holds_again.1 in cc shut
store_slot_holds_one settings slot image (Some saved) None are holds holds_again =
    let shut : Whole holds.0 ≡ Closed = sym holds.1 ∙ holds_again in cc shut
store_slot_holds_one settings slot image (Some saved) (Some other_one) are holds holds_again =
    let whole : Whole holds.0 ≡ Whole holds_again.0 = sym holds.1 ∙ holds_again.1 in
    let same : holds.0 ≡ holds_again.0 = cc whole in
    ap Some (one_body_spells_one_value settings saved other_one holds.0 are holds.2
    (subst (IsBody settings.shards (settings_shape settings) other_one) (sym same) holds_again.2))

pub stores_hold_one : SlotsHoldOne
stores_hold_one header image first second again other_one are holds holds_again = (
  store_slot_holds_one header.settings 0 image first again are holds.first_slot holds_again.first_slot,
  store_slot_holds_one header.settings 1 image second other_one are holds.second_slot holds_again.second_slot,
)

pub stores_open_to_one : OpenToOne
stores_open_to_one header image opened again are opens opens_again =
    let same = stores_hold_one header image opens.0 opens.1 opens_again.0 opens_again.1 are opens.2 opens_again.2 in
    sym opens.3 ∙ ap (λ (held : Option SavedValue). newest_in held opens.1) same.0
    ∙ ap (λ (held : Option SavedValue). newest_in opens_again.0 held) same.1 ∙ opens_again.3

-- a body begins with its length
store_body_says_length : (settings : StoreSettings) (saved : SavedValue) (body : List ℕ) → AreSettings settings
    → IsBody settings.shards (settings_shape settings) saved body → number_at 0 body ≡ length body
unfolding number_at number_bytes
store_body_says_length settings saved body are is =
    let long = body_parts_are_long settings.shards (settings_shape settings) saved body is in
    let short = one_body_is_short settings saved body are is in
    let count = 8 + length (content_bytes saved) in
    ap (big_from 0 8) is.spelled ∙ big_number-reads_back 8 count (content_bytes saved) (omega (arith, long.1, short)) ∙ sym long.1

pub store_has_room_for_body : BodiesFit
store_has_room_for_body settings saved body are is =
    let long = body_parts_are_long settings.shards (settings_shape settings) saved body is in
    record {
      least = omega (arith, long.0);
      most = body_parts_fit_span settings.shards (settings_shape settings) saved body is;
      says = store_body_says_length settings saved body are is;
    }
