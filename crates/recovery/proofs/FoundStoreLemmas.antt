-- The newest slot of a store, and what it opens to.
use Rattle.std.specs.Prelude.{is_some}
use Rattle.std.proofs.Common.{◌≡◌, ◌<◌, ◌≤◌, ℕ, Bool, true, false, nat_lt, if◌then◌else◌, List, Option, None, Some, IfSome, option_map}
use Rattle.std.proofs.Common.{refl, sym, ap, subst, ◌∙◌, arith}
use Rattle.prefix_lattice.specs.{RecordValue}
use Rattle.shard_state.specs.{CutValue}
use Rattle.slot_disk.specs.{CrashLeaves, CrashLeaves-trans, CrashLeaves-weaker, IsStoreOfKnown, KnownSlotsState, known_slot_open}
use Rattle.checkpoint.specs.declared.newest.Newest.{Newest}
use Rattle.checkpoint.specs.declared.header.StoreHeader.{StoreHeader}
use Rattle.checkpoint.specs.declared.saved.Saved.{Saved}
use Rattle.checkpoint.specs.declared.settings.StoreSettings.{StoreSettings}
use Rattle.checkpoint.specs.{HasNewest, IsNewestSave, IsSafeSaver, IsSaved, SavedValue, SaverState, SlotHolds, settings_shape}
use Rattle.checkpoint.specs.{header_bytes, header_digest, lists_digest, newest_in, stored_header}
use Rattle.checkpoint.specs.{newest_slot_in, store_positions, store_sequence, saved_in, saved_value, saver_of}
use Rattle.recovery.specs.Reading.{HasHeader, IsDamaged, ReadsAs, RefusesReading}
use Rattle.recovery.specs.Reopening.{RefusesNewest, OpensToBase, base_positions}
use Rattle.recovery.specs.Found.{HoldsFound, IsBodyFault, ShowsHeader}
use Rattle.recovery.specs.Found.{IsListFault, MatchesDigest, base_in_parts}
use Rattle.recovery.specs.declared.fault.OpenFault.{OpenFault}
use Rattle.recovery.specs.declared.fault.OpenFault.TheVariants as opening
use Rattle.recovery.specs.declared.store_fault.StoreFault.{StoreFault}
use Rattle.recovery.specs.declared.store_fault.StoreFault.TheVariants as reading
use Rattle.recovery.proofs.OpenSlotLemmas.{open_slot_is_not_damaged}

-- two spans of calls, neither of which leaves images that it didn't find
pub found_store_after_reads : {D : Type 0} (moment : D → ℕ) (image_since : D → ℕ → List ℕ → Type 0) (image_now : D → List ℕ → Type 0)
    → ((disk : D) (t : ℕ) (image : List ℕ) → t ≤ moment disk → image_now disk image → image_since disk t image)
    → (old mid new : D) → CrashLeaves moment image_since old mid (image_now old) → CrashLeaves moment image_since mid new (image_now mid)
    → CrashLeaves moment image_since old new (image_now old)
found_store_after_reads moment image_since image_now now_is_since old mid new first second =
    CrashLeaves-trans moment image_since old mid new (image_now old) first
    (CrashLeaves-weaker moment image_since mid new (image_now mid) (image_now old) second
    (λ image was. first.each image (now_is_since mid (moment old) image first.later was)))

-- the header that the bytes show is there
pub found_store_has_header : (settings : StoreSettings) (header : StoreHeader) (image : List ℕ) → ShowsHeader settings header image
    → HasHeader (stored_header settings image) image
found_store_has_header settings header image shows = subst (λ (h : StoreHeader). HasHeader h image) (sym shows.1) shows.0

-- a fault of slot 0
pub found_store_fault_at_zero : (settings : StoreSettings) (image : List ℕ) (fault : StoreFault)
    → HasHeader (stored_header settings image) image → IsBodyFault settings 0 image fault → RefusesReading settings image fault
found_store_fault_at_zero settings image reading.DiskFault has is = tt
found_store_fault_at_zero settings image reading.OutOfMemory has is = tt
found_store_fault_at_zero settings image reading.NotFormatted has is = absurd is
found_store_fault_at_zero settings image (reading.OtherSettings stored asked) has is = absurd is
found_store_fault_at_zero settings image (reading.Damaged slot) has is = (
  has,
  record {
    within = omega (arith, is.0);
    damaged = subst (λ (n : ℕ). IsDamaged settings n image) (sym is.0) is.1;
    first = λ earlier lt damaged. absurd (omega (arith, lt, is.0));
  },
)

-- a fault of slot 1, where slot 0 is sound
pub found_store_fault_at_one : (settings : StoreSettings) (image : List ℕ) (fault : StoreFault)
    → HasHeader (stored_header settings image) image → (held : Option SavedValue) → SlotHolds settings 0 image held → IsBodyFault settings 1 image fault
    → RefusesReading settings image fault
found_store_fault_at_one settings image reading.DiskFault has held holds is = tt
found_store_fault_at_one settings image reading.OutOfMemory has held holds is = tt
found_store_fault_at_one settings image reading.NotFormatted has held holds is = absurd is
found_store_fault_at_one settings image (reading.OtherSettings stored asked) has held holds is = absurd is
found_store_fault_at_one settings image (reading.Damaged slot) has held holds is = (
  has,
  record {
    within = omega (arith, is.0);
    damaged = subst (λ (n : ℕ). IsDamaged settings n image) (sym is.0) is.1;
    first = λ earlier lt damaged.
        let none : earlier ≡ 0 = omega (arith, lt, is.0) in
        open_slot_is_not_damaged settings 0 image held holds (subst (λ (n : ℕ). IsDamaged settings n image) none damaged);
  },
)

-- a slot that was read may have been saved
found_store_is_save_at : (settings : StoreSettings) (slots : KnownSlotsState) (last : Newest) (slot : ℕ) (saved : SavedValue) → slot < 2
    → known_slot_open slots slot ≡ true → IsSaved settings.shards (settings_shape settings) saved → Some (saved_in last) ≡ Some saved
    → last.slot ≡ slot → IsNewestSave settings slots (Some last)
found_store_is_save_at settings slots last slot saved within is_open may is at =
    let same : saved_in last ≡ saved = cc is in (
      subst (λ (n : ℕ). n < 2) (sym at) within,
      subst (λ (n : ℕ). known_slot_open slots n ≡ true) (sym at) is_open,
      subst (IsSaved settings.shards (settings_shape settings)) (sym same) may,
    )

-- what was found holds, where both slots hold what was read and the newest is the newest of these
pub found_store_holds_both : (settings : StoreSettings) (header : StoreHeader) (image : List ℕ) (first second : Option SavedValue)
    (found : Option Newest) → ShowsHeader settings header image → header.settings ≡ settings → SlotHolds settings 0 image first
    → SlotHolds settings 1 image second → option_map saved_in found ≡ newest_in first second
    → IfSome found (λ (last : Newest). last.slot ≡ newest_slot_in first second) → HoldsFound header found image
found_store_holds_both settings header image first second found shows same here there newest_is slot_is = (
  first,
  second,
  record {
    long = shows.0.long;
    header = shows.0.spelled;
    taken = shows.0.is_header.taken;
    first_slot = subst (λ (s : StoreSettings). SlotHolds s 0 image first) (sym same) here;
    second_slot = subst (λ (s : StoreSettings). SlotHolds s 1 image second) (sym same) there;
  },
  newest_is,
  slot_is,
)

-- the newest of what two slots hold may have been saved, and its gate is open
pub found_store_is_newest_save : (settings : StoreSettings) (slots : KnownSlotsState) (first second : Option Saved) (found : Option Newest)
    → is_some first ≡ known_slot_open slots 0 → is_some second ≡ known_slot_open slots 1
    → IfSome first (λ (saved : Saved). IsSaved settings.shards (settings_shape settings) (saved_value saved))
    → IfSome second (λ (saved : Saved). IsSaved settings.shards (settings_shape settings) (saved_value saved))
    → option_map saved_in found ≡ newest_in (option_map saved_value first) (option_map saved_value second)
    → IfSome found (λ (last : Newest). last.slot ≡ newest_slot_in (option_map saved_value first) (option_map saved_value second))
    → IsNewestSave settings slots found
found_store_is_newest_save settings slots None None None gate other may too is at = (sym gate, sym other)
found_store_is_newest_save settings slots None None (Some last) gate other may too is at = absurd (cc is)
found_store_is_newest_save settings slots (Some one) None None gate other may too is at = absurd (cc is)
found_store_is_newest_save settings slots (Some one) None (Some last) gate other may too is at =
    found_store_is_save_at settings slots last 0 (saved_value one) (omega arith) (sym gate) may is at
found_store_is_newest_save settings slots None (Some two) None gate other may too is at = absurd (cc is)
found_store_is_newest_save settings slots None (Some two) (Some last) gate other may too is at =
    found_store_is_save_at settings slots last 1 (saved_value two) (omega arith) (sym other) too is at
found_store_is_newest_save settings slots (Some one) (Some two) None gate other may too is at = by_test (nat_lt one.sequence two.sequence) is
  where
    by_test : (b : Bool) → None ≡ (if b then Some (saved_value two) else Some (saved_value one)) → IsNewestSave settings slots None
    by_test true none = absurd (cc none)
    by_test false none = absurd (cc none)
found_store_is_newest_save settings slots (Some one) (Some two) (Some last) gate other may too is at =
    by_test (nat_lt one.sequence two.sequence) is at
  where
    by_test : (b : Bool) → Some (saved_in last) ≡ (if b then Some (saved_value two) else Some (saved_value one))
        → last.slot ≡ (let n : ℕ = (if b then 1 else 0) in n) → IsNewestSave settings slots (Some last)
    by_test true is at = found_store_is_save_at settings slots last 1 (saved_value two) (omega arith) (sym other) too is at
    by_test false is at = found_store_is_save_at settings slots last 0 (saved_value one) (omega arith) (sym gate) may is at

-- the newest slot of a store that was found
found_store_has_newest : (header : StoreHeader) (image : List ℕ) (found : Option Newest) (last : Newest) (slot : ℕ)
    → HoldsFound header found image → found ≡ Some last → slot ≡ last.slot → HasNewest header slot (saved_in last) image
found_store_has_newest header image found last slot holds is at =
    let of_last = subst (λ (f : Option Newest). HoldsFound header f image) is holds in
    record {
      first = of_last.0;
      second = of_last.1;
      holds = of_last.2;
      newest_is = sym of_last.3;
      slot_is = sym (at ∙ of_last.4);
    }

-- a digest that was made with the bytes of the header is that of the lists
pub found_store_has_digest : (settings : StoreSettings) (header : StoreHeader) (lists : List (List RecordValue)) (image bytes digest : List ℕ)
    → ShowsHeader settings header image → bytes ≡ header_bytes header → digest ≡ header_digest bytes lists
    → digest ≡ lists_digest (stored_header settings image) lists
found_store_has_digest settings header lists image bytes digest shows spelled made =
    made ∙ ap (λ (l : List ℕ). header_digest l lists) (spelled ∙ ap header_bytes (sym shows.1))

-- a fault of the newest slot
pub list_fault_of_found_store : (settings : StoreSettings) (lists : List (List RecordValue)) (image digest : List ℕ) (found : Option Newest) (fault : OpenFault)
    → HoldsFound (stored_header settings image) found image → digest ≡ lists_digest (stored_header settings image) lists
    → IsListFault lists digest found fault
    → RefusesNewest settings lists image fault
list_fault_of_found_store settings lists image digest found opening.DiskFault holds of is = absurd is
list_fault_of_found_store settings lists image digest found opening.OutOfMemory holds of is = absurd is
list_fault_of_found_store settings lists image digest found opening.NotFormatted holds of is = absurd is
list_fault_of_found_store settings lists image digest found (opening.OtherSettings stored asked) holds of is = absurd is
list_fault_of_found_store settings lists image digest found (opening.Damaged slot) holds of is =
    (saved_in is.0, found_store_has_newest (stored_header settings image) image found is.0 slot holds is.1 is.2, is.3 ∙ of, is.4)
list_fault_of_found_store settings lists image digest found (opening.OtherCapture stored asked) holds of is =
    (is.0.slot, saved_in is.0, found_store_has_newest (stored_header settings image) image found is.0 is.0.slot holds is.1 refl, is.2, is.3 ∙ of, is.4)

-- what a store opens to whose newest slot was found
pub found_store_opens_to_base : (settings : StoreSettings) (lists : List (List RecordValue)) (image digest : List ℕ) (found : Option Newest)
    (base : Option CutValue) → HoldsFound (stored_header settings image) found image
    → digest ≡ lists_digest (stored_header settings image) lists
    → IfSome found (λ (last : Newest). MatchesDigest lists digest (saved_in last)) → base ≡ base_in_parts found
    → OpensToBase settings lists image base
found_store_opens_to_base settings lists image digest None base holds of accepted is =
    (None, (holds.0, holds.1, holds.2, sym holds.3), tt, is)
found_store_opens_to_base settings lists image digest (Some last) base holds of accepted is = (
  Some (saved_in last),
  (holds.0, holds.1, holds.2, sym holds.3),
  record { digest = accepted.digest_is ∙ of; continues = accepted.continues },
  is,
)

-- if no slot is the newest, the next save goes to slot 0
found_store_without_newest : (first second : Option SavedValue) → None ≡ newest_in first second → 1 ≡ newest_slot_in first second
found_store_without_newest None second none = refl
found_store_without_newest (Some one) None none = cc none
found_store_without_newest (Some one) (Some two) none = by_test (nat_lt one.sequence two.sequence) none
  where
    by_test : (b : Bool) → None ≡ (if b then Some two else Some one) → 1 ≡ (let n : ℕ = (if b then 1 else 0) in n)
    by_test true none = refl
    by_test false none = cc none

-- the saver of a store has its header, the digest that it was given, and the positions of the base
pub record FoundStoreSaverHas (header : StoreHeader) (digest : List ℕ) (found : Option Newest) (saver : SaverState) : Type 0 where
  pub header_is : saver.header ≡ header
  pub digest_is : saver.digest ≡ digest
  pub positions_are : saver.positions ≡ base_positions header.settings (base_in_parts found)

pub found_store_saver_has : (header : StoreHeader) (slots : KnownSlotsState) (digest : List ℕ) (found : Option Newest)
    → FoundStoreSaverHas header digest found (saver_of slots header digest found)
found_store_saver_has header slots digest None = record { header_is = refl; digest_is = refl; positions_are = refl }
found_store_saver_has header slots digest (Some last) = record { header_is = refl; digest_is = refl; positions_are = refl }

-- the disk matches what the saver of that store knows
pub found_store_saver_stands : (header : StoreHeader) (slots : KnownSlotsState) (digest : List ℕ) (found : Option Newest)
    (possible : List ℕ → Type 0) (image : List ℕ) → HoldsFound header found image → IsStoreOfKnown image possible slots
    → IsSafeSaver (saver_of slots header digest found) possible image
found_store_saver_stands header slots digest None possible image holds store = record {
  is_known = record {
    slots_are = store.slots_are;
    first = holds.0;
    second = holds.1;
    holds = holds.2;
    slot_is = found_store_without_newest holds.0 holds.1 holds.3;
    sequence_is = ap store_sequence holds.3;
    positions_are = ap (store_positions header.settings) holds.3;
  };
  only = store.only;
}
found_store_saver_stands header slots digest (Some last) possible image holds store = record {
  is_known = record {
    slots_are = store.slots_are;
    first = holds.0;
    second = holds.1;
    holds = holds.2;
    slot_is = holds.4;
    sequence_is = ap store_sequence holds.3;
    positions_are = ap (store_positions header.settings) holds.3;
  };
  only = store.only;
}

-- what a store reads as whose newest slot was found
pub found_store_reads : (settings : StoreSettings) (header : StoreHeader) (image : List ℕ) (found : Option Newest)
    → ShowsHeader settings header image → HoldsFound header found image
    → ReadsAs settings image (option_map saved_value (option_map (λ (last : Newest). last.saved) found))
found_store_reads settings header image None shows holds =
    let here = subst (λ (h : StoreHeader). HoldsFound h None image) (sym shows.1) holds in (here.0, here.1, here.2, sym here.3)
found_store_reads settings header image (Some last) shows holds =
    let here = subst (λ (h : StoreHeader). HoldsFound h (Some last) image) (sym shows.1) holds in
    (here.0, here.1, here.2, sym here.3)
