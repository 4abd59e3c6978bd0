-- Bytes open to one base, or are refused for one fault.
use Rattle.std.proofs.Common.{◌≡◌, ℕ, List, Option, Some, IfSome, sym, ap, subst, ◌∙◌, inl, inr}
use Rattle.std.specs.Prelude.{option_map}
use Rattle.prefix_lattice.specs.{RecordValue}
use Rattle.shard_state.specs.{CutValue}
use Rattle.checkpoint.specs.declared.header.StoreHeader.{StoreHeader}
use Rattle.checkpoint.specs.declared.settings.StoreSettings.{StoreSettings}
use Rattle.checkpoint.specs.{AreSettings, HasNewest, HeadersAreOne, SavedValue}
use Rattle.checkpoint.specs.{SlotsHoldOne, newest_in, newest_slot_in, stored_header}
use Rattle.recovery.specs.OpenFault.{IsShownByBytes, open_fault}
use Rattle.recovery.specs.Reading.{HasOneReading, ReadsAs, RefusesReading}
use Rattle.recovery.specs.Reopening.{AreDecided, MatchesLists, OpensToBase, RefusesNewest, RefusesOpening}
use Rattle.recovery.specs.declared.fault.OpenFault.{OpenFault}
use Rattle.recovery.specs.declared.fault.OpenFault.TheVariants.{DiskFault, NotFormatted, OtherSettings, Damaged}
use Rattle.recovery.specs.declared.fault.OpenFault.TheVariants.{OtherCapture, OutOfMemory}
use Rattle.recovery.specs.declared.store_fault.StoreFault.{StoreFault}
use Rattle.recovery.proofs.ReadingLemmas.{readings_are_decided}

module _ (spell : HeadersAreOne) (hold : SlotsHoldOne) (settings : StoreSettings) (lists : List (List RecordValue))
    (image : List ℕ) (are : AreSettings settings) where
  -- the header of the store, if it has these settings
  abbrev header : StoreHeader
  header = stored_header settings image

  decided_reading : HasOneReading settings image
  decided_reading = readings_are_decided spell hold settings image are

  -- which slot is the newest, and what it holds
  decided_newest_is_same : (slot other : ℕ) (saved later : SavedValue) → HasNewest header slot saved image
      → HasNewest header other later image → (slot ≡ other) × (saved ≡ later)
  decided_newest_is_same slot other saved later has again =
      let same = hold header image has.first has.second again.first again.second are has.holds again.holds in
      let slots : newest_slot_in has.first has.second ≡ newest_slot_in again.first again.second =
      ap (λ (held : Option SavedValue). newest_slot_in held has.second) same.0
      ∙ ap (λ (held : Option SavedValue). newest_slot_in again.first held) same.1 in
      let held : newest_in has.first has.second ≡ newest_in again.first again.second =
      ap (λ (held : Option SavedValue). newest_in held has.second) same.0
      ∙ ap (λ (held : Option SavedValue). newest_in again.first held) same.1 in
      let found : Some saved ≡ Some later = sym has.newest_is ∙ held ∙ again.newest_is in (
        sym has.slot_is ∙ slots ∙ again.slot_is,
        cc found,
      )

  -- what is refused for its newest slot is read
  abbrev decided_newest_is_read : (fault : OpenFault) → RefusesNewest settings lists image fault
      → (read : Option SavedValue) × ReadsAs settings image read
  decided_newest_is_read DiskFault refused = absurd refused
  decided_newest_is_read NotFormatted refused = absurd refused
  decided_newest_is_read (OtherSettings stored asked) refused = absurd refused
  decided_newest_is_read OutOfMemory refused = absurd refused
  decided_newest_is_read (Damaged slot) refused =
      (Some refused.0, (refused.1.first, refused.1.second, refused.1.holds, refused.1.newest_is))
  decided_newest_is_read (OtherCapture stored asked) refused =
      (Some refused.1, (refused.2.first, refused.2.second, refused.2.holds, refused.2.newest_is))

  -- so it isn't refused as one that can't be read
  decided_newest_or_reading : (fault other : OpenFault) → IsShownByBytes other → RefusesNewest settings lists image fault
      → (reading : StoreFault) → other ≡ open_fault reading → RefusesReading settings image reading → ⊥
  decided_newest_or_reading fault other shown refused reading is unread =
      let read = decided_newest_is_read fault refused in
      decided_reading.never_both read.0 reading read.1 (subst IsShownByBytes is shown) unread

  decided_damage_or_capture : (slot : ℕ) (stored asked : List ℕ) → RefusesNewest settings lists image (Damaged slot)
      → RefusesNewest settings lists image (OtherCapture stored asked) → ⊥
  decided_damage_or_capture slot stored asked past capture =
      let same = decided_newest_is_same slot capture.0 past.0 capture.1 past.1 capture.2 in
      capture.5 (capture.3 ∙ sym (ap (λ (s : SavedValue). s.digest) same.1) ∙ past.2 ∙ sym capture.4)

  decided_capture_is_same : (stored asked stored_again asked_again : List ℕ) → RefusesNewest settings lists image (OtherCapture stored asked)
      → RefusesNewest settings lists image (OtherCapture stored_again asked_again)
      → OtherCapture stored asked ≡ OtherCapture stored_again asked_again
  decided_capture_is_same stored asked stored_again asked_again one two =
      let same = decided_newest_is_same one.0 two.0 one.1 two.1 one.2 two.2 in
      let first : stored ≡ stored_again = one.3 ∙ ap (λ (s : SavedValue). s.digest) same.1 ∙ sym two.3 in
      let second : asked ≡ asked_again = one.4 ∙ sym two.4 in
      ap (λ (l : List ℕ). OtherCapture l asked) first ∙ ap (λ (l : List ℕ). OtherCapture stored_again l) second

  decided_newest_fault_is_same : (fault other : OpenFault) → RefusesNewest settings lists image fault
      → RefusesNewest settings lists image other → fault ≡ other
  decided_newest_fault_is_same DiskFault other refused again = absurd refused
  decided_newest_fault_is_same NotFormatted other refused again = absurd refused
  decided_newest_fault_is_same (OtherSettings stored asked) other refused again = absurd refused
  decided_newest_fault_is_same OutOfMemory other refused again = absurd refused
  decided_newest_fault_is_same (Damaged slot) DiskFault refused again = absurd again
  decided_newest_fault_is_same (Damaged slot) NotFormatted refused again = absurd again
  decided_newest_fault_is_same (Damaged slot) (OtherSettings stored asked) refused again = absurd again
  decided_newest_fault_is_same (Damaged slot) OutOfMemory refused again = absurd again
  decided_newest_fault_is_same (Damaged slot) (Damaged other) refused again =
      ap (λ (n : ℕ). Damaged n) (decided_newest_is_same slot other refused.0 again.0 refused.1 again.1).0
  decided_newest_fault_is_same (Damaged slot) (OtherCapture stored asked) refused again =
      absurd (decided_damage_or_capture slot stored asked refused again)
  decided_newest_fault_is_same (OtherCapture stored asked) DiskFault refused again = absurd again
  decided_newest_fault_is_same (OtherCapture stored asked) NotFormatted refused again = absurd again
  decided_newest_fault_is_same (OtherCapture stored asked) (OtherSettings other_stored other_asked) refused again = absurd again
  decided_newest_fault_is_same (OtherCapture stored asked) OutOfMemory refused again = absurd again
  decided_newest_fault_is_same (OtherCapture stored asked) (Damaged slot) refused again =
      absurd (decided_damage_or_capture slot stored asked again refused)
  decided_newest_fault_is_same (OtherCapture stored asked) (OtherCapture stored_again asked_again) refused again =
      decided_capture_is_same stored asked stored_again asked_again refused again

  one_fault : (fault other : OpenFault) → IsShownByBytes fault → IsShownByBytes other → RefusesOpening settings lists image fault
      → RefusesOpening settings lists image other → fault ≡ other
  one_fault fault other shown too (inl unread) (inl again) =
      unread.1
      ∙ ap open_fault (decided_reading.one_refusal unread.0 again.0 (subst IsShownByBytes unread.1 shown)
      (subst IsShownByBytes again.1 too) unread.2 again.2)
      ∙ sym again.1
  one_fault fault other shown too (inl unread) (inr again) =
      absurd (decided_newest_or_reading other fault shown again unread.0 unread.1 unread.2)
  one_fault fault other shown too (inr refused) (inl unread) =
      absurd (decided_newest_or_reading fault other too refused unread.0 unread.1 unread.2)
  one_fault fault other shown too (inr refused) (inr again) = decided_newest_fault_is_same fault other refused again

  not_both : (base : Option CutValue) (fault : OpenFault) → OpensToBase settings lists image base → IsShownByBytes fault
      → RefusesOpening settings lists image fault → ⊥
  not_both base fault opens shown (inl unread) =
      decided_reading.never_both opens.0 unread.0 opens.1 (subst IsShownByBytes unread.1 shown) unread.2
  not_both base DiskFault opens shown (inr refused) = refused
  not_both base NotFormatted opens shown (inr refused) = refused
  not_both base (OtherSettings stored asked) opens shown (inr refused) = refused
  not_both base OutOfMemory opens shown (inr refused) = refused
  not_both base (Damaged slot) opens shown (inr past) =
      let read = decided_newest_is_read (Damaged slot) past in
      let is = decided_reading.one_reading opens.0 read.0 opens.1 read.1 in
      let of : MatchesLists header lists past.0 = subst (λ (held : Option SavedValue). IfSome held (MatchesLists header lists)) is
      opens.2 in
      past.3 of.continues
  not_both base (OtherCapture stored asked) opens shown (inr capture) =
      let read = decided_newest_is_read (OtherCapture stored asked) capture in
      let is = decided_reading.one_reading opens.0 read.0 opens.1 read.1 in
      let of : MatchesLists header lists capture.1 = subst (λ (held : Option SavedValue). IfSome held (MatchesLists header lists)) is
      opens.2 in
      capture.5 (capture.3 ∙ of.digest ∙ sym capture.4)

  one_base : (base other : Option CutValue) → OpensToBase settings lists image base
      → OpensToBase settings lists image other → base ≡ other
  one_base base other opens again =
      let held = decided_reading.one_reading opens.0 again.0 opens.1 again.1 in
      opens.3 ∙ ap (λ (held : Option SavedValue). option_map (λ (s : SavedValue). s.cut) held) held ∙ sym again.3

pub openings_are_decided : HeadersAreOne → SlotsHoldOne → AreDecided
openings_are_decided spell hold header lists image are = record {
  one_base = one_base spell hold header lists image are;
  one_fault = one_fault spell hold header lists image are;
  not_both = not_both spell hold header lists image are;
}
