-- Readings of bytes: they read as one thing, or are refused for one fault.
use Rattle.std.proofs.Common.{◌≡◌, ℕ, List, Option, refl, sym, ap, subst, ◌∙◌, inl, inr, arith}
use Rattle.std.specs.Prelude.{Result, Ok, Err, IfOk, IfErr, option_map}
use Rattle.std.proofs.lemmas.Bool.{cases_lt}
use Rattle.checkpoint.specs.declared.header.StoreHeader.{StoreHeader}
use Rattle.checkpoint.specs.declared.saved.Saved.{Saved}
use Rattle.checkpoint.specs.declared.settings.StoreSettings.{StoreSettings}
use Rattle.checkpoint.specs.{AreSettings, HeadersAreOne, IsStoreOf, SavedValue, ShowsItsHeader, SlotsHoldOne}
use Rattle.checkpoint.specs.{StoreOpensTo, newest_in, saved_value, stored_header}
use Rattle.recovery.specs.OpenFault.{IsShownByBytes, open_fault}
use Rattle.recovery.specs.Reading.{BelongingRead, HasHeader, HaveOneReading, IsFirstDamaged, MustRead, MustRefuse, ReadsAs}
use Rattle.recovery.specs.Reading.{RefusesReading, HasOneReading}
use Rattle.recovery.specs.declared.store_fault.StoreFault.{StoreFault}
use Rattle.recovery.specs.declared.store_fault.StoreFault.TheVariants.{DiskFault, NotFormatted, OtherSettings, Damaged}
use Rattle.recovery.specs.declared.store_fault.StoreFault.TheVariants.{OutOfMemory}
use Rattle.recovery.proofs.OpenSlotLemmas.{store_open_slot_is_sound}

module _ (spell : HeadersAreOne) (hold : SlotsHoldOne) (settings : StoreSettings) (image : List ℕ) (are : AreSettings settings) where
  reading_settings_are_stored : (one other : StoreSettings) → HasHeader (stored_header one image) image
      → HasHeader (stored_header other image) image → one ≡ other
  reading_settings_are_stored one other has again =
      ap (λ (h : StoreHeader). h.settings)
      (spell (stored_header one image) (stored_header other image) has.is_header again.is_header (sym has.spelled ∙ again.spelled))

  reading_has_header : (read : Option SavedValue) → ReadsAs settings image read → HasHeader (stored_header settings image) image
  reading_has_header read reads =
      record { long = reads.2.long; is_header = record { settings = are; taken = reads.2.taken }; spelled = reads.2.header }

  reading_is_one : (read other : Option SavedValue) → ReadsAs settings image read → ReadsAs settings image other → read ≡ other
  reading_is_one read other reads again =
      let same = hold (stored_header settings image) image reads.0 reads.1 again.0 again.1 are reads.2 again.2 in
      sym reads.3 ∙ ap (λ (held : Option SavedValue). newest_in held reads.1) same.0
      ∙ ap (λ (held : Option SavedValue). newest_in again.0 held) same.1 ∙ again.3

  reading_first_damage_is_one : (slot other : ℕ) → IsFirstDamaged settings slot image → IsFirstDamaged settings other image → slot ≡ other
  reading_first_damage_is_one slot other one two =
      elim (cases_lt slot other) [
        | inl lt ↦ absurd (two.first slot lt one.damaged)
        | inr le ↦ elim (cases_lt other slot) [
          | inl lt ↦ absurd (one.first other lt two.damaged)
          | inr again ↦ omega (arith, le, again)
        ]
      ]

  reading_settings_fault_is_one : (stored asked stored_again asked_again : StoreSettings)
      → RefusesReading settings image (OtherSettings stored asked) → RefusesReading settings image (OtherSettings stored_again asked_again)
      → OtherSettings stored asked ≡ OtherSettings stored_again asked_again
  reading_settings_fault_is_one stored asked stored_again asked_again one two =
      ap (λ (s : StoreSettings). OtherSettings s asked) (reading_settings_are_stored stored stored_again one.0 two.0)
      ∙ ap (λ (s : StoreSettings). OtherSettings stored_again s) (one.1 ∙ sym two.1)

  reading_fault_is_one : (fault other : StoreFault) → IsShownByBytes (open_fault fault) → IsShownByBytes (open_fault other)
      → RefusesReading settings image fault → RefusesReading settings image other → fault ≡ other
  reading_fault_is_one DiskFault other shown too refused again = absurd (shown.not_of_disk refl)
  reading_fault_is_one OutOfMemory other shown too refused again = absurd (shown.not_of_memory refl)
  reading_fault_is_one NotFormatted DiskFault shown too refused again = absurd (too.not_of_disk refl)
  reading_fault_is_one NotFormatted OutOfMemory shown too refused again = absurd (too.not_of_memory refl)
  reading_fault_is_one NotFormatted NotFormatted shown too refused again = refl
  reading_fault_is_one NotFormatted (OtherSettings stored asked) shown too refused again =
      absurd (refused (stored_header stored image) again.0)
  reading_fault_is_one NotFormatted (Damaged slot) shown too refused again = absurd (refused (stored_header settings image) again.0)
  reading_fault_is_one (OtherSettings stored asked) DiskFault shown too refused again = absurd (too.not_of_disk refl)
  reading_fault_is_one (OtherSettings stored asked) OutOfMemory shown too refused again = absurd (too.not_of_memory refl)
  reading_fault_is_one (OtherSettings stored asked) NotFormatted shown too refused again =
      absurd (again (stored_header stored image) refused.0)
  reading_fault_is_one (OtherSettings stored asked) (OtherSettings stored_again asked_again) shown too refused again =
      reading_settings_fault_is_one stored asked stored_again asked_again refused again
  reading_fault_is_one (OtherSettings stored asked) (Damaged slot) shown too refused again =
      absurd (refused.2 (reading_settings_are_stored stored settings refused.0 again.0))
  reading_fault_is_one (Damaged slot) DiskFault shown too refused again = absurd (too.not_of_disk refl)
  reading_fault_is_one (Damaged slot) OutOfMemory shown too refused again = absurd (too.not_of_memory refl)
  reading_fault_is_one (Damaged slot) NotFormatted shown too refused again = absurd (again (stored_header settings image) refused.0)
  reading_fault_is_one (Damaged slot) (OtherSettings stored asked) shown too refused again =
      absurd (again.2 (reading_settings_are_stored stored settings again.0 refused.0))
  reading_fault_is_one (Damaged slot) (Damaged other) shown too refused again =
      ap (λ (n : ℕ). Damaged n) (reading_first_damage_is_one slot other refused.1 again.1)

  reading_has_no_fault : (read : Option SavedValue) (fault : StoreFault) → ReadsAs settings image read
      → IsShownByBytes (open_fault fault) → RefusesReading settings image fault → ⊥
  reading_has_no_fault read DiskFault reads shown refused = shown.not_of_disk refl
  reading_has_no_fault read OutOfMemory reads shown refused = shown.not_of_memory refl
  reading_has_no_fault read NotFormatted reads shown refused =
      refused (stored_header settings image) (reading_has_header read reads)
  reading_has_no_fault read (OtherSettings stored asked) reads shown refused =
      refused.2 (reading_settings_are_stored stored settings refused.0 (reading_has_header read reads))
  reading_has_no_fault read (Damaged slot) reads shown refused =
      store_open_slot_is_sound (stored_header settings image) slot image reads.0 reads.1 refused.1.within reads.2 refused.1.damaged

pub readings_are_decided : HeadersAreOne → SlotsHoldOne → HaveOneReading
readings_are_decided spell hold settings image are = record {
  one_reading = reading_is_one spell hold settings image are;
  one_refusal = reading_fault_is_one spell hold settings image are;
  never_both = reading_has_no_fault spell hold settings image are;
}

-- so a reading answers what the bytes read as
pub reading_must_be_answered : (settings : StoreSettings) (image : List ℕ) (answer : Result (Option Saved) StoreFault)
    → HasOneReading settings image → IfOk answer (λ saved. ReadsAs settings image (option_map saved_value saved))
    → IfErr answer (RefusesReading settings image) → MustRead settings image answer
reading_must_be_answered settings image (Ok saved) decided may refused read reads =
    inr (decided.one_reading (option_map saved_value saved) read may reads)
reading_must_be_answered settings image (Err DiskFault) decided may refused read reads = inl (inl refl)
reading_must_be_answered settings image (Err OutOfMemory) decided may refused read reads = inl (inr refl)
reading_must_be_answered settings image (Err NotFormatted) decided may refused read reads =
    absurd (decided.never_both read NotFormatted reads (record { not_of_disk = λ is. cc is; not_of_memory = λ is. cc is }) refused)
reading_must_be_answered settings image (Err (OtherSettings stored asked)) decided may refused read reads =
    absurd (decided.never_both read (OtherSettings stored asked) reads
    (record { not_of_disk = λ is. cc is; not_of_memory = λ is. cc is }) refused)
reading_must_be_answered settings image (Err (Damaged slot)) decided may refused read reads =
    absurd (decided.never_both read (Damaged slot) reads (record { not_of_disk = λ is. cc is; not_of_memory = λ is. cc is }) refused)

-- or the fault that they show
pub reading_must_be_refused : (settings : StoreSettings) (image : List ℕ) (answer : Result (Option Saved) StoreFault)
    → HasOneReading settings image → IfOk answer (λ saved. ReadsAs settings image (option_map saved_value saved))
    → IfErr answer (RefusesReading settings image) → MustRefuse settings image answer
reading_must_be_refused settings image (Ok saved) decided may refused fault shown must =
    absurd (decided.never_both (option_map saved_value saved) fault may shown must)
reading_must_be_refused settings image (Err DiskFault) decided may refused fault shown must = inl (inl refl)
reading_must_be_refused settings image (Err OutOfMemory) decided may refused fault shown must = inl (inr refl)
reading_must_be_refused settings image (Err NotFormatted) decided may refused fault shown must =
    inr (ap (λ (f : StoreFault). Err f) (decided.one_refusal NotFormatted fault
    (record { not_of_disk = λ is. cc is; not_of_memory = λ is. cc is }) shown refused must))
reading_must_be_refused settings image (Err (OtherSettings stored asked)) decided may refused fault shown must =
    inr (ap (λ (f : StoreFault). Err f) (decided.one_refusal (OtherSettings stored asked) fault
    (record { not_of_disk = λ is. cc is; not_of_memory = λ is. cc is }) shown refused must))
reading_must_be_refused settings image (Err (Damaged slot)) decided may refused fault shown must =
    inr (ap (λ (f : StoreFault). Err f) (decided.one_refusal (Damaged slot) fault
    (record { not_of_disk = λ is. cc is; not_of_memory = λ is. cc is }) shown refused must))

-- a store that belongs to lists is read
pub belonging_reading : ShowsItsHeader → BelongingRead
belonging_reading shows header lists image opened opens of =
    let same = sym (shows header image opens.2.header) in (
      subst (λ (h : StoreHeader). StoreOpensTo h image opened) same opens,
      subst (λ (h : StoreHeader). IsStoreOf h lists opened) same of,
    )
