-- What the bytes of a store read as, or why they are refused.
use Rattle.std.specs.Prelude.{ℕ, ◌≡◌, ◌≢◌, ◌<◌, ◌≤◌, ◌⊎◌, ◌||◌, ⊤, Bool, true, List, length, Option, Some, option_map}
use Rattle.std.specs.Prelude.{Result, IsErrOf, IsOkAnd}
use Rattle.prefix_lattice.specs.{RecordValue}
use Rattle.slot_disk.specs.{front_bytes, slot_header, is_gate_open}
use Rattle.checkpoint.specs.declared.header.StoreHeader.{StoreHeader}
use Rattle.checkpoint.specs.declared.settings.StoreSettings.{StoreSettings}
use Rattle.checkpoint.specs.declared.saved.Saved.{Saved}
use Rattle.checkpoint.specs.{AreSettings, IsHeader, IsStoreOf, SavedValue, SlotHolds, StoreOpensTo}
use Rattle.checkpoint.specs.{header_bytes, saved_value, stored_header}
use Rattle.recovery.specs.OpenFault.{IsShownByBytes, open_fault}
use Rattle.recovery.specs.declared.store_fault.StoreFault.{StoreFault}
use Rattle.recovery.specs.declared.store_fault.StoreFault.TheVariants.{DiskFault, NotFormatted, OtherSettings, Damaged}
use Rattle.recovery.specs.declared.store_fault.StoreFault.TheVariants.{OutOfMemory}

-- the bytes have this header
pub record HasHeader (header : StoreHeader) (image : List ℕ) : Type 0 where
  pub long : front_bytes ≤ length image
  pub is_header : IsHeader header
  pub spelled : slot_header image ≡ header_bytes header

-- the gate of a slot is open, and under it is no body of these settings
pub record IsDamaged (settings : StoreSettings) (slot : ℕ) (image : List ℕ) : Type 0 where
  pub gate : is_gate_open slot image ≡ true
  pub no_body : (saved : SavedValue) → SlotHolds settings slot image (Some saved) → ⊥

-- the slot is the first of the two with an open gate over no body
pub record IsFirstDamaged (settings : StoreSettings) (slot : ℕ) (image : List ℕ) : Type 0 where
  pub within : slot < 2
  pub damaged : IsDamaged settings slot image
  pub first : (earlier : ℕ) → earlier < slot → IsDamaged settings earlier image → ⊥

-- whether a gate is open
abbrev pub has_open_gate : List ℕ → Bool
has_open_gate image = is_gate_open 0 image || is_gate_open 1 image

-- the bytes are a store of these settings, of either version, and read as this: what its newest slot holds, or nothing
-- where no gate is open
abbrev pub ReadsAs : StoreSettings → List ℕ → Option SavedValue → Type 0
ReadsAs settings image read = StoreOpensTo (stored_header settings image) image read

-- the bytes are refused for this fault under the settings. A fault of the disk and running out of memory say nothing
-- about them
abbrev pub RefusesReading : StoreSettings → List ℕ → StoreFault → Type 0
RefusesReading settings image DiskFault = ⊤
RefusesReading settings image NotFormatted = (header : StoreHeader) → HasHeader header image → ⊥
RefusesReading settings image (OtherSettings stored asked) =
    HasHeader (stored_header stored image) image × (asked ≡ settings) × (stored ≢ settings)
RefusesReading settings image (Damaged slot) = HasHeader (stored_header settings image) image × IsFirstDamaged settings slot image
RefusesReading settings image OutOfMemory = ⊤

-- the disk or memory failed, so the answer says nothing about the bytes
abbrev pub WasStopped : Result (Option Saved) StoreFault → Type 0
WasStopped answer = IsErrOf answer DiskFault ⊎ IsErrOf answer OutOfMemory

-- unless the reading was stopped, what the bytes read as is the answer
abbrev pub MustRead : StoreSettings → List ℕ → Result (Option Saved) StoreFault → Type 0
MustRead settings image answer = (read : Option SavedValue) → ReadsAs settings image read
    → WasStopped answer ⊎ IsOkAnd answer (λ saved. option_map saved_value saved ≡ read)

-- unless the reading was stopped, a fault that the bytes show is the answer
abbrev pub MustRefuse : StoreSettings → List ℕ → Result (Option Saved) StoreFault → Type 0
MustRefuse settings image answer = (fault : StoreFault) → IsShownByBytes (open_fault fault) → RefusesReading settings image fault
    → WasStopped answer ⊎ IsErrOf answer fault

-- the bytes read as one thing at most, show one fault at most, and never both
pub record HasOneReading (settings : StoreSettings) (image : List ℕ) : Type 0 where
  pub one_reading : (read other : Option SavedValue) → ReadsAs settings image read → ReadsAs settings image other → read ≡ other
  pub one_refusal : (fault other : StoreFault) → IsShownByBytes (open_fault fault) → IsShownByBytes (open_fault other)
      → RefusesReading settings image fault → RefusesReading settings image other → fault ≡ other
  pub never_both : (read : Option SavedValue) (fault : StoreFault) → ReadsAs settings image read → IsShownByBytes (open_fault fault)
      → RefusesReading settings image fault → ⊥

-- so it is with all bytes, under any settings
abbrev pub HaveOneReading : Type 0
HaveOneReading = (settings : StoreSettings) (image : List ℕ) → AreSettings settings → HasOneReading settings image

-- a store that belongs to dealt lists reads as what it opens to, which belongs to them, whichever version its header
-- has and however late its newest sequence is
abbrev pub BelongingRead : Type 0
BelongingRead = (header : StoreHeader) (lists : List (List RecordValue)) (image : List ℕ) (opened : Option SavedValue)
    → StoreOpensTo header image opened → IsStoreOf header lists opened
    → ReadsAs header.settings image opened × IsStoreOf (stored_header header.settings image) lists opened
