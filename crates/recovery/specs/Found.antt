-- What the parts of opening a store give, which no public contract cites.
use Rattle.std.specs.Prelude.{ℕ, ◌≡◌, ◌≢◌, ⊤, List, Option, Some, IfSome, option_map}
use Rattle.prefix_lattice.specs.{RecordValue}
use Rattle.shard_state.specs.{CutValue}
use Rattle.checkpoint.specs.declared.newest.Newest.{Newest}
use Rattle.checkpoint.specs.declared.header.StoreHeader.{StoreHeader}
use Rattle.checkpoint.specs.declared.settings.StoreSettings.{StoreSettings}
use Rattle.checkpoint.specs.{SavedValue, StoreHolds, newest_in, newest_slot_in, saved_in, stored_header}
use Rattle.recovery.specs.Reading.{HasHeader, IsDamaged, RefusesReading}
use Rattle.recovery.specs.Reopening.{ContinuesFrom}
use Rattle.recovery.specs.declared.fault.OpenFault.{OpenFault}
use Rattle.recovery.specs.declared.fault.OpenFault.TheVariants as opening
use Rattle.recovery.specs.declared.store_fault.StoreFault.{StoreFault}
use Rattle.recovery.specs.declared.store_fault.StoreFault.TheVariants as reading

-- the gates and the header are refused for this fault
abbrev pub IsFrontFault : StoreSettings → List ℕ → StoreFault → Type 0
IsFrontFault settings image reading.DiskFault = ⊤
IsFrontFault settings image reading.NotFormatted = RefusesReading settings image reading.NotFormatted
IsFrontFault settings image (reading.OtherSettings stored asked) = RefusesReading settings image (reading.OtherSettings stored asked)
IsFrontFault settings image (reading.Damaged slot) = ⊥
IsFrontFault settings image reading.OutOfMemory = ⊥

-- a slot is refused for this fault
abbrev pub IsBodyFault : StoreSettings → ℕ → List ℕ → StoreFault → Type 0
IsBodyFault settings slot image reading.DiskFault = ⊤
IsBodyFault settings slot image reading.NotFormatted = ⊥
IsBodyFault settings slot image (reading.OtherSettings stored asked) = ⊥
IsBodyFault settings slot image (reading.Damaged at) = (at ≡ slot) × IsDamaged settings slot image
IsBodyFault settings slot image reading.OutOfMemory = ⊤

-- what is saved has this digest, and may be continued from over the lists
pub record MatchesDigest (lists : List (List RecordValue)) (digest : List ℕ) (saved : SavedValue) : Type 0 where
  pub digest_is : saved.digest ≡ digest
  pub continues : ContinuesFrom saved lists

-- the newest slot is refused for this fault, over lists with this digest
abbrev pub IsListFault : List (List RecordValue) → List ℕ → Option Newest → OpenFault → Type 0
IsListFault lists digest found opening.DiskFault = ⊥
IsListFault lists digest found opening.NotFormatted = ⊥
IsListFault lists digest found (opening.OtherSettings stored asked) = ⊥
IsListFault lists digest found (opening.Damaged slot) =
    (last : Newest) × (found ≡ Some last) × (slot ≡ last.slot) × (last.saved.digest ≡ digest)
    × (ContinuesFrom (saved_in last) lists → ⊥)
IsListFault lists digest found (opening.OtherCapture stored asked) =
    (last : Newest) × (found ≡ Some last) × (stored ≡ last.saved.digest) × (asked ≡ digest) × (stored ≢ asked)
IsListFault lists digest found opening.OutOfMemory = ⊥

-- the bytes have this header, and it is the one that they show under the settings
abbrev pub ShowsHeader : StoreSettings → StoreHeader → List ℕ → Type 0
ShowsHeader settings header image = HasHeader header image × (stored_header settings image ≡ header)

-- this is the newest slot of a store with this header
abbrev pub HoldsFound : StoreHeader → Option Newest → List ℕ → Type 0
HoldsFound header found image =
    (first : Option SavedValue) × (second : Option SavedValue) × StoreHolds header image first second
    × (option_map saved_in found ≡ newest_in first second) × IfSome found (λ last. last.slot ≡ newest_slot_in first second)

-- the cut of the newest slot
abbrev pub base_in_parts : Option Newest → Option CutValue
base_in_parts found = option_map (λ last. last.saved.cut) found
