-- What the bytes of a store open to over dealt lists, or why they are refused.
use Rattle.std.specs.Prelude.{ℕ, ◌≡◌, ◌≢◌, ◌-◌, ◌≤◌, ◌⊎◌, List, length, take, replicate, Option, None, Some, IfSome, option_map}
use Rattle.std.specs.List.{AllZip}
use Rattle.prefix_lattice.specs.{RecordValue, total_weight}
use Rattle.shard_state.specs.{CutValue, SnapshotValue, HasCoreShape, cut_positions, snapshot_total}
use Rattle.checkpoint.specs.declared.header.StoreHeader.{StoreHeader}
use Rattle.checkpoint.specs.declared.settings.StoreSettings.{StoreSettings}
use Rattle.checkpoint.specs.{AreSettings, SavedValue, HasNewest, IsStoreOf}
use Rattle.checkpoint.specs.{greatest_sequence, lists_digest, settings_shape, store_sequence, stored_header}
use Rattle.recovery.specs.OpenFault.{IsShownByBytes, open_fault}
use Rattle.recovery.specs.Reading.{ReadsAs, RefusesReading}
use Rattle.recovery.specs.declared.fault.OpenFault.{OpenFault}
use Rattle.recovery.specs.declared.fault.OpenFault.TheVariants.{DiskFault, NotFormatted, OtherSettings, Damaged}
use Rattle.recovery.specs.declared.fault.OpenFault.TheVariants.{OtherCapture, OutOfMemory}
use Rattle.recovery.specs.declared.opened.Opened.{Opened}
use Rattle.recovery.specs.declared.store_fault.StoreFault.{StoreFault}

-- the greatest sequence number that is opened, which leaves room for the saves of a run, at most 33
abbrev pub greatest_opened : ℕ
greatest_opened = greatest_sequence - 64

-- a run over a list may go on from a snapshot: its position isn't past the end, and its total is the weight of the
-- records before that position
pub record ContinuesList (snapshot : SnapshotValue) (list : List RecordValue) : Type 0 where
  pub within : snapshot.position ≤ length list
  pub counted : snapshot_total snapshot ≡ total_weight (take snapshot.position list)

-- a run over the lists of the shards may go on from a cut
abbrev pub ContinuesLists : CutValue → List (List RecordValue) → Type 0
ContinuesLists cut lists = AllZip ContinuesList cut.shards lists

-- a run over the lists may go on from what is saved: its sequence number isn't too great, and its cut allows it
pub record ContinuesFrom (saved : SavedValue) (lists : List (List RecordValue)) : Type 0 where
  pub early : saved.sequence ≤ greatest_opened
  pub continues : ContinuesLists saved.cut lists

-- the newest slot is refused for this fault over dealt lists: it has another digest than they have under the header of the
-- store, of whichever version, or has theirs and a run over them can't go on from it
abbrev pub RefusesNewest : StoreSettings → List (List RecordValue) → List ℕ → OpenFault → Type 0
RefusesNewest settings lists image (Damaged slot) =
    (saved : SavedValue) × HasNewest (stored_header settings image) slot saved image
    × (saved.digest ≡ lists_digest (stored_header settings image) lists) × (ContinuesFrom saved lists → ⊥)
RefusesNewest settings lists image (OtherCapture stored asked) =
    (slot : ℕ) × (saved : SavedValue) × HasNewest (stored_header settings image) slot saved image × (stored ≡ saved.digest)
    × (asked ≡ lists_digest (stored_header settings image) lists) × (stored ≢ asked)
RefusesNewest settings lists image DiskFault = ⊥
RefusesNewest settings lists image NotFormatted = ⊥
RefusesNewest settings lists image (OtherSettings stored asked) = ⊥
RefusesNewest settings lists image OutOfMemory = ⊥

-- the bytes are refused for this fault over dealt lists: they can't be read, for this fault, or their newest slot is
-- refused for it
abbrev pub RefusesOpening : StoreSettings → List (List RecordValue) → List ℕ → OpenFault → Type 0
RefusesOpening settings lists image fault =
    ((reading : StoreFault) × (fault ≡ open_fault reading) × RefusesReading settings image reading)
    ⊎ RefusesNewest settings lists image fault

-- what was saved has the digest of the lists under its store's header, and a run over them may go on from it
pub record MatchesLists (header : StoreHeader) (lists : List (List RecordValue)) (saved : SavedValue) : Type 0 where
  pub digest : saved.digest ≡ lists_digest header lists
  pub continues : ContinuesFrom saved lists

-- the bytes open to this base: the cut that they read as, which was saved of these lists, or none where no gate is open
abbrev pub OpensToBase : StoreSettings → List (List RecordValue) → List ℕ → Option CutValue → Type 0
OpensToBase settings lists image base =
    (opened : Option SavedValue) × ReadsAs settings image opened
    × IfSome opened (MatchesLists (stored_header settings image) lists) × (base ≡ option_map (λ saved. saved.cut) opened)

-- the positions of a base, each 0 where there is none
abbrev pub base_positions : StoreSettings → Option CutValue → List ℕ
base_positions settings None = replicate settings.shards 0
base_positions settings (Some cut) = cut_positions cut

-- a cut of the settings' shape, from which a run over the lists may go on
pub record IsBaseFor (settings : StoreSettings) (lists : List (List RecordValue)) (cut : CutValue) : Type 0 where
  pub shape : HasCoreShape settings.shards (settings_shape settings) cut
  pub continues : ContinuesLists cut lists

-- what was opened can be gone on with, whether or not the disk's bytes are known: the base may be continued from, and
-- the saver saves under a header with these settings and the digest of these lists under it, from the positions of the base on
pub record CanGoOn (settings : StoreSettings) (lists : List (List RecordValue)) (opened : Opened) : Type 0 where
  pub base : IfSome opened.base (IsBaseFor settings lists)
  pub positions_are : opened.positions ≡ base_positions settings opened.base
  pub saver_positions : opened.saver.positions ≡ opened.positions
  pub saver_settings : opened.saver.header.settings ≡ settings
  pub saver_digest : opened.saver.digest ≡ lists_digest opened.saver.header lists
  pub early : opened.saver.sequence ≤ greatest_opened

-- the bytes open to one base at most, show one fault at most, and never both
pub record IsDecided (settings : StoreSettings) (lists : List (List RecordValue)) (image : List ℕ) : Type 0 where
  pub one_base : (base other : Option CutValue) → OpensToBase settings lists image base
      → OpensToBase settings lists image other → base ≡ other
  pub one_fault : (fault other : OpenFault) → IsShownByBytes fault → IsShownByBytes other → RefusesOpening settings lists image fault
      → RefusesOpening settings lists image other → fault ≡ other
  pub not_both : (base : Option CutValue) (fault : OpenFault) → OpensToBase settings lists image base → IsShownByBytes fault
      → RefusesOpening settings lists image fault → ⊥

-- all bytes are so decided, over any dealt lists
abbrev pub AreDecided : Type 0
AreDecided = (settings : StoreSettings) (lists : List (List RecordValue)) (image : List ℕ) → AreSettings settings
    → IsDecided settings lists image

-- a store that belongs to dealt lists opens to its newest cut, where its sequence isn't too late
abbrev pub BelongingOpen : Type 0
BelongingOpen = (settings : StoreSettings) (lists : List (List RecordValue)) (image : List ℕ)
    (opened : Option SavedValue) → ReadsAs settings image opened
    → IsStoreOf (stored_header settings image) lists opened → store_sequence opened ≤ greatest_opened
    → OpensToBase settings lists image (option_map (λ saved. saved.cut) opened)
