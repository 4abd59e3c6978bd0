-- What the stores of several sites read as, or why they are refused.
use Rattle.std.specs.Prelude.{ℕ, ◌≡◌, ◌≢◌, ◌+◌, ◌≤◌, ⊤, List, take, slice_get, All, Option, Some, length}
use Rattle.std.specs.List.{AllZip}
use Rattle.prefix_lattice.specs.{RecordValue}
use Rattle.slot_disk.specs.{IfImageKnown}
use Rattle.checkpoint.specs.declared.settings.StoreSettings.{StoreSettings}
use Rattle.checkpoint.specs.{SavedValue, StoreBelongs, stored_header}
use Rattle.recovery.specs.declared.store_fault.StoreFault.{StoreFault}
use Rattle.recovery.specs.declared.store_fault.StoreFault.TheVariants as store
use Rattle.recovery.specs.{ReadsAs, RefusesReading}
use Rattle.site_merge.specs.SiteCut.{IsReadStore, site_weight, weight_limit}
use Rattle.site_merge.specs.OneCapture.{AreFirstOfOneCapture, AreOfOtherCaptures}
use Rattle.site_merge.specs.declared.fault.SiteFault.{SiteFault}
use Rattle.site_merge.specs.declared.fault.SiteFault.TheVariants.{DiskFault, NotFormatted, OtherSettings, Damaged}
use Rattle.site_merge.specs.declared.fault.SiteFault.TheVariants.{SameCapture, TooHeavy, OutOfMemory}

-- the store of a site reads as this, which can be in one of these settings, where its bytes are known
pub record SiteReadsAs (settings : StoreSettings) (reads : Option (List ℕ)) (store : Option SavedValue) : Type 0 where
  pub is_read : IsReadStore settings store
  pub bytes : IfImageKnown reads (λ image. ReadsAs settings image store)

-- the stores of the sites read as these, in their order
abbrev pub SitesReadAs : StoreSettings → List (Option (List ℕ)) → List (Option SavedValue) → Type 0
SitesReadAs settings reads sites = AllZip (SiteReadsAs settings) reads sites

-- the store of the site at this place, from 0, is refused for this fault, and those of all sites before it are read
pub record IsFirstRefused (settings : StoreSettings) (reads : List (Option (List ℕ))) (place : ℕ) (fault : StoreFault) : Type 0
  where
    pub earlier : List (Option SavedValue)
    pub are_read : SitesReadAs settings (take place reads) earlier
    pub read : Option (List ℕ)
    pub read_is : slice_get reads place ≡ Some read
    pub refused : IfImageKnown read (λ image. RefusesReading settings image fault)

-- the same of the site with this number, from 1
abbrev pub IsFirstRefusedSite : StoreSettings → List (Option (List ℕ)) → ℕ → StoreFault → Type 0
IsFirstRefusedSite settings reads site fault = (place : ℕ) × (site ≡ place + 1) × IsFirstRefused settings reads place fault

-- why the stores of several sites are refused: the first of them that is refused by itself, else the first two that counted
-- one capture, else the weight of all. That memory runs out says nothing about them
abbrev pub RefusesSites : StoreSettings → List (Option (List ℕ)) → SiteFault → Type 0
RefusesSites settings reads (DiskFault site) = IsFirstRefusedSite settings reads site store.DiskFault
RefusesSites settings reads (NotFormatted site) = IsFirstRefusedSite settings reads site store.NotFormatted
RefusesSites settings reads (OtherSettings site stored asked) =
    IsFirstRefusedSite settings reads site (store.OtherSettings stored asked)
RefusesSites settings reads (Damaged site slot) = IsFirstRefusedSite settings reads site (store.Damaged slot)
RefusesSites settings reads (SameCapture first second) =
    (sites : List (Option SavedValue)) × SitesReadAs settings reads sites × AreFirstOfOneCapture sites first second
RefusesSites settings reads (TooHeavy total) =
    (sites : List (Option SavedValue)) × SitesReadAs settings reads sites × AreOfOtherCaptures sites
    × (total ≡ site_weight sites) × (weight_limit ≤ total)
RefusesSites settings reads OutOfMemory = ⊤

-- the fault of a site whose store is refused for this one
abbrev pub fault_at : ℕ → StoreFault → SiteFault
fault_at site store.DiskFault = DiskFault site
fault_at site store.NotFormatted = NotFormatted site
fault_at site (store.OtherSettings stored asked) = OtherSettings site stored asked
fault_at site (store.Damaged slot) = Damaged site slot
fault_at site store.OutOfMemory = OutOfMemory

-- the store of a site belongs to these lists, one for each shard, whose records all weigh something
pub record SiteBelongs (settings : StoreSettings) (reads : Option (List ℕ)) (lists : List (List RecordValue)) : Type 0 where
  pub image : List ℕ
  pub is_read : reads ≡ Some image
  pub as_many : length lists ≡ settings.shards
  pub belongs : StoreBelongs (stored_header settings image) lists image
  pub weighed : All (λ list. All (λ rec. 1 ≤ rec.weight) list) lists

-- the store of each site belongs to its lists
abbrev pub SitesBelong : StoreSettings → List (Option (List ℕ)) → List (List (List RecordValue)) → Type 0
SitesBelong settings reads dealt = AllZip (SiteBelongs settings) reads dealt

-- a fault that the bytes of the sites show: none of a disk, and not that memory ran out
pub record IsShownBySites (fault : SiteFault) : Type 0 where
  pub not_of_disk : (site : ℕ) → fault ≢ DiskFault site
  pub not_of_memory : fault ≢ OutOfMemory
