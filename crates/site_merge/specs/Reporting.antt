-- The report of several sites.
use Rattle.std.specs.Prelude.{ℕ, ◌≡◌, ◌<◌, ◌⊎◌, List, map, length, Option, Some, Result, IsErrOf, IsOkAnd}
use Rattle.hhh_report.specs.{AreOfGrain}
use Rattle.hhh_output.specs.{IsReportOf}
use Rattle.checkpoint.specs.declared.settings.StoreSettings.{StoreSettings}
use Rattle.checkpoint.specs.{AreSettings, SavedValue}
use Rattle.site_merge.specs.SiteCut.{site_cut, site_weight, weight_limit}
use Rattle.site_merge.specs.OneCapture.{AreOfOtherCaptures}
use Rattle.site_merge.specs.Sites.{IsShownBySites, RefusesSites, SitesReadAs}
use Rattle.site_merge.specs.declared.fault.SiteFault.{SiteFault}
use Rattle.site_merge.specs.declared.fault.SiteFault.TheVariants.{DiskFault, OutOfMemory}
use Rattle.site_merge.specs.declared.reporting.SiteReport.{SiteReport}

-- stores that read as these give one report: no two of them counted one capture, and their weight is below the limit
pub record CanMerge (sites : List (Option SavedValue)) : Type 0 where
  pub apart : AreOfOtherCaptures sites
  pub light : site_weight sites < weight_limit

-- the report of stores of these settings that read as these: that of their site cut
pub record IsSiteReport (settings : StoreSettings) (sites : List (Option SavedValue)) (phi : ℕ) (made : SiteReport) : Type 0 where
  pub can_merge : CanMerge sites
  pub report : IsReportOf (site_cut settings sites) phi made.report
  pub of_grain : AreOfGrain settings.grain made.report.lines
  pub as_many : made.sites ≡ length sites
  pub shards : made.shards ≡ settings.shards

-- a disk or memory failed, so the answer says nothing about the bytes
abbrev pub WasStopped : Result SiteReport SiteFault → Type 0
WasStopped answer = ((site : ℕ) × IsErrOf answer (DiskFault site)) ⊎ IsErrOf answer OutOfMemory

-- unless it was stopped, what these bytes read as is reported where it can be merged
abbrev pub MustReport : StoreSettings → List (List ℕ) → ℕ → Result SiteReport SiteFault → Type 0
MustReport settings images phi answer = (sites : List (Option SavedValue)) → SitesReadAs settings (map Some images) sites
    → CanMerge sites → WasStopped answer ⊎ IsOkAnd answer (IsSiteReport settings sites phi)

-- unless it was stopped, a fault that these bytes show is the answer
abbrev pub MustRefuseSites : StoreSettings → List (List ℕ) → Result SiteReport SiteFault → Type 0
MustRefuseSites settings images answer = (fault : SiteFault) → IsShownBySites fault → RefusesSites settings (map Some images) fault
    → WasStopped answer ⊎ IsErrOf answer fault

-- the bytes of sites read as one list of stores at most, show one fault at most, and never both where they can be merged
pub record HaveOneAnswer (settings : StoreSettings) (images : List (List ℕ)) : Type 0 where
  pub one_reading : (sites others : List (Option SavedValue)) → SitesReadAs settings (map Some images) sites
      → SitesReadAs settings (map Some images) others → sites ≡ others
  pub one_refusal : (fault other : SiteFault) → IsShownBySites fault → IsShownBySites other
      → RefusesSites settings (map Some images) fault → RefusesSites settings (map Some images) other → fault ≡ other
  pub never_both : (sites : List (Option SavedValue)) (fault : SiteFault) → SitesReadAs settings (map Some images) sites
      → CanMerge sites → IsShownBySites fault → RefusesSites settings (map Some images) fault → ⊥

-- so it is with all bytes, under any settings
abbrev pub AreSitesDecided : Type 0
AreSitesDecided = (settings : StoreSettings) (images : List (List ℕ)) → AreSettings settings → HaveOneAnswer settings images
