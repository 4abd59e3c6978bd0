-- What a run of `sites` promises: what each status says of the words, of what was written, and of the disks.
use Rattle.std.specs.Prelude.{ℕ, ◌≡◌, ◌+◌, ◌⊎◌, List, map, slice_index, Option, Some}
use Rattle.std.specs.Io.KnownBytes.{Appends}
use Rattle.outside_io.specs.{AppendsPart, FaultRose}
use Rattle.outside_io.specs.declared.sink.Sink.{Ghosts as SinkOf}
use Rattle.prefix_lattice.specs.{RecordValue}
use Rattle.hhh_report.specs.{IsSound}
use Rattle.slot_disk.specs.declared.disk.Disk.{Ghosts as DiskOf}
use Rattle.checkpoint.specs.declared.settings.StoreSettings.{StoreSettings}
use Rattle.checkpoint.specs.{SavedValue}
use Rattle.site_merge.specs.SiteCut.{site_lists}
use Rattle.site_merge.specs.Sites.{IsShownBySites, RefusesSites, SitesBelong, SitesReadAs}
use Rattle.site_merge.specs.Disks.{AreLeftAlone, RoseAtSite}
use Rattle.site_merge.specs.Reporting.{CanMerge, IsSiteReport}
use Rattle.site_merge.specs.SiteWords.{AskForSites, HasSiteFault}
use Rattle.site_merge.specs.SiteStatus.{status_of_sites}
use Rattle.site_merge.specs.SiteText.{sites_text}
use Rattle.site_merge.specs.declared.fault.SiteFault.{SiteFault}
use Rattle.site_merge.specs.declared.reporting.SiteReport.{SiteReport}
use Rattle.site_merge.specs.declared.site_words.SiteWords.{SiteWords}
use Rattle.site_merge.specs.declared.status.SiteStatus.{SiteStatus}
use Rattle.site_merge.specs.declared.status.SiteStatus.TheVariants.{Done, BadWords, WriteFault, DiskFault, OutOfMemory}

-- a disk or memory failed, so the status says nothing about the bytes of the disks
abbrev pub StopsSites : SiteStatus → Type 0
StopsSites status = ((site : ℕ) × (status ≡ DiskFault site)) ⊎ (status ≡ OutOfMemory)

-- A run over disks that were `old` when it began and `new` when it ended, for the words `words`. Of a disk, `reads` is what it
-- holds, None where it isn't known, and `faults` counts the calls that failed
module _ {D : Type 0} (d : DiskOf D) (words : List (List ℕ)) (old new : List D) where
  -- the words ask for a report, and this is the one of the site cut of the stores as they read. Where each store belongs to
  -- the dealt lists of its site, it is sound over those of all sites together
  pub record AnswersSites (made : SiteReport) : Type 0 where
    pub settings : StoreSettings
    pub phi : ℕ
    pub names : List (List ℕ)
    pub asked : AskForSites words settings phi names
    pub sites : List (Option SavedValue)
    pub are_read : SitesReadAs settings (map d.reads old) sites
    pub is_report : IsSiteReport settings sites phi made
    pub sound : (dealt : List (List (List RecordValue))) → SitesBelong settings (map d.reads old) dealt
        → IsSound settings.grain made.report (site_lists dealt) settings.capacity phi

  -- the words ask for a report, and the stores are refused for this fault
  pub record RefusesStores (fault : SiteFault) : Type 0 where
    pub settings : StoreSettings
    pub phi : ℕ
    pub names : List (List ℕ)
    pub asked : AskForSites words settings phi names
    pub refused : RefusesSites settings (map d.reads old) fault

  -- this is the first fault of the words, and no disk was touched
  pub record RefusesSiteWords (fault : SiteWords) : Type 0 where
    pub first_fault : HasSiteFault words fault
    pub untouched : new ≡ old

  -- words with a fault are refused for it, unless memory runs out
  abbrev pub MustRefuseSiteWords : SiteStatus → Type 0
  MustRefuseSiteWords status =
      (fault : SiteWords) → HasSiteFault words fault → (status ≡ BadWords fault) ⊎ (status ≡ OutOfMemory)

  -- stores whose bytes show a fault are refused for it, unless a disk fails or memory runs out
  abbrev pub MustRefuseStores : SiteStatus → Type 0
  MustRefuseStores status =
      (settings : StoreSettings) (phi : ℕ) (names images : List (List ℕ)) (fault : SiteFault) → AskForSites words settings phi names
      → map d.reads old ≡ map Some images → IsShownBySites fault → RefusesSites settings (map Some images) fault
      → (status ≡ status_of_sites fault) ⊎ StopsSites status

  -- stores of the settings that can be merged are answered with their text, unless a disk or the sink fails or memory runs out
  abbrev pub MustAnswerSites : SiteStatus → Type 0
  MustAnswerSites status =
      (settings : StoreSettings) (phi : ℕ) (names images : List (List ℕ)) (sites : List (Option SavedValue))
      → AskForSites words settings phi names → map d.reads old ≡ map Some images → SitesReadAs settings (map Some images) sites
      → CanMerge sites → (status ≡ Done) ⊎ ((status ≡ WriteFault) ⊎ StopsSites status)

  -- what holds of the words and of the disks, whatever the sink did
  pub record ReadingEnds (status : SiteStatus) : Type 0 where
    -- the words are checked first, before any disk is touched
    pub bad_words : (fault : SiteWords) → status ≡ BadWords fault → RefusesSiteWords fault
    pub refuses_words : MustRefuseSiteWords status
    -- then the stores, for the first fault
    pub bad_stores : (fault : SiteFault) → IsShownBySites fault → status ≡ status_of_sites fault → RefusesStores fault
    pub refuses_stores : MustRefuseStores status
    -- a fault of a disk is returned only where that disk failed in this run, and always then
    pub disk_fault : (site : ℕ) → status ≡ DiskFault site → RoseAtSite (map d.faults old) (map d.faults new) site
    pub disk_fault_reported : (place : ℕ) → (status ≡ DiskFault (place + 1) → ⊥)
        → slice_index (map d.faults new) place ≡ slice_index (map d.faults old) place
    -- each disk reads as before, and a crash at any moment leaves only what it could have left before
    pub left : AreLeftAlone d old new
    -- stores that can be merged are answered
    pub complete : MustAnswerSites status

  -- no text was made, for this status
  pub record EndsUnread (status : SiteStatus) : Type 0 where
    pub reading : ReadingEnds status
    pub not_done : status ≡ Done → ⊥
    pub not_of_sink : status ≡ WriteFault → ⊥

-- the same with a sink that was `before` and is `after`, of which `taken` is what it has taken
module _ {D K : Type 0} (d : DiskOf D) (k : SinkOf K) (words : List (List ℕ)) (old new : List D) (before after : K) where
  -- the words ask for a report, and its text was written whole
  abbrev pub WritesSites : Type 0
  WritesSites = (made : SiteReport) × AnswersSites d words old new made × Appends (k.taken before) (k.taken after) (sites_text made)

  -- the words ask for a report, and a strict beginning of its text was written
  abbrev pub WritesSitesInPart : Type 0
  WritesSitesInPart =
      (made : SiteReport) × AnswersSites d words old new made × AppendsPart (k.taken before) (k.taken after) (sites_text made)

  -- the run ended with this status
  pub record SitesEnd (status : SiteStatus) : Type 0 where
    -- the text of the one report over the stores was written whole
    pub done : status ≡ Done → WritesSites
    -- what the words and the stores give rise to, with each cause
    pub reading : ReadingEnds d words old new status
    -- a fault of the sink is returned only where there was one in this run, and always then; a strict beginning was written
    pub write_fault : status ≡ WriteFault → FaultRose (k.faults before) (k.faults after) × WritesSitesInPart
    pub write_fault_reported : (status ≡ WriteFault → ⊥) → k.faults after ≡ k.faults before
    -- on every other status nothing was written
    pub unwritten : (status ≡ Done → ⊥) → (status ≡ WriteFault → ⊥) → after ≡ before
