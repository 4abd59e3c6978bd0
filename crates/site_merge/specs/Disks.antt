-- What a call leaves of the disks of several sites.
use Rattle.std.specs.Prelude.{ℕ, ◌≡◌, ◌-◌, ◌≤◌, List, length, slice_index}
use Rattle.std.specs.List.{AllZip}
use Rattle.outside_io.specs.{FaultRose}
use Rattle.slot_disk.specs.declared.disk.Disk.{Ghosts as DiskOf}
use Rattle.slot_disk.specs.{CrashLeaves}

-- a call left a disk as it reads, a crash at any moment of the call leaves only what one could leave before, and its
-- count of faults has not fallen
pub record IsLeftAlone {D : Type 0} (d : DiskOf D) (old new : D) : Type 0 where
  pub same_reads : d.reads new ≡ d.reads old
  pub any_moment : CrashLeaves d.moment d.image_since old new (d.image_now old)
  pub later : d.faults old ≤ d.faults new

-- it left each of the disks so
abbrev pub AreLeftAlone : {D : Type 0} → DiskOf D → List D → List D → Type 0
AreLeftAlone d old new = AllZip (IsLeftAlone d) old new

-- of two rows of counts of faults, that of the site with this number, from 1, rose
pub record RoseAtSite (before now : List ℕ) (site : ℕ) : Type 0 where
  pub numbered : 1 ≤ site
  pub within : site ≤ length before
  pub rose : FaultRose (slice_index before (site - 1)) (slice_index now (site - 1))
