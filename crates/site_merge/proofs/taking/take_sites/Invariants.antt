use Rattle.std.proofs.Common.{◌≡◌, ◌+◌, ℕ, List, Option, length, map, take, drop}
use Rattle.checkpoint.specs.{SavedValue}
use Rattle.site_merge.specs.Sites.{SitesReadAs}
use Rattle.site_merge.specs.Disks.{AreLeftAlone}
use Rattle.site_merge.specs.Taking.{HasTaken}
use Rattle.site_merge.proofs.taking.take_sites.Given as goal

-- the stores so far are open and taken, their disks are as they were but for the time, and the others are as they were
abbrev pub invariant-loop-place : goal.invariant-loop-place
invariant-loop-place g l = record {
  taken : (sites : List (Option SavedValue)) × (length sites ≡ l.place)
      × SitesReadAs l.settings (take l.place (map g.D.Disk.reads l.initial.disks)) sites
      × ((left : ℕ) → l.place + left ≡ l.sites → HasTaken l.settings sites left l.taken);
  left : AreLeftAlone g.D.Disk l.initial.disks l.disks;
  rest : drop l.place l.disks ≡ drop l.place l.initial.disks;
  faults : map g.D.Disk.faults l.disks ≡ map g.D.Disk.faults l.initial.disks;
}
