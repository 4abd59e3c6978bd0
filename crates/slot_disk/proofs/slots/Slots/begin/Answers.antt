use Rattle.slot_disk.specs.Moments.{CrashLeaves-call}
use Rattle.slot_disk.proofs.MomentLemmas.{moment_of_calls}
use Rattle.slot_disk.proofs.slots.Slots.begin.Goals as goal

pub returns-in_err-sync-clause-any_moment : goal.returns-in_err-sync-clause-any_moment
returns-in_err-sync-clause-any_moment g c =
    CrashLeaves-call g.D.Disk.moment g.D.Disk.image_since _ _ _ c.in_err-sync.ensures.time c.in_err-sync.ensures.images

pub returns-in_err-count-clause-any_moment : goal.returns-in_err-count-clause-any_moment
returns-in_err-count-clause-any_moment g c =
    moment_of_calls g.D.Disk.moment g.D.Disk.image_since g.D.Disk.image_now g.met.D.Disk.now_is_since _ _ _ _
    c.in_ok-sync.ensures.time c.in_ok-sync.ensures.images c.in_err-count.ensures.time c.in_err-count.ensures.images

pub returns-then-count-lt64-clause-any_moment : goal.returns-then-count-lt64-clause-any_moment
returns-then-count-lt64-clause-any_moment g c =
    moment_of_calls g.D.Disk.moment g.D.Disk.image_since g.D.Disk.image_now g.met.D.Disk.now_is_since _ _ _ _
    c.in_ok-sync.ensures.time c.in_ok-sync.ensures.images c.in_ok-count.ensures.time c.in_ok-count.ensures.images

pub returns-clause-any_moment : goal.returns-clause-any_moment
returns-clause-any_moment g c =
    moment_of_calls g.D.Disk.moment g.D.Disk.image_since g.D.Disk.image_now g.met.D.Disk.now_is_since _ _ _ _
    c.in_ok-sync.ensures.time c.in_ok-sync.ensures.images c.in_ok-count.ensures.time c.in_ok-count.ensures.images
