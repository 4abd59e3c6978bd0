use Rattle.std.proofs.Common.{sym, ap, ◌∙◌, is_some}
use Rattle.slot_disk.specs.Moments.{CrashLeaves-call}
use Rattle.slot_disk.proofs.MomentLemmas.{moment_of_calls}
use Rattle.slot_disk.proofs.safe_write.write_safely.Goals as goal

pub returns-in_err-write_at-clause-any_moment : goal.returns-in_err-write_at-clause-any_moment
returns-in_err-write_at-clause-any_moment g c =
    CrashLeaves-call g.D.Disk.moment g.D.Disk.image_since _ _ _ c.in_err-write_at.ensures.time c.in_err-write_at.ensures.images

pub returns-in_err-sync-clause-known : goal.returns-in_err-sync-clause-known
returns-in_err-sync-clause-known g c = ap is_some c.in_err-sync.ensures.reads ∙ c.in_ok-write_at.ensures.known

pub returns-in_err-sync-clause-torn : goal.returns-in_err-sync-clause-torn
returns-in_err-sync-clause-torn g c = λ old new was is. c.in_ok-write_at.ensures.torn old new was (sym c.in_err-sync.ensures.reads ∙ is)

pub returns-in_err-sync-clause-any_moment : goal.returns-in_err-sync-clause-any_moment
returns-in_err-sync-clause-any_moment g c =
    moment_of_calls g.D.Disk.moment g.D.Disk.image_since g.D.Disk.image_now g.met.D.Disk.now_is_since _ _ _ _
    c.in_ok-write_at.ensures.time c.in_ok-write_at.ensures.images c.in_err-sync.ensures.time c.in_err-sync.ensures.images

pub returns-clause-known : goal.returns-clause-known
returns-clause-known g c = ap is_some c.in_ok-sync.ensures.reads ∙ c.in_ok-write_at.ensures.known

pub returns-clause-torn : goal.returns-clause-torn
returns-clause-torn g c = λ old new was is. c.in_ok-write_at.ensures.torn old new was (sym c.in_ok-sync.ensures.reads ∙ is)

pub returns-clause-written : goal.returns-clause-written
returns-clause-written g c = λ old new was is. c.in_ok-write_at.ensures.written old new was (sym c.in_ok-sync.ensures.reads ∙ is)

pub returns-clause-any_moment : goal.returns-clause-any_moment
returns-clause-any_moment g c =
    moment_of_calls g.D.Disk.moment g.D.Disk.image_since g.D.Disk.image_now g.met.D.Disk.now_is_since _ _ _ _
    c.in_ok-write_at.ensures.time c.in_ok-write_at.ensures.images c.in_ok-sync.ensures.time c.in_ok-sync.ensures.images
