use Rattle.slot_disk.proofs.MomentLemmas.{moment_of_span_and_call, moment_unchanged_by_calls}
use Rattle.slot_disk.proofs.slots.Slots.read_body.Goals as goal

pub returns-in_err-count-clause-unchanged : goal.returns-in_err-count-clause-unchanged
returns-in_err-count-clause-unchanged g c =
    moment_unchanged_by_calls g.D.Disk.reads g.D.Disk.image_now _ _ _ c.in_ok-length.ensures.unchanged c.in_err-count.ensures.unchanged

pub returns-in_err-count-clause-any_moment : goal.returns-in_err-count-clause-any_moment
returns-in_err-count-clause-any_moment g c =
    moment_of_span_and_call g.D.Disk.moment g.D.Disk.image_since g.D.Disk.image_now g.met.D.Disk.now_is_since _ _ _ _
    c.in_ok-length.ensures.any_moment c.in_err-count.ensures.time c.in_err-count.ensures.images

pub returns-then-count-len-clause-unchanged : goal.returns-then-count-len-clause-unchanged
returns-then-count-len-clause-unchanged g c =
    moment_unchanged_by_calls g.D.Disk.reads g.D.Disk.image_now _ _ _ c.in_ok-length.ensures.unchanged c.in_ok-count.ensures.unchanged

pub returns-then-count-len-clause-any_moment : goal.returns-then-count-len-clause-any_moment
returns-then-count-len-clause-any_moment g c =
    moment_of_span_and_call g.D.Disk.moment g.D.Disk.image_since g.D.Disk.image_now g.met.D.Disk.now_is_since _ _ _ _
    c.in_ok-length.ensures.any_moment c.in_ok-count.ensures.time c.in_ok-count.ensures.images

pub returns-clause-unchanged : goal.returns-clause-unchanged
returns-clause-unchanged g c =
    moment_unchanged_by_calls g.D.Disk.reads g.D.Disk.image_now _ _ _ c.in_ok-length.ensures.unchanged c.in_ok-count.ensures.unchanged

pub returns-clause-any_moment : goal.returns-clause-any_moment
returns-clause-any_moment g c =
    moment_of_span_and_call g.D.Disk.moment g.D.Disk.image_since g.D.Disk.image_now g.met.D.Disk.now_is_since _ _ _ _
    c.in_ok-length.ensures.any_moment c.in_ok-count.ensures.time c.in_ok-count.ensures.images
