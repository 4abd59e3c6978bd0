use Rattle.std.proofs.Common.{ℕ, length, subst}
use Rattle.slot_disk.specs.Images.{IsTornImage, IsWrittenImage}
use Rattle.slot_disk.specs.Moments.{CrashLeaves-weaker}
use Rattle.slot_disk.specs.Putting.{IsClosed}
use Rattle.slot_disk.proofs.ContentLemmas.{content_while_body_is_written, content_once_body_is_written}
use Rattle.slot_disk.proofs.ContentLemmas.{content_torn_from_only}
use Rattle.slot_disk.proofs.putting.write_body.Goals as goal

pub returns-in_err-write_safely-clause-any_moment : goal.returns-in_err-write_safely-clause-any_moment
returns-in_err-write_safely-clause-any_moment g c = λ old was only can.
    CrashLeaves-weaker g.D.Disk.moment g.D.Disk.image_since _ _ _ (IsClosed c.args.span c.args.slot old)
    c.in_err-write_safely.ensures.any_moment
    (λ image torn.
    content_while_body_is_written c.args.span c.args.slot (length c.args.body.now) old image c.requires.slot c.requires.body.most can
    (subst (λ (place : ℕ). IsTornImage place (length c.args.body.now) old image) c.body_place.ensures
    (content_torn_from_only (g.D.Disk.image_now c.args.disk.now) c.body_place.result (length c.args.body.now) old image only torn)))

pub returns-clause-stored : goal.returns-clause-stored
returns-clause-stored g c = λ old new was is can.
    content_once_body_is_written c.args.span c.args.slot c.args.body.now old new c.requires.slot c.requires.body can
    (subst (λ (place : ℕ). IsWrittenImage place c.args.body.now old new) c.body_place.ensures (c.in_ok-write_safely.ensures.written old new was is))

pub returns-clause-any_moment : goal.returns-clause-any_moment
returns-clause-any_moment g c = λ old was only can.
    CrashLeaves-weaker g.D.Disk.moment g.D.Disk.image_since _ _ _ (IsClosed c.args.span c.args.slot old) c.in_ok-write_safely.ensures.any_moment
    (λ image torn.
    content_while_body_is_written c.args.span c.args.slot (length c.args.body.now) old image c.requires.slot c.requires.body.most can
    (subst (λ (place : ℕ). IsTornImage place (length c.args.body.now) old image) c.body_place.ensures
    (content_torn_from_only (g.D.Disk.image_now c.args.disk.now) c.body_place.result (length c.args.body.now) old image only torn)))
