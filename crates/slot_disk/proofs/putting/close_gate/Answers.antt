use Rattle.std.proofs.Common.{List, ℕ, subst, length}
use Rattle.slot_disk.specs.Images.{IsTornImage, IsWrittenImage}
use Rattle.slot_disk.specs.Moments.{CrashLeaves-weaker}
use Rattle.slot_disk.specs.Putting.{MayBeClosed}
use Rattle.slot_disk.proofs.ContentLemmas.{content_while_gate_closes, content_once_gate_is_closed}
use Rattle.slot_disk.proofs.ContentLemmas.{content_torn_from_only}
use Rattle.slot_disk.proofs.putting.close_gate.Goals as goal

pub returns-in_err-write_safely-clause-any_moment : goal.returns-in_err-write_safely-clause-any_moment
returns-in_err-write_safely-clause-any_moment g c = λ span old was only can.
    CrashLeaves-weaker g.D.Disk.moment g.D.Disk.image_since _ _ _ (MayBeClosed span c.args.slot old) c.in_err-write_safely.ensures.any_moment
    (λ image torn.
    content_while_gate_closes span c.args.slot c.args.is_open old image c.requires can
    (subst (λ (piece : List ℕ). IsTornImage c.args.slot (length piece) old image) c.closing.ensures
    (content_torn_from_only (g.D.Disk.image_now c.args.disk.now) c.args.slot _ old image only torn)))

pub returns-clause-closed : goal.returns-clause-closed
returns-clause-closed g c = λ span old new was is can.
    content_once_gate_is_closed span c.args.slot c.args.is_open old new c.requires can
    (subst (λ (piece : List ℕ). IsWrittenImage c.args.slot piece old new) c.closing.ensures (c.in_ok-write_safely.ensures.written old new was is))

pub returns-clause-any_moment : goal.returns-clause-any_moment
returns-clause-any_moment g c = λ span old was only can.
    CrashLeaves-weaker g.D.Disk.moment g.D.Disk.image_since _ _ _ (MayBeClosed span c.args.slot old) c.in_ok-write_safely.ensures.any_moment
    (λ image torn.
    content_while_gate_closes span c.args.slot c.args.is_open old image c.requires can
    (subst (λ (piece : List ℕ). IsTornImage c.args.slot (length piece) old image) c.closing.ensures
    (content_torn_from_only (g.D.Disk.image_now c.args.disk.now) c.args.slot _ old image only torn)))
