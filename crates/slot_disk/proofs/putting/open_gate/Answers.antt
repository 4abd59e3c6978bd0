use Rattle.slot_disk.specs.Moments.{CrashLeaves-weaker}
use Rattle.slot_disk.specs.Putting.{MayBeOpen}
use Rattle.slot_disk.proofs.ContentLemmas.{content_while_gate_opens, content_once_gate_is_open, content_torn_from_only}
use Rattle.slot_disk.proofs.putting.open_gate.Goals as goal

pub returns-in_err-write_safely-clause-any_moment : goal.returns-in_err-write_safely-clause-any_moment
returns-in_err-write_safely-clause-any_moment g c = λ span body old was only can.
    CrashLeaves-weaker g.D.Disk.moment g.D.Disk.image_since _ _ _ (MayBeOpen span c.args.slot body old) c.in_err-write_safely.ensures.any_moment
    (λ image torn.
    content_while_gate_opens span c.args.slot body old image c.requires can
    (content_torn_from_only (g.D.Disk.image_now c.args.disk.now) c.args.slot 1 old image only torn))

pub returns-clause-opened : goal.returns-clause-opened
returns-clause-opened g c = λ span body old new was is can.
    content_once_gate_is_open span c.args.slot body old new c.requires can (c.in_ok-write_safely.ensures.written old new was is)

pub returns-clause-any_moment : goal.returns-clause-any_moment
returns-clause-any_moment g c = λ span body old was only can.
    CrashLeaves-weaker g.D.Disk.moment g.D.Disk.image_since _ _ _ (MayBeOpen span c.args.slot body old) c.in_ok-write_safely.ensures.any_moment
    (λ image torn.
    content_while_gate_opens span c.args.slot body old image c.requires can
    (content_torn_from_only (g.D.Disk.image_now c.args.disk.now) c.args.slot 1 old image only torn))
