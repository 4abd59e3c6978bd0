use Rattle.std.proofs.Common.{◌∙◌, ap, sym, subst, Bool}
use Rattle.std.specs.Prelude.{is_some}
use Rattle.slot_disk.specs.Putting.{CanClose, IsClosed, IsStored}
use Rattle.slot_disk.proofs.DiskPutLemmas.{disk_put_finds_some, disk_put_can_close_gate, disk_put_can_write_body}
use Rattle.slot_disk.proofs.DiskPutLemmas.{disk_put_can_open_gate, disk_put_from_parts, disk_put_knows_slots}
use Rattle.slot_disk.proofs.DiskPutLemmas.{disk_put_leaves_closing, disk_put_leaves_writing, disk_put_leaves_opening}
use Rattle.slot_disk.proofs.slots.Slots.put.Goals as goal

pub returns-in_err-close_gate-clause-any_moment : goal.returns-in_err-close_gate-clause-any_moment
returns-in_err-close_gate-clause-any_moment g c = λ old was.
    let can : CanClose c.args.span c.args.slot c.gate-is_open.result old =
    subst (λ (gate : Bool). CanClose c.args.span c.args.slot gate old) (sym c.gate-is_open.ensures)
    (disk_put_can_close_gate c.args.span c.args.slot old (g.D.Disk.image_now c.args.disk.now) c.args.self c.requires.slot
    (c.requires.stands old was) (c.requires.ready old was)) in
    disk_put_leaves_closing g.D.Disk.moment g.D.Disk.image_since c.args.span c.args.slot c.args.body.now old _ _
    (c.in_err-close_gate.ensures.any_moment c.args.span old was (c.requires.stands old was).only can)

pub returns-in_err-write_body-clause-any_moment : goal.returns-in_err-write_body-clause-any_moment
returns-in_err-write_body-clause-any_moment g c = λ old was.
    let can : CanClose c.args.span c.args.slot c.gate-is_open.result old =
    subst (λ (gate : Bool). CanClose c.args.span c.args.slot gate old) (sym c.gate-is_open.ensures)
    (disk_put_can_close_gate c.args.span c.args.slot old (g.D.Disk.image_now c.args.disk.now) c.args.self c.requires.slot
    (c.requires.stands old was) (c.requires.ready old was)) in
    let mid = disk_put_finds_some (g.D.Disk.reads c.close_gate.new.disk) (c.in_ok-close_gate.ensures.known ∙ ap is_some was) in
    let closed : IsClosed c.args.span c.args.slot old mid.0 = c.in_ok-close_gate.ensures.closed c.args.span old mid.0 was mid.1 can in
    let writes = disk_put_can_write_body c.args.span c.args.slot old mid.0 (c.requires.ready old was) closed in
    disk_put_leaves_writing g.D.Disk.moment g.D.Disk.image_since c.args.span c.args.slot c.args.body.now old _ _ _ mid.0
    (c.in_ok-close_gate.ensures.any_moment c.args.span old was (c.requires.stands old was).only can) closed
    (c.in_err-write_body.ensures.any_moment mid.0 mid.1 (c.in_ok-close_gate.ensures.safe mid.0 mid.1) writes)

pub returns-in_err-open_gate-clause-any_moment : goal.returns-in_err-open_gate-clause-any_moment
returns-in_err-open_gate-clause-any_moment g c = λ old was.
    let can : CanClose c.args.span c.args.slot c.gate-is_open.result old =
    subst (λ (gate : Bool). CanClose c.args.span c.args.slot gate old) (sym c.gate-is_open.ensures)
    (disk_put_can_close_gate c.args.span c.args.slot old (g.D.Disk.image_now c.args.disk.now) c.args.self c.requires.slot
    (c.requires.stands old was) (c.requires.ready old was)) in
    let mid = disk_put_finds_some (g.D.Disk.reads c.close_gate.new.disk) (c.in_ok-close_gate.ensures.known ∙ ap is_some was) in
    let closed : IsClosed c.args.span c.args.slot old mid.0 = c.in_ok-close_gate.ensures.closed c.args.span old mid.0 was mid.1 can in
    let writes = disk_put_can_write_body c.args.span c.args.slot old mid.0 (c.requires.ready old was) closed in
    let late = disk_put_finds_some (g.D.Disk.reads c.write_body.new.disk) (c.in_ok-write_body.ensures.known ∙ ap is_some mid.1) in
    let stored : IsStored c.args.span c.args.slot c.args.body.now mid.0 late.0 = c.in_ok-write_body.ensures.stored mid.0 late.0 mid.1 late.1 writes in
    let opens = disk_put_can_open_gate c.args.span c.args.slot c.args.body.now mid.0 late.0 writes stored in
    disk_put_leaves_opening g.D.Disk.moment g.D.Disk.image_since c.args.span c.args.slot c.args.body.now old _ _ _ _ mid.0 late.0
    (c.in_ok-close_gate.ensures.any_moment c.args.span old was (c.requires.stands old was).only can) closed
    (c.in_ok-write_body.ensures.any_moment mid.0 mid.1 (c.in_ok-close_gate.ensures.safe mid.0 mid.1) writes) stored
    (c.in_err-open_gate.ensures.any_moment c.args.span c.args.body.now late.0 late.1 (c.in_ok-write_body.ensures.safe late.0 late.1) opens)

pub returns-clause-done : goal.returns-clause-done
returns-clause-done g c = λ old new was is.
    let can : CanClose c.args.span c.args.slot c.gate-is_open.result old =
    subst (λ (gate : Bool). CanClose c.args.span c.args.slot gate old) (sym c.gate-is_open.ensures)
    (disk_put_can_close_gate c.args.span c.args.slot old (g.D.Disk.image_now c.args.disk.now) c.args.self c.requires.slot
    (c.requires.stands old was) (c.requires.ready old was)) in
    let mid = disk_put_finds_some (g.D.Disk.reads c.close_gate.new.disk) (c.in_ok-close_gate.ensures.known ∙ ap is_some was) in
    let closed : IsClosed c.args.span c.args.slot old mid.0 = c.in_ok-close_gate.ensures.closed c.args.span old mid.0 was mid.1 can in
    let writes = disk_put_can_write_body c.args.span c.args.slot old mid.0 (c.requires.ready old was) closed in
    let late = disk_put_finds_some (g.D.Disk.reads c.write_body.new.disk) (c.in_ok-write_body.ensures.known ∙ ap is_some mid.1) in
    let stored : IsStored c.args.span c.args.slot c.args.body.now mid.0 late.0 = c.in_ok-write_body.ensures.stored mid.0 late.0 mid.1 late.1 writes in
    let opens = disk_put_can_open_gate c.args.span c.args.slot c.args.body.now mid.0 late.0 writes stored in
    disk_put_from_parts c.args.span c.args.slot c.args.body.now old mid.0 late.0 new closed stored
    (c.in_ok-open_gate.ensures.opened c.args.span c.args.body.now late.0 new late.1 is opens)

pub returns-clause-stands : goal.returns-clause-stands
returns-clause-stands g c = λ new is.
    let begun = disk_put_finds_some (g.D.Disk.reads c.args.disk.now)
    (sym c.in_ok-close_gate.ensures.known ∙ sym c.in_ok-write_body.ensures.known ∙ sym c.in_ok-open_gate.ensures.known ∙ ap is_some is) in
    let old = begun.0 in
    let was = begun.1 in
    let can : CanClose c.args.span c.args.slot c.gate-is_open.result old =
    subst (λ (gate : Bool). CanClose c.args.span c.args.slot gate old) (sym c.gate-is_open.ensures)
    (disk_put_can_close_gate c.args.span c.args.slot old (g.D.Disk.image_now c.args.disk.now) c.args.self c.requires.slot
    (c.requires.stands old was) (c.requires.ready old was)) in
    let mid = disk_put_finds_some (g.D.Disk.reads c.close_gate.new.disk) (c.in_ok-close_gate.ensures.known ∙ ap is_some was) in
    let closed : IsClosed c.args.span c.args.slot old mid.0 = c.in_ok-close_gate.ensures.closed c.args.span old mid.0 was mid.1 can in
    let writes = disk_put_can_write_body c.args.span c.args.slot old mid.0 (c.requires.ready old was) closed in
    let late = disk_put_finds_some (g.D.Disk.reads c.write_body.new.disk) (c.in_ok-write_body.ensures.known ∙ ap is_some mid.1) in
    let stored : IsStored c.args.span c.args.slot c.args.body.now mid.0 late.0 = c.in_ok-write_body.ensures.stored mid.0 late.0 mid.1 late.1 writes in
    let opens = disk_put_can_open_gate c.args.span c.args.slot c.args.body.now mid.0 late.0 writes stored in
    let put =
    disk_put_from_parts c.args.span c.args.slot c.args.body.now old mid.0 late.0 new closed stored
    (c.in_ok-open_gate.ensures.opened c.args.span c.args.body.now late.0 new late.1 is opens) in
    disk_put_knows_slots c.args.span c.args.slot c.args.body.now old new (g.D.Disk.image_now c.args.disk.now) (g.D.Disk.image_now c.open_gate.new.disk)
    c.args.self
    c.opened.result c.requires.slot (c.requires.stands old was) put (c.in_ok-open_gate.ensures.safe new is) c.opened.ensures

pub returns-clause-any_moment : goal.returns-clause-any_moment
returns-clause-any_moment g c = λ old was.
    let can : CanClose c.args.span c.args.slot c.gate-is_open.result old =
    subst (λ (gate : Bool). CanClose c.args.span c.args.slot gate old) (sym c.gate-is_open.ensures)
    (disk_put_can_close_gate c.args.span c.args.slot old (g.D.Disk.image_now c.args.disk.now) c.args.self c.requires.slot
    (c.requires.stands old was) (c.requires.ready old was)) in
    let mid = disk_put_finds_some (g.D.Disk.reads c.close_gate.new.disk) (c.in_ok-close_gate.ensures.known ∙ ap is_some was) in
    let closed : IsClosed c.args.span c.args.slot old mid.0 = c.in_ok-close_gate.ensures.closed c.args.span old mid.0 was mid.1 can in
    let writes = disk_put_can_write_body c.args.span c.args.slot old mid.0 (c.requires.ready old was) closed in
    let late = disk_put_finds_some (g.D.Disk.reads c.write_body.new.disk) (c.in_ok-write_body.ensures.known ∙ ap is_some mid.1) in
    let stored : IsStored c.args.span c.args.slot c.args.body.now mid.0 late.0 = c.in_ok-write_body.ensures.stored mid.0 late.0 mid.1 late.1 writes in
    let opens = disk_put_can_open_gate c.args.span c.args.slot c.args.body.now mid.0 late.0 writes stored in
    disk_put_leaves_opening g.D.Disk.moment g.D.Disk.image_since c.args.span c.args.slot c.args.body.now old _ _ _ _ mid.0 late.0
    (c.in_ok-close_gate.ensures.any_moment c.args.span old was (c.requires.stands old was).only can) closed
    (c.in_ok-write_body.ensures.any_moment mid.0 mid.1 (c.in_ok-close_gate.ensures.safe mid.0 mid.1) writes) stored
    (c.in_ok-open_gate.ensures.any_moment c.args.span c.args.body.now late.0 late.1 (c.in_ok-write_body.ensures.safe late.0 late.1) opens)
