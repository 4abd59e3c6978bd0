use Rattle.std.proofs.Common.{◌∙◌, ◌∷◌, List, ℕ, ap, sym, subst}
use Rattle.std.specs.Prelude.{is_some}
use Rattle.slot_disk.specs.Images.{IsWrittenImage}
use Rattle.slot_disk.proofs.DiskPutLemmas.{disk_put_finds_some}
use Rattle.slot_disk.proofs.FormatLemmas.{format_leaves_closed_slots}
use Rattle.slot_disk.proofs.formatting.format.Goals as goal

pub returns-clause-written : goal.returns-clause-written
returns-clause-written g c = λ old new was is.
    subst (λ (front : List ℕ). IsWrittenImage 0 front old new) c.closed_front-front.ensures.front (c.in_ok-write_safely.ensures.written old new was is)

pub returns-clause-stands : goal.returns-clause-stands
returns-clause-stands g c = λ new is.
    let begun = disk_put_finds_some (g.D.Disk.reads c.args.disk.now) (sym c.in_ok-write_safely.ensures.known ∙ ap is_some is) in
    let written : IsWrittenImage 0 (0 ∷ 0 ∷ c.args.header.now) begun.0 new =
    subst (λ (front : List ℕ). IsWrittenImage 0 front begun.0 new) c.closed_front-front.ensures.front
    (c.in_ok-write_safely.ensures.written begun.0 new begun.1 is) in
    format_leaves_closed_slots c.args.header.now begun.0 new (g.D.Disk.image_now c.write_safely.new.disk)
    c.closed_front-front.ensures.header_length written (c.in_ok-write_safely.ensures.safe new is)
