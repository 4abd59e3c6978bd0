use Rattle.std.proofs.Common.{◌≡◌, sym, ap, subst, Some, [], ◌∷◌}
use Rattle.std.specs.Prelude.{IfSome}
use Rattle.checkpoint.specs.{DiskMatches}
use Rattle.report_session.specs.DealtFeed.{CanSaveCut}
use Rattle.report_session.specs.Saving.{SavesInTurn}
use Rattle.report_session.proofs.SaveLemmas.{unfinished_save_of, one_save}
use Rattle.report_session.proofs.saving.save_cut.Goals as goal

pub returns-in-Ok-clause-saved : goal.returns-in-Ok-clause-saved
returns-in-Ok-clause-saved g c =
    let saver = c.in-Some.open in
    let is : c.args.saver.now ≡ Some saver = sym c.in-Some.ensures.value in
    let can : CanSaveCut (g.D.Disk.reads c.args.disk.now) (g.D.Disk.image_now c.args.disk.now) c.args.cut.now saver =
    subst (λ s. IfSome s (CanSaveCut (g.D.Disk.reads c.args.disk.now) (g.D.Disk.image_now c.args.disk.now)
    c.args.cut.now)) is c.requires in
    let done = c.in-Ok.ensures in
    subst (λ before. SavesInTurn g.D.Disk before
    (Some c.in-Ok.next) c.args.disk.now c.save.new.disk (c.args.cut.now ∷ [])) (sym is) (record {
      saver = ap Some done.saved;
      saves = one_save c.stores_open_to_one.ensures g.D.Disk saver c.args.cut.now c.args.disk.now c.save.new.disk can.settings can.stands
          done.known
          (subst (λ after. DiskMatches (g.D.Disk.reads c.save.new.disk) (g.D.Disk.image_now c.save.new.disk) after)
          done.saved done.stands) done.opens done.any_moment;
    })

pub returns-in-Err-DiskFault-clause-in_part : goal.returns-in-Err-DiskFault-clause-in_part
returns-in-Err-DiskFault-clause-in_part g c =
    unfinished_save_of c.stores_open_to_one.ensures g.D.Disk
    c.args.saver.now c.in-Some.open c.args.cut.now c.args.disk.now c.save.new.disk (sym c.in-Some.ensures.value) c.requires
    g.met.D.Disk.now_is_since c.save.ensures.any_moment

pub returns-in-Err-OutOfMemory-clause-in_part : goal.returns-in-Err-OutOfMemory-clause-in_part
returns-in-Err-OutOfMemory-clause-in_part g c =
    unfinished_save_of c.stores_open_to_one.ensures g.D.Disk
    c.args.saver.now c.in-Some.open c.args.cut.now c.args.disk.now c.save.new.disk (sym c.in-Some.ensures.value) c.requires
    g.met.D.Disk.now_is_since c.save.ensures.any_moment
