use Rattle.std.proofs.Common.{inl, inr, refl, subst}
use Rattle.std.proofs.lemmas.Option.{IfSome_then}
use Rattle.std.specs.Io.KnownBytes.{Appends}
use Rattle.std.proofs.KnownBytes.{Appends-trans}
use Rattle.outside_io.specs.{AppendsPart}
use Rattle.report_session.proofs.FeedFaultLemmas.{feed_fault_of_save, feed_fault_of_sink}
use Rattle.report_session.proofs.SaveLemmas.{no_save_into_untouched_disk, part_of_saves}
use Rattle.report_session.proofs.session.write_rest.Goals as goal

pub returns-in-Err-clause-part : goal.returns-in-Err-clause-part
returns-in-Err-clause-part g c =
    let begun = subst (AppendsPart _ _) c.deref.ensures.value c.in-Err.ensures.beginning in
    record {
      text = begun.front;
      is_text = inl (
        begun.is_beginning,
        no_save_into_untouched_disk g.D.Disk c.args.saver.now c.args.disk.now c.args.disk.now g.met.D.Disk.only_now
            (IfSome_then c.args.saver.now c.requires (λ saver can. can.stands)) refl,
      );
      written = begun.appended;
    }

pub returns-in-Err-clause-fault : goal.returns-in-Err-clause-fault
returns-in-Err-clause-fault g c = feed_fault_of_sink _ _ _ _ _ c.in-Err.status c.in-Err.ensures.fault refl refl

pub returns-in-Err-save_cut-clause-part : goal.returns-in-Err-save_cut-clause-part
returns-in-Err-save_cut-clause-part g c = record {
  text = c.args.rest.now.front.items;
  is_text = inr (inl (refl, c.in-Err-save_cut.ensures.in_part));
  written = subst (Appends _ _) c.deref.ensures.value c.in_default.ensures.whole;
}

pub returns-in-Err-save_cut-clause-fault : goal.returns-in-Err-save_cut-clause-fault
returns-in-Err-save_cut-clause-fault g c =
    feed_fault_of_save _ _ _ _ c.in-Err-save_cut.status c.in-Err-save_cut.ensures.fault c.in_default.ensures.faults

pub returns-in-Ok-clause-whole : goal.returns-in-Ok-clause-whole
returns-in-Ok-clause-whole g c =
    Appends-trans _ _ _ c.args.rest.now.front.items c.args.rest.now.back.items
    (subst (Appends _ _) c.deref.ensures.value c.in_default.ensures.whole)
    (subst (Appends _ _) c.deref-2.ensures.value c.in-Ok.ensures.whole)

pub returns-in-Err-write-clause-part : goal.returns-in-Err-write-clause-part
returns-in-Err-write-clause-part g c =
    let begun = subst (AppendsPart _ _) c.deref-2.ensures.value c.in-Err-write.ensures.beginning in
    record {
      text = _;
      is_text = inr (inr (
        begun.front,
        (begun.is_beginning, begun.cut),
        refl,
        part_of_saves g.D.Disk c.args.saver.now
            c.args.disk.now c.save_cut.new.disk _ c.in_default-save_cut.ensures.saved.saves,
      ));
      written = Appends-trans _ _ _ c.args.rest.now.front.items begun.front
          (subst (Appends _ _) c.deref.ensures.value c.in_default.ensures.whole) begun.appended;
    }

pub returns-in-Err-write-clause-fault : goal.returns-in-Err-write-clause-fault
returns-in-Err-write-clause-fault g c =
    feed_fault_of_sink _ _ _ _ _ c.in-Err-write.status c.in-Err-write.ensures.fault c.in_default.ensures.faults
    c.in_default-save_cut.ensures.no_fault
