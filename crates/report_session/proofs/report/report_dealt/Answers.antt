use Rattle.std.proofs.Common.{◌≡◌, ◌∙◌, ◌⊎◌, [], ap, ap₂, sym, subst}
use Rattle.report_session.specs.Session.{AreSessionShards, WritesAnswer, BeginsSession, IsOverShards, session_opening}
use Rattle.report_session.specs.DealtFeed.{IsFeedBase}
use Rattle.report_session.specs.Saving.{IsAsBefore, Saves, SavesInPart}
use Rattle.report_session.proofs.BaseLemmas.{base_goes_on}
use Rattle.report_session.proofs.DealtReportLemmas.{dealt_report_ends_without_base, dealt_report_keeps_saves}
use Rattle.report_session.proofs.DealtReportLemmas.{dealt_report_ends_broken_off, dealt_report_is_written}
use Rattle.report_session.proofs.FeedFaultLemmas.{feed_fault_after_good_steps}
use Rattle.report_session.proofs.SaveLemmas.{part_of_saves}
use Rattle.run_status.specs.declared.status.Status.TheVariants.{OutOfMemory}
use Rattle.report_session.specs.Session.{asked_shape}
use Rattle.report_session.proofs.report.report_dealt.Goals as goal

pub openings_stand-requires : goal.openings_stand-requires
openings_stand-requires g c =
    base_goes_on c.args.settings.now c.args.fed.dealt _ c.in-Ok.base.cut c.requires.limited c.in-Ok.ensures.base.begins

pub returns-in-Err-clause-ends : goal.returns-in-Err-clause-ends
returns-in-Err-clause-ends g c =
    dealt_report_ends_without_base g.K.Sink g.D.Disk c.args.settings.now c.args.fed.dealt c.args.fed.tail.items c.args.sink.now
    c.args.disk.now c.open_base.new.disk c.in-Err.status
    (record { same_reads = c.open_base.ensures.reads; any_moment = c.open_base.ensures.any_moment })
    c.in-Err.ensures.refused

pub write_session-requires-clause-base : goal.write_session-requires-clause-base
write_session-requires-clause-base g c = λ lifetimes outlive.
    subst (λ store. IsFeedBase c.args.settings.now c.args.fed.dealt store c.in-Ok.base) (sym c.open_base.ensures.reads)
    c.in-Ok.ensures.base

pub returns-in-Ok-write_session-clause-ends : goal.returns-in-Ok-write_session-clause-ends
returns-in-Ok-write_session-clause-ends g c =
    let base = c.in-Ok.ensures.base in (
      dealt_report_is_written c.args.settings.now c.args.fed.dealt c.args.fed.tail.items _ _ c.in-Ok.base.cut
          (λ cuts. Saves g.D.Disk c.in-Ok.base.saver cuts c.open_base.new.disk c.write_session.new.disk) _ _ base.begins
          c.openings_stand.ensures.represents
          (λ cuts saves used. dealt_report_keeps_saves c.stores_show_their_header.ensures g.D.Disk
          c.args.settings.now c.args.fed.dealt c.in-Ok.base.positions c.in-Ok.base.saver cuts [] c.args.disk.now
          c.open_base.new.disk c.write_session.new.disk base.used base.saver c.open_base.ensures.any_moment
          c.open_base.ensures.reads (part_of_saves g.D.Disk c.in-Ok.base.saver
          c.open_base.new.disk c.write_session.new.disk cuts saves) used)
          (subst (λ tail. WritesAnswer (IsOverShards (session_opening (asked_shape c.args.settings.now) c.args.fed.dealt c.in-Ok.base.cut)
          c.args.settings.now (λ cuts. Saves g.D.Disk c.in-Ok.base.saver cuts
          c.open_base.new.disk c.write_session.new.disk) tail) (g.K.Sink.taken c.args.sink.now)
          (g.K.Sink.taken c.write_session.new.sink)) c.deref.ensures.value c.in-Ok-write_session.ensures.whole),
      ap₂ (λ s d. record { sink = s; disk = d }) c.in-Ok-write_session.ensures.faults.0
          (c.in-Ok-write_session.ensures.faults.1 ∙ c.in-Ok.ensures.no_fault),
    )

pub returns-clause-ends : goal.returns-clause-ends
returns-clause-ends g c =
    let base = c.in-Ok.ensures.base in
    dealt_report_ends_broken_off g.K.Sink g.D.Disk c.args.settings.now c.args.fed.dealt c.args.fed.tail.items c.in-Ok.base.cut
    (SavesInPart g.D.Disk c.in-Ok.base.saver
    c.open_base.new.disk c.write_session.new.disk) (c.write_session.new.disk ≡ c.open_base.new.disk) c.args.sink.now
    c.write_session.new.sink c.args.disk.now c.write_session.new.disk base.begins c.openings_stand.ensures.represents
    (λ saved unfinished saves used. dealt_report_keeps_saves c.stores_show_their_header.ensures g.D.Disk
    c.args.settings.now c.args.fed.dealt c.in-Ok.base.positions c.in-Ok.base.saver saved unfinished c.args.disk.now
    c.open_base.new.disk c.write_session.new.disk base.used base.saver c.open_base.ensures.any_moment
    c.open_base.ensures.reads saves used) (λ same. subst (IsAsBefore g.D.Disk c.args.disk.now) (sym same)
    (record { same_reads = c.open_base.ensures.reads; any_moment = c.open_base.ensures.any_moment }))
    c.in-Err-write_session.status
    (subst (λ tail. (((c.write_session.new.sink ≡ c.args.sink.now) × (c.write_session.new.disk ≡ c.open_base.new.disk))
    × (c.in-Err-write_session.status ≡ OutOfMemory)) ⊎ (AreSessionShards (asked_shape c.args.settings.now)
    (session_opening (asked_shape c.args.settings.now) c.args.fed.dealt c.in-Ok.base.cut)
    × WritesAnswer (BeginsSession (session_opening (asked_shape c.args.settings.now) c.args.fed.dealt c.in-Ok.base.cut)
    c.args.settings.now (SavesInPart g.D.Disk c.in-Ok.base.saver
    c.open_base.new.disk c.write_session.new.disk) tail) (g.K.Sink.taken c.args.sink.now)
    (g.K.Sink.taken c.write_session.new.sink))) c.deref.ensures.value c.in-Err-write_session.ensures.part)
    (feed_fault_after_good_steps _ _ _ c.in-Err-write_session.status
    (ap (λ n. record { sink = g.K.Sink.faults c.args.sink.now; disk = n }) c.in-Ok.ensures.no_fault)
    c.in-Err-write_session.ensures.fault)
