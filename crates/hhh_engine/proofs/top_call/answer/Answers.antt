use Rattle.std.proofs.Common.{[], refl, subst, sym}
use Rattle.std.proofs.KnownBytes.{Consumes-nil}
use Rattle.command_words.specs.declared.command.Command.TheVariants.{Weigh, Report, Format, Audit, Watch, Make, Demo}
use Rattle.hhh_engine.specs.Tasks.{made_task, report_task, watch_task, weigh_task}
use Rattle.hhh_engine.specs.Inputs.{UsesCapture, UsesSession, UsesStore, inputs}
use Rattle.hhh_engine.specs.TopCall.{streams}
use Rattle.report_session.specs.{IsAsBefore-untouched}
use Rattle.hhh_engine.proofs.AuditEndLemmas.{audit_ends_as}
use Rattle.hhh_engine.proofs.ReadOrderLemmas.{read_order_of_capture_alone, read_order_of_neither}
use Rattle.hhh_engine.proofs.ReadOrderLemmas.{read_order_of_text_alone, read_order_of_variant}
use Rattle.hhh_engine.proofs.StatusLemmas.{status_as_named_command, status_beside_disk}
use Rattle.hhh_engine.proofs.top_call.answer.Goals as goal

pub returns-in-Weigh-clause-ends : goal.returns-in-Weigh-clause-ends
returns-in-Weigh-clause-ends g c =
    status_as_named_command g.S.Source g.T.Source g.K.Sink g.D.Disk _ _ _ c.args.command.now
    (Weigh c.in-Weigh.prefix c.in-Weigh.settings) c.weigh.result c.in-Weigh.is
    (status_beside_disk (weigh_task c.in-Weigh.prefix c.in-Weigh.settings (g.S.Source.left c.args.capture.now)
    (g.S.Source.left c.weigh.new.capture)) _ _ _ c.weigh.result (λ failed. failed) refl
    (IsAsBefore-untouched g.D.Disk c.args.disk.now c.args.disk.now g.met.D.Disk.only_now refl) (c.weigh.ensures.ends _))

pub returns-in-Report-clause-ends : goal.returns-in-Report-clause-ends
returns-in-Report-clause-ends g c =
    status_as_named_command g.S.Source g.T.Source g.K.Sink g.D.Disk _ _ _ c.args.command.now (Report c.in-Report.settings)
    c.report.result c.in-Report.is (c.report.ensures.ends _)

pub returns-in-Format-clause-ends : goal.returns-in-Format-clause-ends
returns-in-Format-clause-ends g c =
    status_as_named_command g.S.Source g.T.Source g.K.Sink g.D.Disk _ _ _ c.args.command.now (Format c.in-Format.settings)
    c.format.result c.in-Format.is (c.format.ensures.ends _ _)

pub returns-in-Audit-clause-ends : goal.returns-in-Audit-clause-ends
returns-in-Audit-clause-ends g c =
    audit_ends_as g.S.Source g.T.Source g.K.Sink g.D.Disk
    (streams c.args.capture.now c.args.text.now c.args.sink.now c.args.disk.now)
    (streams c.audit.new.capture c.audit.new.text c.audit.new.sink c.args.disk.now) _ c.args.command.now c.in-Audit.settings c.audit.result
    c.in-Audit.is refl (IsAsBefore-untouched g.D.Disk c.args.disk.now c.args.disk.now g.met.D.Disk.only_now refl)
    (c.audit.ensures.ends (g.D.Disk.reads c.args.disk.now))

pub returns-in-Watch-clause-ends : goal.returns-in-Watch-clause-ends
returns-in-Watch-clause-ends g c =
    status_as_named_command g.S.Source g.T.Source g.K.Sink g.D.Disk _ _ _ c.args.command.now (Watch c.in-Watch.rule c.in-Watch.grain)
    c.watch.result c.in-Watch.is
    (status_beside_disk (watch_task c.in-Watch.rule c.in-Watch.grain _ (inputs (g.S.Source.left c.args.capture.now)
    (g.S.Source.left c.args.capture.now) (g.T.Source.left c.args.text.now) (g.T.Source.left c.watch.new.text) (g.D.Disk.reads c.args.disk.now)))
    _ _ _ c.watch.result (λ failed. failed) refl
    (IsAsBefore-untouched g.D.Disk c.args.disk.now c.args.disk.now g.met.D.Disk.only_now refl) (c.watch.ensures.ends _ _ _ _))

pub returns-in-Make-clause-ends : goal.returns-in-Make-clause-ends
returns-in-Make-clause-ends g c =
    status_as_named_command g.S.Source g.T.Source g.K.Sink g.D.Disk _ _ _ c.args.command.now (Make c.in-Make.seed c.in-Make.frames)
    c.make.result c.in-Make.is
    (status_beside_disk (made_task _) _ _ _ c.make.result (λ failed. failed) refl
    (IsAsBefore-untouched g.D.Disk c.args.disk.now c.args.disk.now g.met.D.Disk.only_now refl)
    (c.make.ensures.ends (g.S.Source.left c.args.capture.now) _))

pub returns-in-Demo-clause-ends : goal.returns-in-Demo-clause-ends
returns-in-Demo-clause-ends g c =
    status_as_named_command g.S.Source g.T.Source g.K.Sink g.D.Disk _ _ _ c.args.command.now
    (Demo c.in-Demo.seed c.in-Demo.frames c.in-Demo.settings) c.demo.result c.in-Demo.is
    (status_beside_disk (made_task _) _ _ _ c.demo.result (λ failed. failed) refl
    (IsAsBefore-untouched g.D.Disk c.args.disk.now c.args.disk.now g.met.D.Disk.only_now refl)
    (c.demo.ensures.ends (g.S.Source.left c.args.capture.now) _))

pub returns-in-Weigh-clause-order : goal.returns-in-Weigh-clause-order
returns-in-Weigh-clause-order g c =
    read_order_of_variant c.args.command.now (Weigh c.in-Weigh.prefix c.in-Weigh.settings) _ _ _ c.weigh.result c.in-Weigh.is
    (read_order_of_capture_alone
    (weigh_task c.in-Weigh.prefix c.in-Weigh.settings (g.S.Source.left c.args.capture.now) (g.S.Source.left c.weigh.new.capture))
    g.K.Sink _ _ _ _ _ _ c.weigh.result _ _ _ _ tt (c.weigh.ensures.ends 0))

pub returns-in-Report-clause-order : goal.returns-in-Report-clause-order
returns-in-Report-clause-order g c =
    read_order_of_variant c.args.command.now (Report c.in-Report.settings) _ _ _ c.report.result c.in-Report.is
    (read_order_of_capture_alone
    (report_task g.D.Disk c.in-Report.settings _ (g.S.Source.left c.args.capture.now) (g.S.Source.left c.report.new.capture)
    c.args.disk.now c.report.new.disk)
    g.K.Sink _ _ _ _ _ _ c.report.result _ _ _ _ tt (c.report.ensures.ends 0))

pub returns-in-Format-clause-order : goal.returns-in-Format-clause-order
returns-in-Format-clause-order g c =
    read_order_of_variant c.args.command.now (Format c.in-Format.settings) _ _ _ c.format.result c.in-Format.is
    (read_order_of_neither _ _ _ _ _ c.format.result c.format.ensures.no_capture c.format.ensures.no_read_fault)

pub returns-in-Audit-clause-order : goal.returns-in-Audit-clause-order
returns-in-Audit-clause-order g c =
    read_order_of_variant c.args.command.now (Audit c.in-Audit.settings) _ _ _ c.audit.result c.in-Audit.is
    (c.audit.ensures.order (g.D.Disk.reads c.args.disk.now))

pub returns-in-Watch-clause-order : goal.returns-in-Watch-clause-order
returns-in-Watch-clause-order g c =
    read_order_of_variant c.args.command.now (Watch c.in-Watch.rule c.in-Watch.grain) _ _ _ c.watch.result c.in-Watch.is
    (read_order_of_text_alone (watch_task c.in-Watch.rule c.in-Watch.grain _ (inputs (g.S.Source.left c.args.capture.now)
    (g.S.Source.left c.args.capture.now) (g.T.Source.left c.args.text.now) (g.T.Source.left c.watch.new.text) (g.D.Disk.reads c.args.disk.now)))
    g.K.Sink (g.S.Source.left c.args.capture.now) _ _ _ _ _ _ _ _ _ _ (λ none. none) (tt, tt) c.watch.result c.watch.ensures.no_capture
    (c.watch.ensures.ends _ _ _ 0))

pub returns-in-Make-clause-order : goal.returns-in-Make-clause-order
returns-in-Make-clause-order g c =
    read_order_of_variant c.args.command.now (Make c.in-Make.seed c.in-Make.frames) _ _ _ c.make.result c.in-Make.is
    (read_order_of_neither _ _ _ _ _ c.make.result c.make.ensures.no_capture c.make.ensures.no_read_fault)

pub returns-in-Demo-clause-order : goal.returns-in-Demo-clause-order
returns-in-Demo-clause-order g c =
    read_order_of_variant c.args.command.now (Demo c.in-Demo.seed c.in-Demo.frames c.in-Demo.settings) _ _ _ c.demo.result
    c.in-Demo.is
    (read_order_of_neither _ _ _ _ _ c.demo.result c.demo.ensures.no_capture c.demo.ensures.no_read_fault)

pub returns-in-Weigh-clause-fronts : goal.returns-in-Weigh-clause-fronts
returns-in-Weigh-clause-fronts g c = (c.weigh.ensures.front, ([], Consumes-nil (g.T.Source.left c.args.text.now)))

pub returns-in-Report-clause-fronts : goal.returns-in-Report-clause-fronts
returns-in-Report-clause-fronts g c = (c.report.ensures.front, ([], Consumes-nil (g.T.Source.left c.args.text.now)))

pub returns-in-Format-clause-fronts : goal.returns-in-Format-clause-fronts
returns-in-Format-clause-fronts g c = (
  ([], Consumes-nil (g.S.Source.left c.args.capture.now)),
  ([], Consumes-nil (g.T.Source.left c.args.text.now)),
)

pub returns-in-Make-clause-fronts : goal.returns-in-Make-clause-fronts
returns-in-Make-clause-fronts g c = (
  ([], Consumes-nil (g.S.Source.left c.args.capture.now)),
  ([], Consumes-nil (g.T.Source.left c.args.text.now)),
)

pub returns-in-Demo-clause-fronts : goal.returns-in-Demo-clause-fronts
returns-in-Demo-clause-fronts g c = (
  ([], Consumes-nil (g.S.Source.left c.args.capture.now)),
  ([], Consumes-nil (g.T.Source.left c.args.text.now)),
)

pub returns-in-Watch-clause-fronts : goal.returns-in-Watch-clause-fronts
returns-in-Watch-clause-fronts g c = (([], Consumes-nil (g.S.Source.left c.args.capture.now)), c.watch.ensures.front)

pub returns-in-Audit-clause-fronts : goal.returns-in-Audit-clause-fronts
returns-in-Audit-clause-fronts g c = (c.audit.ensures.capture_front, c.audit.ensures.text_front)

pub returns-in-Weigh-clause-formats : goal.returns-in-Weigh-clause-formats
returns-in-Weigh-clause-formats g c = λ settings is. absurd (cc (is, c.in-Weigh.is))

pub returns-in-Report-clause-formats : goal.returns-in-Report-clause-formats
returns-in-Report-clause-formats g c = λ settings is. absurd (cc (is, c.in-Report.is))

pub returns-in-Audit-clause-formats : goal.returns-in-Audit-clause-formats
returns-in-Audit-clause-formats g c = λ settings is. absurd (cc (is, c.in-Audit.is))

pub returns-in-Watch-clause-formats : goal.returns-in-Watch-clause-formats
returns-in-Watch-clause-formats g c = λ settings is. absurd (cc (is, c.in-Watch.is))

pub returns-in-Make-clause-formats : goal.returns-in-Make-clause-formats
returns-in-Make-clause-formats g c = λ settings is. absurd (cc (is, c.in-Make.is))

pub returns-in-Demo-clause-formats : goal.returns-in-Demo-clause-formats
returns-in-Demo-clause-formats g c = λ settings is. absurd (cc (is, c.in-Demo.is))

pub returns-in-Weigh-clause-reads : goal.returns-in-Weigh-clause-reads
returns-in-Weigh-clause-reads g c = λ fault is. subst UsesCapture (sym c.in-Weigh.is) tt

pub returns-in-Report-clause-reads : goal.returns-in-Report-clause-reads
returns-in-Report-clause-reads g c = λ fault is. subst UsesCapture (sym c.in-Report.is) tt

pub returns-in-Format-clause-reads : goal.returns-in-Format-clause-reads
returns-in-Format-clause-reads g c = λ fault is. absurd (c.format.ensures.no_capture fault is)

pub returns-in-Audit-clause-reads : goal.returns-in-Audit-clause-reads
returns-in-Audit-clause-reads g c = λ fault is. subst UsesCapture (sym c.in-Audit.is) tt

pub returns-in-Watch-clause-reads : goal.returns-in-Watch-clause-reads
returns-in-Watch-clause-reads g c = λ fault is. absurd (c.watch.ensures.no_capture fault is)

pub returns-in-Make-clause-reads : goal.returns-in-Make-clause-reads
returns-in-Make-clause-reads g c = λ fault is. absurd (c.make.ensures.no_capture fault is)

pub returns-in-Demo-clause-reads : goal.returns-in-Demo-clause-reads
returns-in-Demo-clause-reads g c = λ fault is. absurd (c.demo.ensures.no_capture fault is)

pub returns-in-Weigh-clause-unread : goal.returns-in-Weigh-clause-unread
returns-in-Weigh-clause-unread g c = λ none. absurd (none (subst UsesCapture (sym c.in-Weigh.is) tt))

pub returns-in-Report-clause-unread : goal.returns-in-Report-clause-unread
returns-in-Report-clause-unread g c = λ none. absurd (none (subst UsesCapture (sym c.in-Report.is) tt))

pub returns-in-Audit-clause-unread : goal.returns-in-Audit-clause-unread
returns-in-Audit-clause-unread g c = λ none. absurd (none (subst UsesCapture (sym c.in-Audit.is) tt))

pub returns-in-Audit-clause-text_unread : goal.returns-in-Audit-clause-text_unread
returns-in-Audit-clause-text_unread g c = λ none. absurd (none (subst UsesSession (sym c.in-Audit.is) tt))

pub returns-in-Watch-clause-text_unread : goal.returns-in-Watch-clause-text_unread
returns-in-Watch-clause-text_unread g c = λ none. absurd (none (subst UsesSession (sym c.in-Watch.is) tt))

pub returns-in-Format-clause-unused : goal.returns-in-Format-clause-unused
returns-in-Format-clause-unused g c = λ none. absurd (none (subst UsesStore (sym c.in-Format.is) tt))
