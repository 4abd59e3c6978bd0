use Rattle.std.proofs.Common.{subst}
use Rattle.std.specs.Io.KnownBytes.{Appends}
use Rattle.outside_io.specs.{AppendsPart}
use Rattle.hhh_engine.specs.Inputs.{inputs}
use Rattle.hhh_engine.proofs.AuditEndLemmas.{audit_ends_broken_off, audit_ends_without_inputs, audit_ends_as_written}
use Rattle.hhh_engine.proofs.ReadOrderLemmas.{read_order_of_made_audit}
use Rattle.hhh_engine.proofs.commands.audit.audit.Goals as goal

pub returns-in-Err-clause-ends : goal.returns-in-Err-clause-ends
returns-in-Err-clause-ends g c = λ store.
    let given = inputs (g.S.Source.left c.args.capture.now) (g.S.Source.left c.read_audited.new.capture)
    (g.T.Source.left c.args.text.now) (g.T.Source.left c.read_audited.new.text) store in
    audit_ends_without_inputs c.args.settings.now _ given _ _ _ _ _ c.in-Err.status (c.in-Err.ensures.refused store)
    (λ other. c.in-Err.ensures.told (λ is. other (cc is)))

pub returns-in-Ok-write_all-clause-ends : goal.returns-in-Ok-write_all-clause-ends
returns-in-Ok-write_all-clause-ends g c = λ store.
    let given = inputs (g.S.Source.left c.args.capture.now) (g.S.Source.left c.read_audited.new.capture)
    (g.T.Source.left c.args.text.now) (g.T.Source.left c.read_audited.new.text) store in
    audit_ends_as_written c.args.settings.now _ given _ _ c.args.sink.now c.write_all.new.sink _ _ _ _ c.in-Ok.audited c.in-Ok-audit_session.answer
    (c.in-Ok.ensures.audited store) c.in-Ok-audit_session.ensures c.in-Ok.ensures.capture_at_end
    c.in-Ok.ensures.text_at_end (c.in-Ok.ensures.told (λ is. cc is))
    (subst (Appends (g.K.Sink.taken c.args.sink.now) (g.K.Sink.taken c.write_all.new.sink)) c.deref.ensures.value
    c.in-Ok-write_all.ensures.whole) c.in-Ok-write_all.ensures.cause.kept

pub returns-clause-ends : goal.returns-clause-ends
returns-clause-ends g c = λ store.
    let given = inputs (g.S.Source.left c.args.capture.now) (g.S.Source.left c.read_audited.new.capture)
    (g.T.Source.left c.args.text.now) (g.T.Source.left c.read_audited.new.text) store in
    audit_ends_broken_off c.args.settings.now _ given _ _ c.args.sink.now c.write_all.new.sink _ _ _ _ c.in-Ok.audited c.in-Ok-audit_session.answer
    (c.in-Ok.ensures.audited store) c.in-Ok-audit_session.ensures c.in-Ok.ensures.capture_at_end
    c.in-Ok.ensures.text_at_end (c.in-Ok.ensures.told (λ is. cc is))
    (subst (AppendsPart (g.K.Sink.taken c.args.sink.now) (g.K.Sink.taken c.write_all.new.sink)) c.deref.ensures.value
    c.in-Err-write_all.ensures.beginning) c.in-Err-write_all.ensures.cause.failed

pub returns-in-Ok-write_all-clause-order : goal.returns-in-Ok-write_all-clause-order
returns-in-Ok-write_all-clause-order g c = λ store.
    read_order_of_made_audit _ _ _ _ c.args.settings.now c.in-Ok.audited.dealt c.in-Ok.audited.session.reports
    c.in-Ok-audit_session.answer.text.items c.in-Ok-audit_session.answer.status c.in-Ok-audit_session.ensures
