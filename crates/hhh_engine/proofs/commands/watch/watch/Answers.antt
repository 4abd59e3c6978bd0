use Rattle.std.proofs.Common.{None, subst}
use Rattle.outside_io.specs.{AppendsPart}
use Rattle.hhh_engine.specs.Inputs.{inputs}
use Rattle.hhh_engine.specs.Reading.{HasNoWatch}
use Rattle.hhh_engine.proofs.WatchEndLemmas.{watch_ends_broken_off, watch_ends_without_text}
use Rattle.hhh_engine.proofs.commands.watch.watch.Goals as goal

pub returns-in-Err-clause-ends : goal.returns-in-Err-clause-ends
returns-in-Err-clause-ends g c = λ capture capture_left store other.
    watch_ends_without_text g.K.Sink c.args.rule c.args.grain _
    (inputs capture capture_left (g.T.Source.left c.args.text.now) (g.T.Source.left c.watch_text.new.text) store) capture other _ _ c.args.sink.now
    c.in-Err.status (c.in-Err.ensures.refused capture capture_left store) (λ none. c.in-Err.ensures.told (λ is. none (cc is)))

pub returns-in-Err-clause-no_capture : goal.returns-in-Err-clause-no_capture
returns-in-Err-clause-no_capture g c = λ fault is.
    subst (HasNoWatch c.args.grain _ _ _) is (c.in-Err.ensures.refused None None None)

pub returns-clause-ends : goal.returns-clause-ends
returns-clause-ends g c = λ capture capture_left store other.
    watch_ends_broken_off g.K.Sink c.args.rule c.args.grain _
    (inputs capture capture_left (g.T.Source.left c.args.text.now) (g.T.Source.left c.watch_text.new.text) store) capture other _ _ c.args.sink.now
    c.write_all.new.sink c.in-Ok.answer.items c.in-Ok.ensures.text c.in-Ok.ensures.at_end (c.in-Ok.ensures.told (λ is. cc is))
    (subst (AppendsPart (g.K.Sink.taken c.args.sink.now) (g.K.Sink.taken c.write_all.new.sink)) c.deref.ensures.value
    c.in-Err-write_all.ensures.beginning) c.in-Err-write_all.ensures.cause.failed
