use Rattle.hhh_engine.specs.Tasks.{weigh_task}
use Rattle.hhh_engine.proofs.CaptureReportLemmas.{capture_report_ends_without_text}
use Rattle.hhh_engine.proofs.commands.weigh.weigh.Goals as goal

pub returns-in-Err-clause-ends : goal.returns-in-Err-clause-ends
returns-in-Err-clause-ends g c = λ other.
    capture_report_ends_without_text (weigh_task c.args.prefix.now c.args.settings.now (g.S.Source.left c.args.capture.now)
    (g.S.Source.left c.read_weight.new.capture))
    g.K.Sink _ _ _ other c.args.sink.now tt tt c.in-Err.status c.in-Err.ensures.refused
    (λ none. c.in-Err.ensures.told (λ is. none (cc is)))
