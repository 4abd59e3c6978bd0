use Rattle.std.proofs.Common.{ap, refl}
use Rattle.hhh_engine.specs.Ending.{faults_of_source}
use Rattle.hhh_engine.specs.Tasks.{report_task}
use Rattle.report_session.specs.{IsAsBefore-untouched}
use Rattle.hhh_engine.proofs.CaptureReportLemmas.{capture_report_tells_disk_fault, capture_report_ends}
use Rattle.hhh_engine.proofs.CaptureReportLemmas.{capture_report_ends_without_text}
use Rattle.hhh_engine.proofs.commands.report.report.Goals as goal

pub returns-in-Err-clause-ends : goal.returns-in-Err-clause-ends
returns-in-Err-clause-ends g c = λ other.
    let disk = c.args.disk.now in
    capture_report_ends_without_text (report_task g.D.Disk c.args.settings.now _ (g.S.Source.left c.args.capture.now)
    (g.S.Source.left c.read_dealt.new.capture) disk disk)
    g.K.Sink _ _ _ other c.args.sink.now refl (IsAsBefore-untouched g.D.Disk disk disk g.met.D.Disk.only_now refl) c.in-Err.status
    c.in-Err.ensures.refused (λ none. c.in-Err.ensures.told (λ is. none (cc is)))

pub returns-clause-ends : goal.returns-clause-ends
returns-clause-ends g c = λ other.
    capture_report_ends g.K.Sink g.D.Disk c.args.settings.now _ (g.S.Source.left c.args.capture.now) _ _ _ _ _ _ _
    c.in-Ok.fed.dealt c.in-Ok.fed.tail.items c.report_dealt.result c.in-Ok.ensures.dealt c.in-Ok.ensures.at_end
    (ap (λ count. faults_of_source count other) (c.in-Ok.ensures.told (λ no. cc no))) c.report_dealt.ensures.ends

pub returns-clause-told : goal.returns-clause-told
returns-clause-told g c =
    capture_report_tells_disk_fault g.K.Sink g.D.Disk c.args.settings.now c.in-Ok.fed.dealt c.in-Ok.fed.tail.items _ _ _ _
    c.report_dealt.result c.report_dealt.ensures.ends
