use Rattle.report_session.specs.Saving.{AreKeptOnDisk}
use Rattle.dealt_capture.specs.{rules_by}
use Rattle.report_session.proofs.OwnReportLemmas.{own_reports_are_sound}
use Rattle.report_session.proofs.laws.own_reports_are_sound.Goals as goal

pub returns : goal.returns
returns g c = λ formula before now settings store file text is represents.
    own_reports_are_sound settings (rules_by formula) (AreKeptOnDisk g.D.Disk before now) store file text is represents
