use Rattle.report_session.specs.Saving.{AreKeptOnDisk}
use Rattle.dealt_capture.specs.{rules_by}
use Rattle.report_session.proofs.ReadBackSessionLemmas.{own_session_reads_back}
use Rattle.report_session.proofs.laws.sessions_read_back.Goals as goal

pub returns : goal.returns
returns g c = λ formula before now settings store file text is limited represents.
    own_session_reads_back c.printed_sessions_read_back.ensures.printed c.files_are_read_or_refused.ensures.limited settings (rules_by formula)
    (AreKeptOnDisk g.D.Disk before now) store file text is limited represents
