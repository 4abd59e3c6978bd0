use Rattle.std.proofs.Common.{All, subst, sym}
use Rattle.session_audit.specs.{IsAuditedSound}
use Rattle.hhh_engine.proofs.laws.alarms_of_sound_sessions_are_certain.Goals as goal

pub returns : goal.returns
returns g c = λ formula settings rule file text answer alarms audit watch.
    let same =
    c.same_sessions_have_equal_reports.ensures audit.session watch.session
    (c.session_texts_have_one_reading.ensures.apart settings.grain text audit.session watch.session audit.audited.is_session watch.is_session) in
    c.watched_alarms_are_certain.ensures.heavy rule watch.session.reports alarms watch.watched settings.grain audit.lists settings.capacity
    settings.phi (subst (All (IsAuditedSound settings audit.lists)) (sym same) audit.sound)
