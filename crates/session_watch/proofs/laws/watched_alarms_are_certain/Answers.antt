use Rattle.std.proofs.Common.{[], ◌∷◌}
use Rattle.session_watch.proofs.HeavyAlarmLemmas.{heavy_alarms}
use Rattle.session_watch.proofs.laws.watched_alarms_are_certain.Goals as goal

pub returns-clause-certain : goal.returns-clause-certain
returns-clause-certain g c = λ rule reports text watch.
    c.alarms_are_certain.ensures (rule ∷ []) reports watch.alarms watch.are_alarms

pub returns-clause-heavy : goal.returns-clause-heavy
returns-clause-heavy g c = λ rule reports text watch.
    heavy_alarms rule reports watch.alarms (c.alarms_are_certain.ensures (rule ∷ []) reports watch.alarms watch.are_alarms)
