use Rattle.std.proofs.Common.{◌≤◌, [], ◌∷◌, sym, subst}
use Rattle.session_watch.proofs.HeavyAlarmLemmas.{heavy_alarms_are_counted}
use Rattle.session_watch.proofs.laws.watched_prefixes_are_told_once.Goals as goal

pub returns : goal.returns
returns g c = λ rule reports text watch prefix.
    let certain = c.alarms_are_certain.ensures (rule ∷ []) reports watch.alarms watch.are_alarms in
    subst (λ n. n ≤ 1) (sym (heavy_alarms_are_counted rule reports prefix watch.alarms certain))
    (c.pairs_are_alarmed_once.ensures (rule ∷ []) reports watch.alarms watch.are_alarms 0 prefix)
