use Rattle.cut_merge.proofs.MergedIntervalLemmas.{merged_interval_holds}
use Rattle.cut_merge.proofs.laws.merged_intervals_hold_weights.Goals as goal

pub returns : goal.returns
returns c = λ cut lists prefix kept stands weighed is_prefix.
    merged_interval_holds (record { weight = c.snapshots_hold_weights.ensures.weight }) cut lists prefix kept stands weighed
    is_prefix
