use Rattle.cut_merge.proofs.MergedIntervalLemmas.{merged_interval_within_total, merged_interval_is_light}
use Rattle.cut_merge.proofs.laws.merged_intervals_are_narrow.Goals as goal

pub returns-clause-within : goal.returns-clause-within
returns-clause-within c = λ cut prefix kept is_prefix.
    merged_interval_within_total c.tables_are_bounded.ensures cut prefix kept is_prefix

pub returns-clause-light : goal.returns-clause-light
returns-clause-light c = λ cut prefix kept is_prefix missing.
    merged_interval_is_light c.intervals_are_narrow.ensures.narrow cut prefix kept is_prefix missing
