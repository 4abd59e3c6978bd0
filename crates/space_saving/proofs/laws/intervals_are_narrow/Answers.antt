use Rattle.space_saving.proofs.IntervalWidthLemmas.{interval_width_is_narrow, interval_width_over_missing_high}
use Rattle.space_saving.proofs.laws.intervals_are_narrow.Goals as goal

pub returns-clause-ordered : goal.returns-clause-ordered
returns-clause-ordered c = λ capacity entries key table. (interval_width_is_narrow capacity entries key table).ordered

pub returns-clause-within_total : goal.returns-clause-within_total
returns-clause-within_total c = λ capacity entries key table.
    (interval_width_is_narrow capacity entries key table).within_total

pub returns-clause-narrow : goal.returns-clause-narrow
returns-clause-narrow c = λ capacity entries key table. (interval_width_is_narrow capacity entries key table).narrow

pub returns-clause-above_missing : goal.returns-clause-above_missing
returns-clause-above_missing c = λ capacity entries key table. interval_width_over_missing_high capacity entries key table
