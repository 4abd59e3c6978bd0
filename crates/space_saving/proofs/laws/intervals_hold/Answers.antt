use Rattle.space_saving.proofs.AddsLemmas.{key_held_after_adds, width_after_adds}
use Rattle.space_saving.proofs.laws.intervals_hold.Goals as goal

pub returns-clause-low : goal.returns-clause-low
returns-clause-low c = λ capacity adds key some weighed. (key_held_after_adds capacity adds key some weighed).low

pub returns-clause-high : goal.returns-clause-high
returns-clause-high c = λ capacity adds key some weighed. (key_held_after_adds capacity adds key some weighed).high

pub returns-clause-width : goal.returns-clause-width
returns-clause-width c = width_after_adds
