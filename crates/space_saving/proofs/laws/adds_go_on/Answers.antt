use Rattle.std.proofs.Common.{[], ◌∷◌}
use Rattle.space_saving.proofs.AddsLemmas.{table_of-more_adds}
use Rattle.space_saving.proofs.laws.adds_go_on.Goals as goal

pub returns-clause-more : goal.returns-clause-more
returns-clause-more c = table_of-more_adds

pub returns-clause-one_more : goal.returns-clause-one_more
returns-clause-one_more c = λ capacity earlier last. table_of-more_adds capacity earlier (last ∷ [])
