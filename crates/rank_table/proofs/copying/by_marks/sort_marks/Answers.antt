use Rattle.std.proofs.Common.{rules}
use Rattle.std.proofs.lemmas.List.Sorted.{IsNonDecreasingBy-from_sort_by_key}
use Rattle.rank_table.specs.Marks.{rank_of_mark}
use Rattle.rank_table.proofs.copying.by_marks.sort_marks.Goals as goal

pub returns-clause-rising : goal.returns-clause-rising
returns-clause-rising c = IsNonDecreasingBy-from_sort_by_key rank_of_mark _ c.sort_unstable_by_key.ensures.sorted (λ a r q k. search rules)
