use Rattle.std.proofs.Common.{rules}
use Rattle.std.proofs.lemmas.List.Sorted.{IsNonDecreasingBy-from_sort_by_key}
use Rattle.cut_merge.specs.declared.key_interval.KeyInterval.{KeyInterval}
use Rattle.cut_merge.proofs.run.sort_by_key.Goals as goal

pub returns-clause-rising : goal.returns-clause-rising
returns-clause-rising c =
    IsNonDecreasingBy-from_sort_by_key (λ (i : KeyInterval). i.key) _ c.sort_unstable_by_key.ensures.sorted
    (λ a r q k. search rules)
