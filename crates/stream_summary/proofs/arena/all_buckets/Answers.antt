use Rattle.std.proofs.Common.{◌≢◌, ◌<◌, sym, subst, arith}
use Rattle.std.specs.Prelude.{All}
use Rattle.std.proofs.lemmas.List.Elements.{All-from_recursion}
use Rattle.stream_summary.specs.Lists.{numbers_below}
use Rattle.stream_summary.proofs.AllInPairwiseLemmas.{all_map}
use Rattle.stream_summary.proofs.EmptyArenaLemmas.{arena_numbers_below_are_below}
use Rattle.stream_summary.proofs.arena.all_buckets.Goals as goal

pub push-requires-clause-apart : goal.push-requires-clause-apart
push-requires-clause-apart c =
    let index = c.loop-index.index in
    subst (All (λ other. other ≢ c.from_index.result.0)) (sym c.loop-index.invariant.order)
    (All-from_recursion (λ other. other ≢ c.from_index.result.0) (numbers_below index)
    (all_map (λ x (low : x < index). λ same. omega (arith, low, same, c.from_index.ensures)) (numbers_below index) (arena_numbers_below_are_below index)))
