use Rattle.std.proofs.Common.{rules}
use Rattle.std.proofs.lemmas.List.Sorted.{answers_always}
use Rattle.cut_merge.specs.declared.key_interval.KeyInterval.{KeyInterval}
use Rattle.cut_merge.proofs.RunLemmas.{run_search_hits, run_search_misses}
use Rattle.cut_merge.proofs.run.interval_of.Goals as goal

pub returns-in-Ok : goal.returns-in-Ok
returns-in-Ok c =
    run_search_hits c.args.intervals.now c.args.key c.in-Ok.place _ c.requires c.in-Ok.ensures.bound
    (c.in-Ok.ensures.position (λ (i : KeyInterval). i.key) (answers_always _ _ _ (λ f a r after called. search rules)))

pub returns-in-Err : goal.returns-in-Err
returns-in-Err c =
    run_search_misses c.args.intervals.now c.args.key c.in-Err.field-0 c.requires
    (c.in-Err.ensures.position (λ (i : KeyInterval). i.key)
    (answers_always _ _ _ (λ f a r after called. search rules)))
