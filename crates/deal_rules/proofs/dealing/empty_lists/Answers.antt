use Rattle.std.proofs.Common.{rules, arith, []}
use Rattle.std.proofs.lemmas.List.FromFn.{map-range_with_len_more}
use Rattle.deal_rules.specs.Dealing.{dealt_list}
use Rattle.deal_rules.proofs.dealing.empty_lists.Goals as goal

pub loop-preserved : goal.loop-preserved
loop-preserved c =
    rw (map-range_with_len_more (λ shard. dealt_list shard [] []) 0 c.loop.counter c.loop.counter (omega arith))
    (search rules)
