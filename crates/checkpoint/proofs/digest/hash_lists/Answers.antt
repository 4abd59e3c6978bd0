use Rattle.std.proofs.Common.{refl, subst}
use Rattle.sha2.specs.Hashers.{Holds256}
use Rattle.checkpoint.specs.Digest.{list_bytes}
use Rattle.checkpoint.proofs.NextValueLemmas.{spelling_of_next_value}
use Rattle.checkpoint.proofs.digest.hash_lists.Goals as goal

pub loop-shard-preserved : goal.loop-shard-preserved
loop-shard-preserved c = λ text holds.
    subst (Holds256 c.hash_list.new.hasher)
    (spelling_of_next_value list_bytes text _ _ c.args.dealt.now c.loop-shard.shard c.list.result.now c.list.ensures.value refl refl)
    (c.hash_list.ensures _ (c.loop-shard.invariant text holds))
