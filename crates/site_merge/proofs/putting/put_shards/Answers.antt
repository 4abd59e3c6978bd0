use Rattle.std.proofs.Common.{◌≡◌, ◌∙◌, ℕ, ◌+◌, ◌<◌, ◌++◌, ◌∷◌, [], List, length, take, drop, ap, length-append, arith}
use Rattle.std.proofs.Math.ListN.{set}
use Rattle.std.proofs.lemmas.Grind.{common_steps}
use Rattle.std.specs.Vec.Iter.{into_iter_items}
use Rattle.shard_state.specs.{CutValue, SnapshotValue}
use Rattle.site_merge.proofs.PutShardLemmas.{put_shard_more}
use Rattle.site_merge.proofs.putting.put_shards.Goals as goal

pub loop-snapshot-preserved : goal.loop-snapshot-preserved
loop-snapshot-preserved c =
    let old = c.args.cut.now in
    let put = c.loop-snapshot.yielded in
    let x = c.in-Some.snapshot in
    let rest = into_iter_items c.next.new.self in
    let split : c.args.shards.items ≡ (put ++ x ∷ []) ++ rest = grind (arith, common_steps) in
    let more = length-append put (x ∷ []) in
    let within : c.args.first + length put < length old.shards = omega (
      arith,
      c.requires.within,
      ap (λ (l : List SnapshotValue). length l) split,
      length-append (put ++ x ∷ []) rest,
      more,
    ) in
    let made = λ (shards : List SnapshotValue). record old { shards = shards } in (
      split,
      omega (arith, c.loop-snapshot.invariant.1, more),
      c.put_shard.ensures
          ∙ ap (λ (cut : CutValue). record cut { shards = set cut.shards c.loop-snapshot.shard x }) c.loop-snapshot.invariant.2
          ∙ ap (λ (n : ℕ). made (set (take c.args.first old.shards ++ (put ++ drop (c.args.first + length put) old.shards)) n x))
          c.loop-snapshot.invariant.1
          ∙ ap made (put_shard_more old.shards put c.args.first x within),
    )
