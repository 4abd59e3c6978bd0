use Rattle.std.proofs.Common.{◌≡◌, ◌+◌, ◌++◌, length, take, drop}
use Rattle.std.specs.Vec.Iter.{into_iter_items}
use Rattle.site_merge.proofs.putting.put_shards.Given as goal

-- the snapshots so far stand in the place of as many shards
abbrev pub invariant-loop-snapshot : goal.invariant-loop-snapshot
invariant-loop-snapshot l =
    (l.fn.shards.items ≡ l.yielded ++ into_iter_items l.snapshot-iterator)
    × (l.shard ≡ l.fn.first + length l.yielded)
    × (l.cut ≡ record l.fn.cut {
      shards = take l.fn.first l.fn.cut.shards ++ (l.yielded ++ drop (l.fn.first + length l.yielded) l.fn.cut.shards);
    })
