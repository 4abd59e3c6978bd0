use Rattle.std.proofs.Common.{◌≡◌, ℕ, true, take}
use Rattle.cut_merge.specs.Merged.{NodeRepresents}
use Rattle.cut_merge.specs.CutTables.{tables_at}
use Rattle.cut_merge.specs.NodeMerge.{has_key}
use Rattle.cut_merge.specs.SeenHomes.{is_seen}
use Rattle.cut_merge.proofs.merged.merge_node.Given as goal

-- the shards so far are merged, and their keys are seen
abbrev pub invariant-loop-shard : goal.invariant-loop-shard
invariant-loop-shard l = record {
  merged : NodeRepresents l.merge (take l.shard (tables_at l.node l.cut));
  seen : (key : ℕ) → has_key key l.merge.runs ≡ true → is_seen l.seen key ≡ true;
}
