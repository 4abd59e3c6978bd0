use Rattle.std.proofs.Common.{◌<◌, ◌≤◌, ◌^◌, length, subst}
use Rattle.shard_state.specs.Cut.{CutValue, total_of_cut}
use Rattle.shard_state.proofs.CutSnapshotLemmas.{total_of_cut-few_snapshots}
use Rattle.shard_state.proofs.cut.Cut.shards.Goals as goal

pub returns-clause-bounded : goal.returns-clause-bounded
returns-clause-bounded c =
    subst (λ (cut : CutValue). length cut.shards ≤ 16 → total_of_cut cut < 2 ^ 60) c.self.view_is
    (total_of_cut-few_snapshots (record {
      shape = record { grain = c.self.inside.grain; capacity = c.self.inside.capacity };
      shards = c.self.inside.shards.items;
    }) c.self.invariant)
