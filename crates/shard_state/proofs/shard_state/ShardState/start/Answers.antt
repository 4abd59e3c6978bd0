use Rattle.std.proofs.Common.{◌≡◌, take, ap, sym, subst}
use Rattle.prefix_lattice.specs.{total_weight}
use Rattle.space_saving.specs.{table_total}
use Rattle.shard_state.specs.Snapshot.{SnapshotValue, snapshot_total}
use Rattle.shard_state.proofs.EmptyTableLemmas.{empty_table_at_place}
use Rattle.shard_state.proofs.shard_state.ShardState.start.Goals as goal

pub resume-requires-clause-counted : goal.resume-requires-clause-counted
resume-requires-clause-counted c =
    subst (λ (base : SnapshotValue). snapshot_total base ≡ total_weight (take base.position c.args.list)) (sym c.in_ok-base.ensures)
    (ap table_total (empty_table_at_place c.args.grain 0))
