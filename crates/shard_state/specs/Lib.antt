pub mod Snapshot
pub mod Cut
pub mod ShardState
pub mod WeightIntervals
pub mod ShardCore
-- passed on: the limits of the tables of a shard
pub use Rattle.space_saving.specs.{least_capacity, most_capacity}
pub use Rattle.prefix_lattice.specs.{most_grain_capacity}
-- the face: what contracts of other crates cite
pub use Rattle.shard_state.specs.Cut.{CutRepresents, CutValue, IsCut, most_snapshots, cut_positions, total_of_cut}
pub use Rattle.shard_state.specs.ShardCore.{AreCoreShards, BasesRepresent, CoreValue, HasCoreShape, IsCore}
pub use Rattle.shard_state.specs.ShardCore.{ReadsEachShard, core_shape, changed_in, core_lists}
pub use Rattle.shard_state.specs.ShardCore.{core_after_run, with_shard}
pub use Rattle.shard_state.specs.ShardState.{IsShard, ShardValue, folded_shard, snapshot_of, shard_state_at}
pub use Rattle.shard_state.specs.Snapshot.{AreTablesOf, IsSnapshot, SnapshotRepresents, SnapshotValue, TableShape}
pub use Rattle.shard_state.specs.Snapshot.{empty_snapshot, entries_at, fold_from}
pub use Rattle.shard_state.specs.Snapshot.{records_table, table_at, snapshot_total}
unfoldable pub use Rattle.shard_state.specs.Snapshot.{no_entries}
pub use Rattle.shard_state.specs.WeightIntervals.{HoldsNarrowly, HoldsNarrowlyOver}
pub use Rattle.shard_state.specs.WeightIntervals.{interval_of, interval_over}
