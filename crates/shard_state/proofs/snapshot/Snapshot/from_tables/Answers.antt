use Rattle.std.proofs.Common.{subst, arith}
use Rattle.shard_state.specs.Snapshot.{AreTablesOf}
use Rattle.shard_state.proofs.SnapshotPartLemmas.{AreKeptSnapshotParts, MadeOfSnapshotParts, made_of_snapshot_parts}
use Rattle.shard_state.proofs.SnapshotPartLemmas.{snapshot_parts_from_entries}
use Rattle.shard_state.proofs.snapshot.Snapshot.from_tables.Goals as goal

made : (c : goal.After-capacity) → MadeOfSnapshotParts c.args.grain c.capacity.result c.args.position c.args.tables.items
made c =
    let tables = c.args.tables.items in
    let are : AreTablesOf c.args.grain tables = subst (AreTablesOf c.args.grain) c.deref.ensures.value
    (c.are_tables.ensures.tables.0 c.if-not-are_tables.false) in
    let kept : AreKeptSnapshotParts tables = subst AreKeptSnapshotParts c.deref.ensures.value (c.are_tables.ensures.kept c.if-not-are_tables.false) in
    made_of_snapshot_parts c.args.grain c.args.position tables c.capacity.result c.index.result.now (omega arith) are kept c.index.ensures
    c.capacity.ensures.capacity c.capacity.ensures.least c.capacity.ensures.most

pub invariant_of-result : goal.invariant_of-result
invariant_of-result c = ((made c).alike, (made c).is_snapshot)

pub returns-clause-tables : goal.returns-clause-tables
returns-clause-tables c = snapshot_parts_from_entries c.capacity.result c.args.tables.items (made c).alike
