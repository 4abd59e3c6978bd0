use Rattle.std.proofs.Common.{ap, sym, ◌∙◌}
use Rattle.shard_state.specs.Snapshot.{tables_of}
use Rattle.shard_state.proofs.SnapshotPartLemmas.{snapshot_parts_from_entries}
use Rattle.shard_state.proofs.snapshot.Snapshot.tables.Goals as goal

pub returns-clause-tables : goal.returns-clause-tables
returns-clause-tables c =
    c.as_slice.ensures.value ∙ sym (snapshot_parts_from_entries c.self.inside.capacity c.self.inside.tables.items c.self.invariant.0)
    ∙ ap tables_of c.self.view_is
