use Rattle.std.proofs.Common.{List, ap}
use Rattle.shard_state.proofs.EmptyTableLemmas.{empty_tables_are_made}
use Rattle.shard_state.specs.Snapshot.{SnapshotValue, TableShape}
use Rattle.space_saving.specs.declared.entry.Entry.{Entry}
use Rattle.shard_state.proofs.snapshot.Snapshot.with_room.Goals as goal

pub invariant_of-result : goal.invariant_of-result
invariant_of-result c =
    let shape : TableShape = record { grain = c.args.grain; capacity = c.args.capacity } in
    let made = empty_tables_are_made shape c.in_ok-empty_tables.field-0.items c.in_ok-empty_tables.ensures
    c.requires.least c.requires.most c.requires.of_grain in
    (made.alike, made.is_snapshot)

pub returns : goal.returns
returns c =
    let shape : TableShape = record { grain = c.args.grain; capacity = c.args.capacity } in
    let made = empty_tables_are_made shape c.in_ok-empty_tables.field-0.items c.in_ok-empty_tables.ensures
    c.requires.least c.requires.most c.requires.of_grain in
    let with_tables : List (List Entry) → SnapshotValue =
    λ ts. record { shape = shape; position = 0; tables = ts } in
    ap with_tables made.entries
