use Rattle.std.proofs.Common.{◌≡◌, ◌++◌, take}
use Rattle.std.specs.List.{flat_map}
use Rattle.std.specs.Prelude.{All}
use Rattle.checkpoint.specs.Body.{table_bytes, HasShortKeys}
use Rattle.checkpoint.proofs.encoding.push_tables.Given as goal

abbrev pub invariant-loop-index : goal.invariant-loop-index
invariant-loop-index l =
    (l.out.items ≡ l.fn.out.items ++ flat_map table_bytes (take l.index l.snapshot.tables))
    × All HasShortKeys (take l.index l.snapshot.tables)
