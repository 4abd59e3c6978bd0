use Rattle.std.proofs.Common.{◌≡◌, map}
use Rattle.std.specs.Prelude.{All}
use Rattle.std.specs.List.{flat_map}
use Rattle.checkpoint.specs.Body.{table_bytes}
use Rattle.checkpoint.specs.Decoding.{ListFits, BeginsWith, TableFits}
use Rattle.checkpoint.proofs.decoding.read_tables.Given as goal

abbrev pub invariant-loop-index : goal.invariant-loop-index
invariant-loop-index l =
    All (λ table. table.capacity ≡ l.capacity) l.tables.items
    × BeginsWith (flat_map table_bytes) (ListFits (TableFits l.capacity) l._index) l.bytes
    (map (λ table. table.entries) l.tables.items) l.rest
