use Rattle.std.proofs.Common.{◌≡◌, ◌+◌, ◌*◌, ◌≤◌, length, take}
use Rattle.std.specs.List.{flat_map}
use Rattle.checkpoint.specs.Body.{table_bytes}
use Rattle.checkpoint.proofs.lengths.snapshot_length.Given as goal

abbrev pub invariant-loop-index : goal.invariant-loop-index
invariant-loop-index l =
    (l.length ≡ 8 + length (flat_map table_bytes (take l.index l.snapshot.tables))) × (l.length ≤ 8 + l.index * 98316)
