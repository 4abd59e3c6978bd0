use Rattle.std.proofs.Common.{◌≡◌, ◌++◌, take}
use Rattle.std.specs.List.{flat_map}
use Rattle.checkpoint.specs.Body.{entry_bytes, HasShortKeys}
use Rattle.checkpoint.proofs.encoding.push_entries.Given as goal

abbrev pub invariant-loop-place : goal.invariant-loop-place
invariant-loop-place l =
    (l.out.items ≡ l.fn.out.items ++ flat_map entry_bytes (take l.place l.table.entries))
    × HasShortKeys (take l.place l.table.entries)
