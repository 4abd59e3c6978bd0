-- The staircase law: how many kept pairs of the lines that cover a record meet over it.
use Rattle.std.specs.Prelude.{◌≡◌, ◌+◌, ◌≤◌, List}
use Rattle.prefix_lattice.specs.Record.{RecordValue}
use Rattle.prefix_lattice.specs.Prefix.{PrefixValue}
use Rattle.prefix_lattice.specs.KeptPairs.{kept_pairs}
use Rattle.prefix_lattice.specs.ClosestLines.{covering_count}

-- the staircase law: if n of these prefixes cover a record and n is at least 1, exactly n - 1 of their kept pairs
-- have a meet that covers it
abbrev pub ObeyStaircase : List PrefixValue → RecordValue → Type 0
ObeyStaircase members rec =
    1 ≤ covering_count rec members → covering_count rec (kept_pairs members) + 1 ≡ covering_count rec members
