-- The meet of two prefixes: the greatest prefix under both.
use Rattle.std.specs.Prelude.{ℕ, ◌≡◌, ◌^◌, ◌<◌, true, List, Option, None, Some, if◌then◌else◌}
use Rattle.prefix_lattice.specs.KeptBits.{begins_with}
use Rattle.prefix_lattice.specs.Record.{RecordValue}
use Rattle.prefix_lattice.specs.Prefix.{PrefixValue, covers}

-- one side of a meet: the longer of two lists of kept bits, if it begins with the other
abbrev pub meet_side : List ℕ → List ℕ → Option (List ℕ)
meet_side front other =
    if begins_with front other then Some front else (if begins_with other front then Some other else None)

-- the meet with these two sides, if both are present
abbrev pub meet_of_sides : Option (List ℕ) → Option (List ℕ) → Option PrefixValue
meet_of_sides (Some source) (Some dest) = Some (record { source = source; dest = dest })
meet_of_sides (Some source) None = None
meet_of_sides None dest = None

-- the greatest prefix under two others: on each side the longer list, if it begins with the other
abbrev pub meet : PrefixValue → PrefixValue → Option PrefixValue
meet prefix other = meet_of_sides (meet_side prefix.source other.source) (meet_side prefix.dest other.dest)

-- some pair of addresses is covered by both prefixes
pub record AreOverlapping (prefix other : PrefixValue) : Type 0 where
  pub pair : RecordValue
  pub is_source : pair.src < 2 ^ 32
  pub is_dest : pair.dst < 2 ^ 32
  pub covered : covers prefix pair ≡ true
  pub covered_by_other : covers other pair ≡ true
