-- The pairs of lines whose meets count towards a bound.
use Rattle.std.specs.Prelude.{◌&&◌, ◌||◌, not, Bool, List, [], ◌∷◌, ◌++◌, Option, None, Some, if◌then◌else◌}
use Rattle.std.specs.List.{list_any, filter_map}
use Rattle.prefix_lattice.specs.Prefix.{PrefixValue}
use Rattle.prefix_lattice.specs.Lattice.{under, same_as}
use Rattle.prefix_lattice.specs.Meets.{meet}

-- a prefix is under some member besides these two
abbrev pub under_third : List PrefixValue → PrefixValue → PrefixValue → PrefixValue → Bool
under_third members first second prefix =
    list_any (λ third. under prefix third && not (same_as third first || same_as third second)) members

-- the prefix, unless it is under a third member
abbrev pub unless_third : List PrefixValue → PrefixValue → PrefixValue → Option PrefixValue → Option PrefixValue
unless_third members first second None = None
unless_third members first second (Some prefix) =
    if under_third members first second prefix then None else Some prefix

-- the meet of a pair of members, if the pair is kept: the meet exists and is under no third member
abbrev pub pair_meet : List PrefixValue → PrefixValue → PrefixValue → Option PrefixValue
pair_meet members first second = unless_third members first second (meet first second)

-- the meets of the kept pairs whose first member is in this list, and whose second member follows it there
abbrev pub pair_meets : List PrefixValue → List PrefixValue → List PrefixValue
pair_meets members [] = []
pair_meets members (first ∷ rest) = filter_map (pair_meet members first) rest ++ pair_meets members rest

-- the meets of the kept pairs of some members, each pair once
abbrev pub kept_pairs : List PrefixValue → List PrefixValue
kept_pairs members = pair_meets members members
