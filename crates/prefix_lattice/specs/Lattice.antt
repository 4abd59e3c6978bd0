-- The lattice of prefixes: which is under which.
use Rattle.std.specs.Prelude.{◌&&◌, not, Bool}
use Rattle.prefix_lattice.specs.KeptBits.{begins_with}
use Rattle.prefix_lattice.specs.Prefix.{PrefixValue}

-- a prefix is under another whose kept bits begin its own, on both sides
abbrev pub under : PrefixValue → PrefixValue → Bool
under lower upper = begins_with lower.source upper.source && begins_with lower.dest upper.dest

-- two prefixes are the same where each is under the other
abbrev pub same_as : PrefixValue → PrefixValue → Bool
same_as prefix other = under prefix other && under other prefix

-- a prefix is under another, and not the same
abbrev pub strictly_under : PrefixValue → PrefixValue → Bool
strictly_under lower upper = under lower upper && not (same_as lower upper)
