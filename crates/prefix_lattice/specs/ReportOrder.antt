-- The order of the lines of a report.
use Rattle.std.specs.Prelude.{length}
use Rattle.std.specs.declared.cmp.Ordering.{Ordering}
use Rattle.std.specs.Ordering.{nat_cmp, ordering_then}
use Rattle.prefix_lattice.specs.Address.{address_of}
use Rattle.prefix_lattice.specs.Prefix.{PrefixValue, prefix_level}

-- the order of a report: the level falls, then the source address rises, then its kept bits, then the destination
-- address
abbrev pub report_order : PrefixValue → PrefixValue → Ordering
report_order prefix other =
    ordering_then (nat_cmp (prefix_level other) (prefix_level prefix))
    (ordering_then (nat_cmp (address_of prefix.source) (address_of other.source))
    (ordering_then (nat_cmp (length prefix.source) (length other.source))
    (nat_cmp (address_of prefix.dest) (address_of other.dest))))
