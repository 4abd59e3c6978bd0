-- The prefixes that a prefix is under, one at each node that keeps no more than it.
use Rattle.std.specs.Prelude.{◌≡◌, ◌&&◌, nat_le, true, Bool, length, take, Option, None, Some, if◌then◌else◌}
use Rattle.prefix_lattice.specs.Node.{NodeValue}
use Rattle.prefix_lattice.specs.Prefix.{PrefixValue, IsPrefix, node_of_prefix}
use Rattle.prefix_lattice.specs.Lattice.{under}

-- whether a node keeps no more bits of either address than a prefix
abbrev pub is_upper : NodeValue → PrefixValue → Bool
is_upper node prefix =
    nat_le node.source_bits (length prefix.source) && nat_le node.dest_bits (length prefix.dest)

-- a prefix cut down to a node: as many of its leading bits as the node keeps
abbrev pub shortened : PrefixValue → NodeValue → PrefixValue
shortened prefix node = record {
  source = take node.source_bits prefix.source;
  dest = take node.dest_bits prefix.dest;
}

-- the prefix of a node that a prefix is under, if the node keeps no more bits than it
abbrev pub upper_at : PrefixValue → NodeValue → Option PrefixValue
upper_at prefix node = if is_upper node prefix then Some (shortened prefix node) else None

-- an upper prefix is a prefix of this node, and the lower one is under it
pub record IsAbove (prefix upper : PrefixValue) (node : NodeValue) : Type 0 where
  pub is_prefix : IsPrefix node.grain upper
  pub of_node : node_of_prefix node.grain upper ≡ node
  pub is_under : under prefix upper ≡ true
