-- The node of a prefix of a grain, and its level.
use Rattle.std.proofs.Common.{◌<◌, ◌≤◌, length, refl, arith}
use Rattle.prefix_lattice.specs.{PrefixValue, IsPrefix, IsNode, node_index, node_count, node_of_prefix, prefix_level}
use Rattle.prefix_lattice.specs.{deepest_level, finest_grain}
use Rattle.prefix_lattice.specs.declared.grain.Grain.{Grain}
use Rattle.prefix_lattice.proofs.GrainLemmas.{grain_numbers}
use Rattle.prefix_lattice.proofs.NodePlaceLemmas.{node_place_is_small}

-- it is a node of the grain
pub prefix_node_is_valid : {grain : Grain} (prefix : PrefixValue) → IsPrefix grain prefix
    → IsNode grain (node_of_prefix grain prefix)
prefix_node_is_valid prefix is = record {
  of_grain = refl;
  source = record { few = is.source.few; whole = is.source_steps };
  dest = record { few = is.dest.few; whole = is.dest_steps };
}

-- so its index is below the number of nodes
pub prefix_node_place_is_small : {grain : Grain} (prefix : PrefixValue) → IsPrefix grain prefix
    → node_index (node_of_prefix grain prefix) < node_count grain
prefix_node_place_is_small {grain} prefix is =
    node_place_is_small (node_of_prefix grain prefix) (prefix_node_is_valid prefix is)

-- a prefix keeps no more bits than both addresses have
pub prefix_level-few : {grain : Grain} (prefix : PrefixValue) → IsPrefix grain prefix
    → prefix_level prefix ≤ deepest_level
prefix_level-few prefix is = omega (arith, is.source.few, is.dest.few)

-- and is of the finest grain too
pub prefix_is_of_finest_grain : {grain : Grain} (prefix : PrefixValue) → IsPrefix grain prefix
    → IsPrefix finest_grain prefix
prefix_is_of_finest_grain {grain} prefix is = record {
  source = is.source;
  dest = is.dest;
  source_steps = (grain_numbers grain).refines (length prefix.source) is.source_steps;
  dest_steps = (grain_numbers grain).refines (length prefix.dest) is.dest_steps;
}
