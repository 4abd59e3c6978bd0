-- The table of the root, which each grain has, and nodes of a grain.
use Rattle.std.proofs.Common.{◌≡◌, [], get_or, ap, sym, subst}
use Rattle.prefix_lattice.specs.{NodeValue, IsNode, node_at}
use Rattle.prefix_lattice.specs.declared.grain.Grain.{Grain}
use Rattle.prefix_lattice.proofs.NodePlaceLemmas.{node_index-node_at_place}
use Rattle.shard_state.specs.Snapshot.{SnapshotValue, entries_at}

-- the first table is that of the root
pub entries_at_root : (grain : Grain) (snapshot : SnapshotValue)
    → entries_at (node_at grain 0) snapshot ≡ get_or snapshot.tables 0 []
entries_at_root grain snapshot = ap (λ place. get_or snapshot.tables place []) (node_index-node_at_place grain 0)

-- a node of some grain is one of its own
pub root_table_node_of_grain : {grain : Grain} (node : NodeValue) → IsNode grain node → IsNode node.grain node
root_table_node_of_grain node is_node = subst (λ grain. IsNode grain node) (sym is_node.of_grain) is_node
