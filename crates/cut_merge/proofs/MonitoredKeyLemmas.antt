-- The keys that a cut monitors at a node.
use Rattle.std.proofs.Common.{◌≡◌, ℕ, ◌*◌, ◌≤◌, List, [], ◌∷◌, length, map, All, subst, add-mul, length-append, arith}
use Rattle.std.proofs.lemmas.List.{length-map}
use Rattle.std.proofs.lemmas.List.Elements.{All-nil, All-head, All-tail, All-append, All-map}
use Rattle.std.specs.List.{flat_map}
use Rattle.prefix_lattice.specs.{NodeValue, IsNode, IsPrefixKey}
use Rattle.space_saving.specs.declared.entry.Entry.{Entry}
use Rattle.shard_state.specs.{SnapshotValue, TableShape, IsSnapshot, table_at, CutValue, IsCut}
use Rattle.cut_merge.specs.CutTables.{keys_of}
use Rattle.cut_merge.specs.CutTables.{tables_at, monitored_in_cut}
use Rattle.cut_merge.proofs.CutTableLemmas.{HaveCutNode, cut_node_in_shards, cut_node_at_head, cut_node_in_tail}
use Rattle.cut_merge.proofs.FirstSeenLemmas.{first_seen-all, first_seen-length}

-- the keys of all entries at a node, over shards and indices
abbrev pub all_monitored_keys : CutValue → NodeValue → List ℕ
all_monitored_keys cut node = flat_map keys_of (tables_at node cut)

-- each table has keys of its node
monitored_keys_fit_node : (node : NodeValue) (shards : List SnapshotValue) → HaveCutNode node shards → All IsSnapshot shards
    → All (IsPrefixKey node) (flat_map keys_of (map (table_at node) shards))
monitored_keys_fit_node node [] nodes kept = All-nil (IsPrefixKey node)
monitored_keys_fit_node node (shard ∷ shards) nodes kept =
    All-append (IsPrefixKey node) (keys_of (table_at node shard)) (flat_map keys_of (map (table_at node) shards))
    (All-map (IsPrefixKey node) (λ (e : Entry). e.key) (table_at node shard).entries
    ((All-head IsSnapshot shard shards kept).tables node (cut_node_at_head node shard shards nodes)).keyed)
    (monitored_keys_fit_node node shards (cut_node_in_tail node shard shards nodes) (All-tail IsSnapshot shard shards kept))

-- they are keys of the node
pub monitored_keyed : (cut : CutValue) (node : NodeValue) → IsCut cut → IsNode cut.shape.grain node
    → All (IsPrefixKey node) (monitored_in_cut cut node)
monitored_keyed cut node kept is_node =
    first_seen-all (IsPrefixKey node) (all_monitored_keys cut node)
    (monitored_keys_fit_node node cut.shards (cut_node_in_shards cut node kept is_node) kept.kept)

-- each table has at most as many entries as its capacity says
monitored_keys_few_in_shards : (node : NodeValue) (shape : TableShape) (shards : List SnapshotValue) → HaveCutNode node shards
    → All (λ (s : SnapshotValue). s.shape ≡ shape) shards → All IsSnapshot shards
    → length (flat_map keys_of (map (table_at node) shards)) ≤ length shards * shape.capacity
monitored_keys_few_in_shards node shape [] nodes alike kept = omega arith
monitored_keys_few_in_shards node shape (shard ∷ shards) nodes alike kept =
    let table = table_at node shard in
    let same : shard.shape ≡ shape = All-head (λ (s : SnapshotValue). s.shape ≡ shape) shard shards alike in
    let fits = (((All-head IsSnapshot shard shards kept).tables node (cut_node_at_head node shard shards nodes)).are_entries).is_table.fits in
    let first : length table.entries ≤ shape.capacity =
    subst (λ (s : TableShape). length table.entries ≤ s.capacity) same fits in
    let rest =
    monitored_keys_few_in_shards node shape shards (cut_node_in_tail node shard shards nodes)
    (All-tail (λ (s : SnapshotValue). s.shape ≡ shape) shard shards alike)
    (All-tail IsSnapshot shard shards kept) in
    omega (
      arith,
      first,
      rest,
      length-append (keys_of table) (flat_map keys_of (map (table_at node) shards)),
      length-map table.entries (λ (e : Entry). e.key),
      add-mul 1 (length shards) shape.capacity,
    )

-- and no more of them than the tables have entries
pub monitored_few : (cut : CutValue) (node : NodeValue) → IsCut cut → IsNode cut.shape.grain node
    → length (monitored_in_cut cut node) ≤ length cut.shards * cut.shape.capacity
monitored_few cut node kept is_node =
    omega (
      arith,
      first_seen-length (all_monitored_keys cut node),
      monitored_keys_few_in_shards node cut.shape cut.shards (cut_node_in_shards cut node kept is_node) kept.alike kept.kept,
    )
