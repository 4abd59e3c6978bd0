-- The tables of a cut at a node.
use Rattle.std.proofs.Common.{◌≡◌, ℕ, ◌+◌, ◌≤◌, List, [], ◌∷◌, map, sum_by, All, None, refl, sym, ap, subst, ◌∙◌}
use Rattle.std.proofs.lemmas.List.Sums.{sum_by-cons}
use Rattle.std.proofs.lemmas.List.Elements.{All-head, All-tail, All-nil, All-cons, All-weaker}
use Rattle.prefix_lattice.specs.{NodeValue, IsNode, PrefixValue, IsPrefix, node_of_prefix}
use Rattle.prefix_lattice.specs.declared.grain.Grain.{Grain}
use Rattle.space_saving.specs.declared.entry.Entry.{Entry}
use Rattle.space_saving.specs.{TableValue, interval_in, interval_from, table_total, IsTable}
use Rattle.shard_state.specs.{SnapshotValue, TableShape, IsSnapshot, table_at, snapshot_total, CutValue, IsCut}
use Rattle.shard_state.specs.{total_of_cut}
use Rattle.cut_merge.specs.CutTables.{tables_at}
use Rattle.cut_merge.specs.Merged.{CanBeMerged}
use Rattle.cut_merge.proofs.TableMergeLemmas.{table_merge_count}

-- what the law of intervals says of every table
pub record CutTableIntervalsAreBounded : Type 0 where
  pub ordered : (capacity : ℕ) (entries : List Entry) (key : ℕ) → IsTable capacity entries
      → (interval_in (record { capacity = capacity; entries = entries }) key).low
      ≤ (interval_in (record { capacity = capacity; entries = entries }) key).high
  pub within_total : (capacity : ℕ) (entries : List Entry) (key : ℕ) → IsTable capacity entries
      → (interval_in (record { capacity = capacity; entries = entries }) key).high ≤ table_total entries
  pub above_missing : (capacity : ℕ) (entries : List Entry) (key : ℕ) → IsTable capacity entries
      → (interval_from None (record { capacity = capacity; entries = entries })).high
      ≤ (interval_in (record { capacity = capacity; entries = entries }) key).high

-- in every cut the intervals of the tables at a node are bounded
abbrev pub CutTablesAreBounded : Type 0
CutTablesAreBounded =
    (cut : CutValue) (node : NodeValue) (key : ℕ) → IsCut cut → IsNode cut.shape.grain node
    → All (CanBeMerged key) (tables_at node cut)

-- the node of a prefix is one of its grain
pub cut_table_node_is_node : {grain : Grain} (prefix : PrefixValue) → IsPrefix grain prefix → IsNode grain (node_of_prefix grain prefix)
cut_table_node_is_node prefix is_prefix = record {
  of_grain = refl;
  source = record { few = is_prefix.source.few; whole = is_prefix.source_steps };
  dest = record { few = is_prefix.dest.few; whole = is_prefix.dest_steps };
}

-- a node is one of the grain of each snapshot
abbrev pub HaveCutNode : NodeValue → List SnapshotValue → Type 0
HaveCutNode node shards = All (λ (s : SnapshotValue). IsNode s.shape.grain node) shards

-- a node of a cut's grain is one of the grain of each of its snapshots
pub cut_node_in_shards : (cut : CutValue) (node : NodeValue) → IsCut cut → IsNode cut.shape.grain node → HaveCutNode node cut.shards
cut_node_in_shards cut node kept is_node =
    All-weaker (λ (s : SnapshotValue). s.shape ≡ cut.shape) (λ (s : SnapshotValue). IsNode s.shape.grain node)
    (λ s same. subst (λ (shape : TableShape). IsNode shape.grain node) (sym same) is_node) cut.shards kept.alike

pub cut_node_at_head : (node : NodeValue) (snapshot : SnapshotValue) (shards : List SnapshotValue)
    → HaveCutNode node (snapshot ∷ shards) → IsNode snapshot.shape.grain node
cut_node_at_head node snapshot shards nodes = All-head (λ (s : SnapshotValue). IsNode s.shape.grain node) snapshot shards nodes

pub cut_node_in_tail : (node : NodeValue) (snapshot : SnapshotValue) (shards : List SnapshotValue)
    → HaveCutNode node (snapshot ∷ shards) → HaveCutNode node shards
cut_node_in_tail node snapshot shards nodes = All-tail (λ (s : SnapshotValue). IsNode s.shape.grain node) snapshot shards nodes

-- so it is in a table of a snapshot
cut_table_is_bounded : (node : NodeValue) (snapshot : SnapshotValue) (key : ℕ) → CutTableIntervalsAreBounded
    → IsNode snapshot.shape.grain node
    → IsSnapshot snapshot → CanBeMerged key (table_at node snapshot)
cut_table_is_bounded node snapshot key law is_node kept =
    let t = table_at node snapshot in
    let table = ((kept.tables node is_node).are_entries).is_table in
    record {
      ordered = law.ordered t.capacity t.entries key table;
      within_total = law.within_total t.capacity t.entries key table;
      above_missing = law.above_missing t.capacity t.entries key table;
    }

-- and in those of all shards
cut_tables_are_bounded : (node : NodeValue) (shards : List SnapshotValue) (key : ℕ) → CutTableIntervalsAreBounded
    → HaveCutNode node shards → All IsSnapshot shards
    → All (CanBeMerged key) (map (table_at node) shards)
cut_tables_are_bounded node [] key law nodes kept = All-nil (CanBeMerged key)
cut_tables_are_bounded node (snapshot ∷ shards) key law nodes kept =
    All-cons (CanBeMerged key) (table_at node snapshot) (map (table_at node) shards)
    (cut_table_is_bounded node snapshot key law (cut_node_at_head node snapshot shards nodes) (All-head IsSnapshot snapshot shards kept))
    (cut_tables_are_bounded node shards key law (cut_node_in_tail node snapshot shards nodes) (All-tail IsSnapshot snapshot shards kept))

-- so the law of intervals bounds those of every cut
pub cut_tables_bounded_by_law : CutTableIntervalsAreBounded → CutTablesAreBounded
cut_tables_bounded_by_law law cut node key kept is_node =
    cut_tables_are_bounded node cut.shards key law (cut_node_in_shards cut node kept is_node) kept.kept

-- what they count together is the total of the cut
cut_tables_count_shards : (node : NodeValue) (shards : List SnapshotValue) → HaveCutNode node shards → All IsSnapshot shards
    → table_merge_count (map (table_at node) shards) ≡ sum_by snapshot_total shards
cut_tables_count_shards node [] nodes kept = refl
cut_tables_count_shards node (snapshot ∷ shards) nodes kept =
    sum_by-cons (λ (t : TableValue). table_total t.entries) (table_at node snapshot) (map (table_at node) shards)
    ∙ ap (λ n. n + table_merge_count (map (table_at node) shards))
    ((All-head IsSnapshot snapshot shards kept).tables node (cut_node_at_head node snapshot shards nodes)).counted
    ∙ ap (λ n. snapshot_total snapshot + n) (cut_tables_count_shards node shards
    (cut_node_in_tail node snapshot shards nodes) (All-tail IsSnapshot snapshot shards kept))
    ∙ sym (sum_by-cons snapshot_total snapshot shards)

-- at each node
pub cut_tables_count_total : (node : NodeValue) (cut : CutValue) → IsNode cut.shape.grain node → IsCut cut
    → table_merge_count (tables_at node cut) ≡ total_of_cut cut
cut_tables_count_total node cut is_node kept =
    cut_tables_count_shards node cut.shards (cut_node_in_shards cut node kept is_node) kept.kept
