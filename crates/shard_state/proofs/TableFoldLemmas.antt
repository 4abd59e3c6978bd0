-- Tables after more records.
use Rattle.std.proofs.Common.{◌≡◌, ℕ, ◌+◌, ◌^◌, ◌<◌, ◌≤◌, zero, suc, List, [], ◌∷◌, ◌++◌, length, get_or, map, All}
use Rattle.std.proofs.Common.{refl, sym, ap, ◌∙◌, arith, subst, fold, take}
use Rattle.std.proofs.lemmas.List.{map-append, take_more}
use Rattle.std.proofs.lemmas.List.Sums.{fold-append, sum_by-cons}
use Rattle.std.proofs.lemmas.List.Elements.{All-head, All-tail}
use Rattle.prefix_lattice.specs.{RecordValue, NodeValue, IsNode, node_index, node_at, prefix_at, prefix_key}
use Rattle.prefix_lattice.specs.{total_weight, IsPrefixKey, node_count}
use Rattle.space_saving.specs.declared.entry.Entry.{Entry}
use Rattle.space_saving.specs.{TableAdd, after_step, table_total, IsTable}
use Rattle.shard_state.specs.Snapshot.{adds_of, fold_at, fold_from, IsTableAt}
use Rattle.shard_state.specs.Snapshot.{SnapshotValue, IsSnapshot, snapshot_total, entries_at}
use Rattle.shard_state.specs.Snapshot.{tables_after, TableShape}
use Rattle.prefix_lattice.proofs.NodePlaceLemmas.{node_count-some, node_place_is_small, node_at_own_place, IsNode-node_at_place}
use Rattle.shard_state.proofs.RootTableLemmas.{entries_at_root, root_table_node_of_grain}
use Rattle.shard_state.proofs.KeyPropertyLemmas.{KeysHaveProperty-step}
use Rattle.shard_state.proofs.SnapshotPartLemmas.{snapshot_part_with_entries}

-- an add of a record at a node
abbrev pub table_fold_add : NodeValue → RecordValue → TableAdd
table_fold_add node rec = record { key = prefix_key (prefix_at node rec); weight = rec.weight }

-- records may come in parts
pub fold_at-append_in_table : (capacity : ℕ) (node : NodeValue) (entries : List Entry) (front rest : List RecordValue)
    → fold_at capacity node entries (front ++ rest) ≡ fold_at capacity node (fold_at capacity node entries front) rest
fold_at-append_in_table capacity node entries front rest =
    ap (fold (after_step capacity) entries) (map-append (table_fold_add node) front rest)
    ∙ fold-append (after_step capacity) entries (adds_of node front) (adds_of node rest)

-- one record more
pub fold_at-one_more_in_table : (capacity : ℕ) (node : NodeValue) (entries : List Entry) (records : List RecordValue) (n : ℕ) (rec : RecordValue)
    → n < length records → rec ≡ get_or records n rec
    → fold_at capacity node entries (take (n + 1) records)
    ≡ after_step capacity (fold_at capacity node entries (take n records)) (table_fold_add node rec)
fold_at-one_more_in_table capacity node entries records n rec within read =
    ap (fold_at capacity node entries) (take_more records n rec within ∙ ap (λ r. take n records ++ r ∷ []) (sym read))
    ∙ fold_at-append_in_table capacity node entries (take n records) (rec ∷ [])

pub fold_from-append_in_tables : (place : ℕ) (shape : TableShape) (tables : List (List Entry)) (front rest : List RecordValue)
    → fold_from place shape tables (front ++ rest) ≡ fold_from place shape (fold_from place shape tables front) rest
fold_from-append_in_tables place shape [] front rest = refl
fold_from-append_in_tables place shape (entries ∷ tables) front rest =
    ap (λ es. es ∷ fold_from (place + 1) shape tables (front ++ rest)) (fold_at-append_in_table shape.capacity (node_at shape.grain place) entries front
    rest)
    ∙ ap (λ ts. fold_at shape.capacity (node_at shape.grain place) (fold_at shape.capacity (node_at shape.grain place) entries front) rest ∷ ts)
    (fold_from-append_in_tables (place + 1) shape tables front rest)

-- no record changes nothing
pub fold_from-none_in_tables : (place : ℕ) (shape : TableShape) (tables : List (List Entry)) → fold_from place shape tables [] ≡ tables
fold_from-none_in_tables place shape [] = refl
fold_from-none_in_tables place shape (entries ∷ tables) = ap (λ ts. entries ∷ ts) (fold_from-none_in_tables (place + 1) shape tables)

pub fold_from-as_many_tables : (place : ℕ) (shape : TableShape) (tables : List (List Entry)) (records : List RecordValue)
    → length (fold_from place shape tables records) ≡ length tables
fold_from-as_many_tables place shape [] records = refl
fold_from-as_many_tables place shape (entries ∷ tables) records = ap suc (fold_from-as_many_tables (place + 1) shape tables records)

-- each table has its own node
pub fold_from-table_at_place : (place : ℕ) (shape : TableShape) (tables : List (List Entry)) (records : List RecordValue) (k : ℕ) → k < length tables
    → get_or (fold_from place shape tables records) k [] ≡ fold_at shape.capacity (node_at shape.grain (place + k)) (get_or tables k []) records
fold_from-table_at_place place shape [] records k within = absurd (omega arith)
fold_from-table_at_place place shape (entries ∷ tables) records zero within =
    let same : place ≡ place + 0 = omega arith in ap (λ p. fold_at shape.capacity (node_at shape.grain p) entries records) same
fold_from-table_at_place place shape (entries ∷ tables) records (suc k) within =
    let same : place + 1 + k ≡ place + suc k = omega arith in
    fold_from-table_at_place (place + 1) shape tables records k (omega arith)
    ∙ ap (λ p. fold_at shape.capacity (node_at shape.grain p) (get_or tables k []) records) same

-- the same of tables with a capacity
pub tables_after-entries : (place : ℕ) (shape : TableShape) (tables : List (List Entry)) (records : List RecordValue)
    → tables_after shape.grain place (map (snapshot_part_with_entries shape.capacity) tables) records ≡ map (snapshot_part_with_entries shape.capacity)
    (fold_from place shape tables records)
tables_after-entries place shape [] records = refl
tables_after-entries place shape (entries ∷ tables) records =
    ap (λ ts. snapshot_part_with_entries shape.capacity (fold_at shape.capacity (node_at shape.grain place) entries records) ∷ ts)
    (tables_after-entries (place + 1) shape tables records)

-- what a step keeps
pub record TableFoldKeeps : Type 0 where
  pub table : (capacity : ℕ) (entries : List Entry) (add : TableAdd) → 1 ≤ capacity → 1 ≤ add.weight
      → IsTable capacity entries → IsTable capacity (after_step capacity entries add)
  pub total : (capacity : ℕ) (entries : List Entry) (add : TableAdd) → 1 ≤ capacity → table_total (after_step capacity entries add) ≡ table_total
      entries + add.weight
  pub key : (node : NodeValue) (rec : RecordValue) → IsNode node.grain node → IsPrefixKey node (prefix_key (prefix_at node rec))

-- records add their weight to a table, and leave it one of its node
pub IsTableAt-fold : (capacity total : ℕ) (node : NodeValue) (entries : List Entry) (records : List RecordValue) → TableFoldKeeps → 1 ≤ capacity
    → IsNode node.grain node
    → All (λ (r : RecordValue). 1 ≤ r.weight) records → total + total_weight records < 2 ^ 56 → IsTableAt capacity total node entries
    → IsTableAt capacity (total + total_weight records) node (fold_at capacity node entries records)
IsTableAt-fold capacity total node entries [] keep some is_node weighed fits is_table =
    let same : total ≡ total + 0 = omega arith in subst (λ n. IsTableAt capacity n node entries) same is_table
IsTableAt-fold capacity total node entries (rec ∷ records) keep some is_node weighed fits is_table =
    let weighs : 1 ≤ rec.weight = All-head (λ (r : RecordValue). 1 ≤ r.weight) rec records weighed in
    let sums : total_weight (rec ∷ records) ≡ rec.weight + total_weight records = sum_by-cons (λ (r : RecordValue). r.weight) rec records in
    let grew : table_total (after_step capacity entries (table_fold_add node rec)) ≡ total + rec.weight =
    keep.total capacity entries (table_fold_add node rec) some ∙ ap (λ n. n + rec.weight) is_table.counted in
    let stepped : IsTableAt capacity (total + rec.weight) node (after_step capacity entries (table_fold_add node rec)) = record {
      are_entries = record {
        is_table = keep.table capacity entries (table_fold_add node rec) some weighs is_table.are_entries.is_table;
        bounded = omega arith;
      };
      counted = grew;
      keyed = KeysHaveProperty-step (IsPrefixKey node) capacity entries (table_fold_add node rec) (keep.key node rec is_node) is_table.keyed;
    } in
    let same : total + rec.weight + total_weight records ≡ total + total_weight (rec ∷ records) = omega arith in
    subst (λ n. IsTableAt capacity n node (fold_at capacity node (after_step capacity entries (table_fold_add node rec)) records)) same
    (IsTableAt-fold capacity (total + rec.weight) node (after_step capacity entries (table_fold_add node rec)) records keep some is_node
    (All-tail (λ (r : RecordValue). 1 ≤ r.weight) rec records weighed) (omega arith) stepped)

-- a snapshot after more records
abbrev pub snapshot_after_table_fold : SnapshotValue → ℕ → List RecordValue → SnapshotValue
snapshot_after_table_fold snapshot position records = record {
  shape = snapshot.shape;
  position = position;
  tables = fold_from 0 snapshot.shape snapshot.tables records;
}

-- the entries at a node after more records
pub table_fold_at_shard_node : (snapshot : SnapshotValue) (position : ℕ) (records : List RecordValue)
    (node : NodeValue) → length snapshot.tables ≡ node_count snapshot.shape.grain
    → IsNode snapshot.shape.grain node
    → entries_at node (snapshot_after_table_fold snapshot position records) ≡ fold_at snapshot.shape.capacity node
    (entries_at node snapshot) records
table_fold_at_shard_node snapshot position records node as_many is_node =
    let small : node_index node < node_count snapshot.shape.grain = node_place_is_small node is_node in
    let place : 0 + node_index node ≡ node_index node = omega arith in
    fold_from-table_at_place 0 snapshot.shape snapshot.tables records (node_index node) (omega arith)
    ∙ ap (λ p. fold_at snapshot.shape.capacity (node_at snapshot.shape.grain p) (entries_at node snapshot) records) place
    ∙ ap (λ n. fold_at snapshot.shape.capacity n (entries_at node snapshot) records) (node_at_own_place node is_node)

-- what more records make of a snapshot
pub record TableFoldAdvances (snapshot : SnapshotValue) (position : ℕ) (records : List RecordValue) : Type 0 where
  pub is_snapshot : IsSnapshot (snapshot_after_table_fold snapshot position records)
  pub total : snapshot_total (snapshot_after_table_fold snapshot position records) ≡ snapshot_total snapshot + total_weight records

pub table_fold_advances : (snapshot : SnapshotValue) (position : ℕ) (records : List RecordValue) → TableFoldKeeps → IsSnapshot snapshot → position ≤ 2 ^ 24
    → All (λ (r : RecordValue). 1 ≤ r.weight) records → snapshot_total snapshot + total_weight records < 2 ^ 56 → TableFoldAdvances snapshot position records
table_fold_advances snapshot position records keep is placed weighed fits =
    let some : 1 ≤ snapshot.shape.capacity = omega (arith, is.least) in
    let total = snapshot_total snapshot + total_weight records in
    let at : (node : NodeValue) → IsNode snapshot.shape.grain node
    → IsTableAt snapshot.shape.capacity total node (entries_at node (snapshot_after_table_fold snapshot position records)) =
    λ node is_node. subst (IsTableAt snapshot.shape.capacity total node) (sym (table_fold_at_shard_node snapshot position records node is.as_many is_node))
    (IsTableAt-fold snapshot.shape.capacity (snapshot_total snapshot) node (entries_at node snapshot) records keep some
    (root_table_node_of_grain node is_node) weighed fits
    (is.tables node is_node)) in
    let grain = snapshot.shape.grain in
    let root : IsNode grain (node_at grain 0) = IsNode-node_at_place grain 0 (node_count-some grain) in
    let grew : snapshot_total (snapshot_after_table_fold snapshot position records) ≡ total =
    ap table_total (sym (entries_at_root grain (snapshot_after_table_fold snapshot position records))) ∙ (at (node_at grain 0) root).counted in
    record {
      is_snapshot = record {
        least = is.least;
        most = is.most;
        of_grain = is.of_grain;
        placed = placed;
        as_many = fold_from-as_many_tables 0 snapshot.shape snapshot.tables records ∙ is.as_many;
        tables = λ node is_node.
            subst (λ n. IsTableAt snapshot.shape.capacity n node (entries_at node (snapshot_after_table_fold snapshot position records)))
            (sym grew) (at node is_node);
      };
      total = grew;
    }
