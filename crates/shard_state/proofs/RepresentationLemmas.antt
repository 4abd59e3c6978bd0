-- What snapshots and cuts represent.
use Rattle.std.proofs.Common.{◌≡◌, ℕ, ◌+◌, ◌<◌, ◌≤◌, List, [], ◌∷◌, length, take, get_or, map, sum_by, All, refl, sym}
use Rattle.std.proofs.Common.{ap, ◌∙◌, arith, subst}
use Rattle.std.specs.List.{slice_range, AllZip}
use Rattle.std.proofs.lemmas.List.{ext_get_or}
use Rattle.std.proofs.lemmas.List.Sums.{sum_by-cons, sum_by-append}
use Rattle.std.proofs.lemmas.List.Elements.{All-head, All-tail, All-take}
use Rattle.prefix_lattice.specs.{RecordValue, NodeValue, IsNode, node_index, node_at, PrefixValue, IsPrefix}
use Rattle.prefix_lattice.specs.{node_count, node_of_prefix, prefix_key, prefix_weight, total_weight}
use Rattle.space_saving.specs.declared.entry.Entry.{Entry}
use Rattle.space_saving.specs.{TableInterval, interval_in, table_total}
use Rattle.hhh_report.specs.{records_before}
use Rattle.shard_state.specs.Snapshot.{records_table, fold_at, SnapshotValue, IsSnapshot}
use Rattle.shard_state.specs.Snapshot.{empty_snapshot, entries_at, snapshot_total, SnapshotRepresents, TableShape}
use Rattle.shard_state.specs.Cut.{CutValue, IsCut, cut_positions, total_of_cut, CutRepresents}
use Rattle.shard_state.specs.ShardState.{ShardValue, snapshot_of}
use Rattle.shard_state.specs.WeightIntervals.{HoldsNarrowly, HoldsNarrowlyOver}
use Rattle.shard_state.specs.WeightIntervals.{interval_of}
use Rattle.prefix_lattice.proofs.NodePlaceLemmas.{node_count-some, IsNode-node_at_place, node_index-node_at_place}
use Rattle.shard_state.proofs.RootTableLemmas.{entries_at_root}
use Rattle.shard_state.proofs.EmptyTableLemmas.{empty_table_at_place, number_of_empty_tables}
use Rattle.shard_state.proofs.TableFoldLemmas.{fold_at-append_in_table, table_fold_at_shard_node}
use Rattle.shard_state.proofs.TableFoldLemmas.{fold_from-as_many_tables}
use Rattle.shard_state.proofs.ShardStateLemmas.{shard_state_take_further}

-- empty tables represent every list
pub representation_when_empty : (shape : TableShape) (list : List RecordValue) → SnapshotRepresents (empty_snapshot shape) list
representation_when_empty shape list = record {
  within = omega arith;
  as_many = number_of_empty_tables shape.grain;
  tables = λ node is_node. empty_table_at_place shape.grain (node_index node);
}

-- a shard whose base represents its list represents it at each position
pub representation_of_shard : (shard : ShardValue) → SnapshotRepresents shard.base shard.list → shard.base.position ≤ shard.position
    → shard.position ≤ length shard.list
    → SnapshotRepresents (snapshot_of shard) shard.list
representation_of_shard shard stands begun within =
    let records = slice_range shard.list shard.base.position shard.position in
    let capacity = shard.base.shape.capacity in
    record {
      within = within;
      as_many = fold_from-as_many_tables 0 shard.base.shape shard.base.tables records ∙ stands.as_many;
      tables = λ node is_node.
          table_fold_at_shard_node shard.base shard.position records node stands.as_many is_node
          ∙ ap (λ entries. fold_at capacity node entries records) (stands.tables node is_node)
          ∙ sym (fold_at-append_in_table capacity node [] (take shard.base.position shard.list) records)
          ∙ ap (records_table capacity node) (sym (shard_state_take_further shard.list shard.base.position shard.position begun));
    }

-- what tables of records hold
pub record RepresentationLaws : Type 0 where
  pub weight : (shape : TableShape) (prefix : PrefixValue) (records : List RecordValue) → 1 ≤ shape.capacity → IsPrefix shape.grain prefix
      → All (λ (r : RecordValue). 1 ≤ r.weight) records → HoldsNarrowlyOver shape prefix records
  pub total : (capacity : ℕ) (node : NodeValue) (records : List RecordValue) → 1 ≤ capacity
      → table_total (records_table capacity node records) ≡ total_weight records

pub representation_keeps_total : (snapshot : SnapshotValue) (list : List RecordValue) → RepresentationLaws → SnapshotRepresents snapshot list
    → 1 ≤ snapshot.shape.capacity
    → snapshot_total snapshot ≡ total_weight (take snapshot.position list)
representation_keeps_total snapshot list hold stands some =
    let grain = snapshot.shape.grain in
    ap table_total (sym (entries_at_root grain snapshot) ∙ stands.tables (node_at grain 0) (IsNode-node_at_place grain 0 (node_count-some grain)))
    ∙ hold.total snapshot.shape.capacity (node_at grain 0) (take snapshot.position list) some

pub representation_keeps_weight : (snapshot : SnapshotValue) (list : List RecordValue) (prefix : PrefixValue) → RepresentationLaws
    → SnapshotRepresents snapshot list → 1 ≤ snapshot.shape.capacity
    → IsPrefix snapshot.shape.grain prefix → All (λ (r : RecordValue). 1 ≤ r.weight) list
    → HoldsNarrowly (interval_of prefix snapshot) snapshot.shape.capacity
    (prefix_weight prefix (take snapshot.position list)) (snapshot_total snapshot)
representation_keeps_weight snapshot list prefix hold stands some valid weighed =
    let records = take snapshot.position list in
    let capacity = snapshot.shape.capacity in
    let node = node_of_prefix snapshot.shape.grain prefix in
    let is_node : IsNode snapshot.shape.grain node = record {
      of_grain = refl;
      source = record { few = valid.source.few; whole = valid.source_steps };
      dest = record { few = valid.dest.few; whole = valid.dest_steps };
    } in
    let over = hold.weight snapshot.shape prefix records some valid (All-take (λ (r : RecordValue). 1 ≤ r.weight) snapshot.position list weighed) in
    let interval : List Entry → TableInterval = λ entries. interval_in (record { capacity = capacity; entries = entries }) (prefix_key prefix) in
    subst (λ entries. HoldsNarrowly (interval entries) capacity (prefix_weight prefix records) (snapshot_total snapshot))
    (sym (stands.tables node is_node))
    (subst (HoldsNarrowly (interval (records_table capacity node records)) capacity (prefix_weight prefix records))
    (sym (representation_keeps_total snapshot list hold stands some)) over)

-- the totals of snapshots that represent lists
representation_sums_totals : (snapshots : List SnapshotValue) (lists : List (List RecordValue)) → RepresentationLaws
    → AllZip SnapshotRepresents snapshots lists → All IsSnapshot snapshots
    → sum_by snapshot_total snapshots ≡ total_weight (records_before lists (map (λ (s : SnapshotValue). s.position) snapshots))
representation_sums_totals [] [] hold stand kept = refl
representation_sums_totals [] (list ∷ lists) hold stand kept = absurd stand
representation_sums_totals (snapshot ∷ snapshots) [] hold stand kept = absurd stand
representation_sums_totals (snapshot ∷ snapshots) (list ∷ lists) hold stand kept =
    let is : IsSnapshot snapshot = All-head IsSnapshot snapshot snapshots kept in
    let some : 1 ≤ snapshot.shape.capacity = omega (arith, is.least) in
    let later = records_before lists (map (λ (s : SnapshotValue). s.position) snapshots) in
    sum_by-cons snapshot_total snapshot snapshots
    ∙ ap (λ n. n + sum_by snapshot_total snapshots) (representation_keeps_total snapshot list hold stand.0 some)
    ∙ ap (λ n. total_weight (take snapshot.position list) + n) (representation_sums_totals snapshots lists hold stand.1
    (All-tail IsSnapshot snapshot snapshots kept))
    ∙ sym (sum_by-append (λ (r : RecordValue). r.weight) (take snapshot.position list) later)

pub representation_of_cut_total : (cut : CutValue) (lists : List (List RecordValue)) → RepresentationLaws → IsCut cut → CutRepresents cut lists
    → total_of_cut cut ≡ total_weight (records_before lists (cut_positions cut))
representation_of_cut_total cut lists hold is stands = representation_sums_totals cut.shards lists hold stands.shards is.kept

-- snapshots of the same shape at the same position that represent the same list are equal
shard_representation_is_one : (snapshot other : SnapshotValue) (list : List RecordValue) → snapshot.shape ≡ other.shape
    → snapshot.position ≡ other.position
    → SnapshotRepresents snapshot list → SnapshotRepresents other list → snapshot ≡ other
shard_representation_is_one snapshot other list shape position stands other_stands =
    let grain = snapshot.shape.grain in
    let other_tables : (node : NodeValue) → IsNode grain node → entries_at node other ≡ records_table other.shape.capacity node (take other.position list) =
    λ node is_node. other_stands.tables node (subst (λ (s : TableShape). IsNode s.grain node) shape is_node) in
    let as_many : length snapshot.tables ≡ length other.tables =
    stands.as_many ∙ ap (λ (s : TableShape). node_count s.grain) shape ∙ sym other_stands.as_many in
    let table : (place : ℕ) → place < length snapshot.tables → get_or snapshot.tables place [] ≡ get_or other.tables place [] = λ place within.
    let is_node : IsNode grain (node_at grain place) = IsNode-node_at_place grain place (omega (arith, within, stands.as_many)) in
    let at_place : (of : SnapshotValue) → entries_at (node_at grain place) of ≡ get_or of.tables place [] =
    λ of. ap (λ p. get_or of.tables p []) (node_index-node_at_place grain place) in
    sym (at_place snapshot)
    ∙ stands.tables (node_at grain place) is_node
    ∙ (λ i. records_table (shape i).capacity (node_at grain place) (take (position i) list))
    ∙ sym (other_tables (node_at grain place) is_node)
    ∙ at_place other in
    let tables : snapshot.tables ≡ other.tables = ext_get_or [] snapshot.tables other.tables as_many table in
    λ i. record { shape = shape i; position = position i; tables = tables i }

representation_is_one_row : (snapshots others : List SnapshotValue) (lists : List (List RecordValue)) (shape : TableShape)
    → All (λ (s : SnapshotValue). s.shape ≡ shape) snapshots → All (λ (s : SnapshotValue). s.shape ≡ shape) others
    → map (λ (s : SnapshotValue). s.position) snapshots ≡ map (λ (s : SnapshotValue). s.position) others
    → AllZip SnapshotRepresents snapshots lists → AllZip SnapshotRepresents others lists → snapshots ≡ others
representation_is_one_row [] [] lists shape alike other_alike positions stand other_stand = refl
representation_is_one_row [] (other ∷ others) [] shape alike other_alike positions stand other_stand = absurd other_stand
representation_is_one_row [] (other ∷ others) (list ∷ lists) shape alike other_alike positions stand other_stand = absurd stand
representation_is_one_row (snapshot ∷ snapshots) [] [] shape alike other_alike positions stand other_stand = absurd stand
representation_is_one_row (snapshot ∷ snapshots) [] (list ∷ lists) shape alike other_alike positions stand other_stand = absurd other_stand
representation_is_one_row (snapshot ∷ snapshots) (other ∷ others) [] shape alike other_alike positions stand other_stand = absurd stand
representation_is_one_row (snapshot ∷ snapshots) (other ∷ others) (list ∷ lists) shape alike other_alike positions stand other_stand =
    let IsAlike : SnapshotValue → Type 0 = λ s. s.shape ≡ shape in
    let position_of : SnapshotValue → ℕ = λ s. s.position in
    let same_position : snapshot.position ≡ other.position = cc in
    let later_positions : map position_of snapshots ≡ map position_of others = cc in
    let first : snapshot ≡ other =
    shard_representation_is_one snapshot other list
    (All-head IsAlike snapshot snapshots alike ∙ sym (All-head IsAlike other others other_alike)) same_position
    stand.0 other_stand.0 in
    let rest : snapshots ≡ others =
    representation_is_one_row snapshots others lists shape (All-tail IsAlike snapshot snapshots alike)
    (All-tail IsAlike other others other_alike) later_positions stand.1 other_stand.1 in
    λ i. first i ∷ rest i

-- cuts of the same shape at the same positions that represent the same lists are equal
pub representation_is_one_cut : (cut other : CutValue) (lists : List (List RecordValue)) → cut.shape ≡ other.shape
    → cut_positions cut ≡ cut_positions other
    → CutRepresents cut lists → CutRepresents other lists → cut ≡ other
representation_is_one_cut cut other lists shape positions stands other_stands =
    let other_alike : All (λ (s : SnapshotValue). s.shape ≡ cut.shape) other.shards =
    subst (λ c. All (λ (s : SnapshotValue). s.shape ≡ c) other.shards) (sym shape) other_stands.alike in
    let shards : cut.shards ≡ other.shards =
    representation_is_one_row cut.shards other.shards lists cut.shape stands.alike other_alike positions stands.shards
    other_stands.shards in
    λ i. record { shape = shape i; shards = shards i }
