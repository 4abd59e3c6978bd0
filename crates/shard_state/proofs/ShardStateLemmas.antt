-- The state of a shard as it begins, and after more records.
use Rattle.std.proofs.Common.{◌≡◌, ℕ, ◌+◌, ◌*◌, ◌-◌, ◌^◌, ◌<◌, ◌≤◌, List, [], ◌∷◌, ◌++◌, length, get_or, take, drop}
use Rattle.std.proofs.Common.{map, All, refl, sym, ap, ◌∙◌, arith, subst}
use Rattle.std.specs.List.{slice_range}
use Rattle.std.proofs.Math.Seq.{take-add}
use Rattle.std.proofs.lemmas.List.{drop-drop, get_or-drop, length-take-le}
use Rattle.std.proofs.lemmas.List.Sums.{sum_by-append, sum_by-le}
use Rattle.std.proofs.lemmas.List.Elements.{All-take, All-drop, All-weaker, All-map, All-from_get_or}
use Rattle.prefix_lattice.specs.{RecordValue, node_index, node_at, node_count, total_weight}
use Rattle.space_saving.specs.declared.entry.Entry.{Entry}
use Rattle.space_saving.specs.{TableValue, table_total}
use Rattle.shard_state.specs.Snapshot.{fold_from, SnapshotValue, IsSnapshot, snapshot_total}
use Rattle.shard_state.specs.Snapshot.{tables_of, copied_from, tables_after, TableShape}
use Rattle.shard_state.specs.ShardState.{ShardValue, IsShard, snapshot_of}
use Rattle.prefix_lattice.proofs.NodePlaceLemmas.{IsNode-node_at_place, node_index-node_at_place}
use Rattle.shard_state.proofs.SnapshotPartLemmas.{snapshot_part_with_entries, snapshot_part_entries}
use Rattle.shard_state.proofs.TableFoldLemmas.{TableFoldKeeps, TableFoldAdvances, table_fold_advances}
use Rattle.shard_state.proofs.TableFoldLemmas.{fold_from-append_in_tables, fold_from-none_in_tables}
use Rattle.shard_state.proofs.TableFoldLemmas.{tables_after-entries}

-- two lists with the same rest from an index on have the same element there
pub shard_state_place_in_rest : {X : Type 0} → (xs ys : List X) (n : ℕ) (d : X) → drop n xs ≡ drop n ys → get_or xs n d ≡ get_or ys n d
shard_state_place_in_rest xs ys n d same =
    let at : n + 0 ≡ n = omega arith in
    ap (λ k. get_or xs k d) (sym at) ∙ sym (get_or-drop n xs 0 d) ∙ ap (λ l. get_or l 0 d) same ∙ get_or-drop n ys 0 d ∙ ap (λ k. get_or ys k d) at

-- records up to a later position
pub shard_state_range_further : (list : List RecordValue) (from middle to : ℕ) → from ≤ middle → middle ≤ to
    → slice_range list from to ≡ slice_range list from middle ++ slice_range list middle to
shard_state_range_further list from middle to early late =
    let whole : to - from ≡ (middle - from) + (to - middle) = omega arith in
    let behind : from + (middle - from) ≡ middle = omega arith in
    ap (λ n. take n (drop from list)) whole
    ∙ take-add (middle - from) (to - middle) (drop from list)
    ∙ ap (λ l. slice_range list from middle ++ take (to - middle) l) (drop-drop (middle - from) from list ∙ ap (λ n. drop n list) behind)

pub shard_state_take_further : (list : List RecordValue) (middle to : ℕ) → middle ≤ to → take to list ≡ take middle list ++ slice_range list middle to
shard_state_take_further list middle to late =
    let whole : to ≡ middle + (to - middle) = omega arith in
    ap (λ n. take n list) whole ∙ take-add middle (to - middle) list

-- at most 2^24 records weigh less than 2^56 together
pub shard_state_is_light : (list : List RecordValue) (to : ℕ) → length list ≤ 2 ^ 24 → to ≤ length list → All (λ (r : RecordValue). r.weight < 2 ^ 32) list
    → total_weight (take to list) < 2 ^ 56
shard_state_is_light list to few within bounded =
    let each : All (λ (r : RecordValue). r.weight ≤ 4294967295) (take to list) =
    All-weaker (λ (r : RecordValue). r.weight < 2 ^ 32) (λ (r : RecordValue). r.weight ≤ 4294967295) (λ r below. omega arith) (take to list)
    (All-take (λ (r : RecordValue). r.weight < 2 ^ 32) to list bounded) in
    let sum : total_weight (take to list) ≤ length (take to list) * 4294967295 = sum_by-le (λ (r : RecordValue). r.weight) 4294967295 (take to list) each in
    let many : length (take to list) ≡ to = length-take-le to list within in
    omega arith

-- a shard at a later position
pub record ShardStateFoldedOn (shard : ShardValue) (to : ℕ) : Type 0 where
  pub is_shard : IsShard (record shard { position = to })
  pub tables : fold_from 0 shard.base.shape shard.base.tables (slice_range shard.list shard.base.position to)
      ≡ fold_from 0 shard.base.shape (snapshot_of shard).tables (slice_range shard.list shard.position to)

shard_state_tables_further : (shard : ShardValue) (to : ℕ) → IsShard shard → shard.position ≤ to
    → fold_from 0 shard.base.shape shard.base.tables (slice_range shard.list shard.base.position to)
    ≡ fold_from 0 shard.base.shape (snapshot_of shard).tables (slice_range shard.list shard.position to)
shard_state_tables_further shard to is later =
    ap (fold_from 0 shard.base.shape shard.base.tables) (shard_state_range_further shard.list shard.base.position shard.position to is.begun later)
    ∙ fold_from-append_in_tables 0 shard.base.shape shard.base.tables
    (slice_range shard.list shard.base.position shard.position) (slice_range shard.list shard.position to)

-- the weight up to a later position
shard_state_weight_further : (shard : ShardValue) (to : ℕ) → IsShard shard → shard.position ≤ to
    → snapshot_total (snapshot_of shard) + total_weight (slice_range shard.list shard.position to) ≡ total_weight (take to shard.list)
shard_state_weight_further shard to is later =
    ap (λ n. n + total_weight (slice_range shard.list shard.position to)) is.counted
    ∙ sym (sum_by-append (λ (r : RecordValue). r.weight) (take shard.position shard.list) (slice_range shard.list shard.position to))
    ∙ ap total_weight (sym (shard_state_take_further shard.list shard.position to later))

pub shard_state_folds_on : (shard : ShardValue) (to : ℕ) → TableFoldKeeps → IsShard shard → shard.position ≤ to → to ≤ length shard.list
    → ShardStateFoldedOn shard to
shard_state_folds_on shard to keep is later within =
    let records = slice_range shard.list shard.position to in
    let weighed : All (λ (r : RecordValue). 1 ≤ r.weight) records =
    All-take (λ (r : RecordValue). 1 ≤ r.weight) (to - shard.position) (drop shard.position shard.list)
    (All-drop (λ (r : RecordValue). 1 ≤ r.weight) shard.position shard.list is.weighed) in
    let weight : snapshot_total (snapshot_of shard) + total_weight records ≡ total_weight (take to shard.list) = shard_state_weight_further shard to
    is later in
    let small : total_weight (take to shard.list) < 2 ^ 56 = shard_state_is_light shard.list to is.few within is.bounded in
    let placed : to ≤ 2 ^ 24 = omega (arith, is.few) in
    let more : TableFoldAdvances (snapshot_of shard) to records = table_fold_advances (snapshot_of shard) to records keep is.tables placed weighed
    (omega arith) in
    let same = shard_state_tables_further shard to is later in
    let with_tables : List (List Entry) → SnapshotValue = λ ts. record { shape = shard.base.shape; position = to; tables = ts } in
    record {
      is_shard = record {
        few = is.few;
        begun = omega (arith, is.begun);
        within = within;
        weighed = is.weighed;
        bounded = is.bounded;
        counted = ap (λ ts. snapshot_total (with_tables ts)) same ∙ more.total ∙ weight;
        tables = subst (λ ts. IsSnapshot (with_tables ts)) (sym same) more.is_snapshot;
      };
      tables = same;
    }

-- each table of a shard has room for the records up to a later position
pub shard_state_has_room : (shard : ShardValue) (to : ℕ) → IsShard shard → shard.position ≤ to → to ≤ length shard.list
    → All (λ (t : TableValue). table_total t.entries + total_weight (slice_range shard.list shard.position to) < 2 ^ 56)
    (tables_of (snapshot_of shard))
shard_state_has_room shard to is later within =
    let records = slice_range shard.list shard.position to in
    let tables = (snapshot_of shard).tables in
    let weight : snapshot_total (snapshot_of shard) + total_weight records ≡ total_weight (take to shard.list) = shard_state_weight_further shard to
    is later in
    let small : total_weight (take to shard.list) < 2 ^ 56 = shard_state_is_light shard.list to is.few within is.bounded in
    All-map (λ (t : TableValue). table_total t.entries + total_weight records < 2 ^ 56) (snapshot_part_with_entries shard.base.shape.capacity) tables
    (All-from_get_or (λ (es : List Entry). table_total es + total_weight records < 2 ^ 56) tables []
    (λ k in_tables.
    let grain = shard.base.shape.grain in
    let place : k < node_count grain = omega (arith, is.tables.as_many) in
    let at : table_total (get_or tables (node_index (node_at grain k)) []) ≡ snapshot_total (snapshot_of shard) =
    (is.tables.tables (node_at grain k) (IsNode-node_at_place grain k place)).counted in
    let here : table_total (get_or tables k []) ≡ snapshot_total (snapshot_of shard) =
    subst (λ n. table_total (get_or tables n []) ≡ snapshot_total (snapshot_of shard)) (node_index-node_at_place grain k) at in
    omega arith))

-- the tables of a shard at a later position
pub shard_state_folded_tables : (shard : ShardValue) (to : ℕ) (tables : List TableValue) → ShardStateFoldedOn shard to
    → tables ≡ tables_of (snapshot_of shard)
    → tables_after shard.base.shape.grain 0 tables (slice_range shard.list shard.position to) ≡ tables_of (snapshot_of (record shard { position = to }))
shard_state_folded_tables shard to tables on are =
    ap (λ ts. tables_after shard.base.shape.grain 0 ts (slice_range shard.list shard.position to)) are
    ∙ tables_after-entries 0 shard.base.shape (snapshot_of shard).tables (slice_range shard.list shard.position to)
    ∙ ap (map (snapshot_part_with_entries shard.base.shape.capacity)) (sym on.tables)

-- a shard that goes on from a snapshot
pub record BegunShardState (list : List RecordValue) (base : SnapshotValue) (position : ℕ) : Type 0 where
  pub snapshot : snapshot_of (record { list = list; base = base; position = position }) ≡ base
  pub is_shard : IsShard (record { list = list; base = base; position = position })

pub shard_state_is_begun : (list : List RecordValue) (base : SnapshotValue) (position : ℕ) → position ≡ base.position
    → IsSnapshot base → length list ≤ 2 ^ 24 → base.position ≤ length list
    → All (λ (r : RecordValue). 1 ≤ r.weight) list → All (λ (r : RecordValue). r.weight < 2 ^ 32) list
    → snapshot_total base ≡ total_weight (take base.position list)
    → BegunShardState list base position
shard_state_is_begun list base position at_base is few within weighed bounded counted =
    let shard : ShardValue = record { list = list; base = base; position = position } in
    let none : slice_range list base.position position ≡ [] =
    let nothing : position - base.position ≡ 0 = omega arith in
    ap (λ n. take n (drop base.position list)) nothing in
    let tables : (snapshot_of shard).tables ≡ base.tables = ap (fold_from 0 base.shape base.tables) none
    ∙ fold_from-none_in_tables 0 base.shape base.tables in
    let with_tables : List (List Entry) → SnapshotValue = λ ts. record { shape = base.shape; position = position; tables = ts } in
    let with_position : ℕ → SnapshotValue = λ p. record { shape = base.shape; position = p; tables = base.tables } in
    let same : snapshot_of shard ≡ base = ap with_tables tables ∙ ap with_position at_base in
    record {
      snapshot = same;
      is_shard = record {
        few = few;
        begun = omega arith;
        within = omega arith;
        weighed = weighed;
        bounded = bounded;
        counted = ap snapshot_total same ∙ counted ∙ ap (λ n. total_weight (take n list)) (sym at_base);
        tables = subst IsSnapshot (sym same) is;
      };
    }

-- a copy of the tables of a snapshot is that snapshot
pub shard_state_copy_is_same : (snapshot : SnapshotValue) (shape : TableShape) (position : ℕ) (tables : List TableValue)
    → tables ≡ tables_of snapshot → shape ≡ snapshot.shape → position ≡ snapshot.position
    → copied_from shape position tables ≡ snapshot
shard_state_copy_is_same snapshot shape position tables are same_shape same_position =
    let made : TableShape → ℕ → List (List Entry) → SnapshotValue = λ s p ts. record { shape = s; position = p; tables = ts } in
    ap (λ s. made s position (map snapshot_part_entries tables)) same_shape
    ∙ ap (λ p. made snapshot.shape p (map snapshot_part_entries tables)) same_position
    ∙ ap (made snapshot.shape snapshot.position) (ap (map snapshot_part_entries) are ∙ entries_back snapshot.tables)
  where
    entries_back : (tables : List (List Entry)) → map snapshot_part_entries (map (snapshot_part_with_entries snapshot.shape.capacity) tables) ≡ tables
    entries_back [] = refl
    entries_back (entries ∷ tables) = ap (λ ts. entries ∷ ts) (entries_back tables)
