-- What merged intervals say of weights, shard by shard.
use Rattle.std.proofs.Common.{◌≡◌, ℕ, ◌+◌, ◌-◌, ◌*◌, ◌≤◌, List, [], ◌∷◌, ◌++◌, map, take, sum_by, filter, eqb, Bool}
use Rattle.std.proofs.Common.{true, false, All, Contains, None, Some, if◌then◌else◌, refl, sym, ap, ◌∙◌, subst}
use Rattle.std.proofs.Common.{add-mul, arith}
use Rattle.std.proofs.lemmas.Bool.{eqb-true}
use Rattle.std.proofs.lemmas.List.Sums.{sum_by-cons, sum_by-append}
use Rattle.std.proofs.lemmas.List.Elements.{All-head, All-tail, filter-append, Contains-append_left}
use Rattle.std.proofs.lemmas.List.Elements.{Contains-append_right}
use Rattle.std.specs.List.{AllZip, flat_map}
use Rattle.prefix_lattice.specs.{RecordValue, NodeValue, IsNode, PrefixValue, IsPrefix, covers, node_of_prefix}
use Rattle.prefix_lattice.specs.{prefix_key}
use Rattle.prefix_lattice.specs.{prefix_weight}
use Rattle.space_saving.specs.declared.entry.Entry.{Entry}
use Rattle.space_saving.specs.{TableValue, table_entry, interval_in, interval_from, table_total, IsTable}
use Rattle.shard_state.specs.{SnapshotValue, IsSnapshot, table_at, snapshot_total, SnapshotRepresents}
use Rattle.shard_state.specs.{CutValue, IsCut, TableShape}
use Rattle.hhh_report.specs.{records_before}
use Rattle.shard_state.specs.{cut_positions, total_of_cut, CutRepresents, HoldsNarrowly}
use Rattle.shard_state.specs.{interval_of}
use Rattle.cut_merge.specs.CutTables.{interval_over, keys_of}
use Rattle.cut_merge.specs.CutTables.{tables_at, interval_in_cut, monitored_in_cut, FitsTotal}
use Rattle.prefix_lattice.proofs.ListLemmas.{Contains-list_head, Contains-list_tail}
use Rattle.cut_merge.proofs.FirstSeenLemmas.{first_seen-contains}
use Rattle.cut_merge.proofs.TableMergeLemmas.{TableMergeIsBounded, table_merge_is_bounded}
use Rattle.cut_merge.proofs.CutTableLemmas.{cut_table_node_is_node, HaveCutNode, cut_node_in_shards, cut_node_at_head, cut_node_in_tail}
use Rattle.cut_merge.proofs.CutTableLemmas.{CutTablesAreBounded, cut_tables_count_total}

-- the weight of a prefix over two lists of records, one after the other
merged_interval_weights_append : (prefix : PrefixValue) (records more : List RecordValue)
    → prefix_weight prefix (records ++ more) ≡ prefix_weight prefix records + prefix_weight prefix more
merged_interval_weights_append prefix records more =
    ap (sum_by (λ (r : RecordValue). r.weight)) (filter-append (covers prefix) records more)
    ∙ sum_by-append (λ (r : RecordValue). r.weight) (filter (covers prefix) records) (filter (covers prefix) more)

-- what the law of snapshots says of one shard
pub record MergedIntervalSnapshotsHold : Type 0 where
  pub weight : (snapshot : SnapshotValue) (list : List RecordValue) (prefix : PrefixValue)
      → SnapshotRepresents snapshot list → 1 ≤ snapshot.shape.capacity
      → IsPrefix snapshot.shape.grain prefix → All (λ (rec : RecordValue). 1 ≤ rec.weight) list
      → HoldsNarrowly (interval_of prefix snapshot) snapshot.shape.capacity (prefix_weight prefix (take snapshot.position list))
      (snapshot_total snapshot)

-- each record has a weight
abbrev MergedIntervalIsWeighed : List RecordValue → Type 0
MergedIntervalIsWeighed list = All (λ (rec : RecordValue). 1 ≤ rec.weight) list

-- what holds of each shard holds of all together: lows, weights, highs and totals add up
merged_interval_over_shards : MergedIntervalSnapshotsHold → (shape : TableShape) (prefix : PrefixValue) → 1 ≤ shape.capacity
    → IsPrefix shape.grain prefix
    → (shards : List SnapshotValue) (lists : List (List RecordValue))
    → All (λ (s : SnapshotValue). s.shape ≡ shape) shards → AllZip SnapshotRepresents shards lists
    → All MergedIntervalIsWeighed lists
    → HoldsNarrowly (interval_over (map (table_at (node_of_prefix shape.grain prefix)) shards) (prefix_key prefix)) shape.capacity
    (prefix_weight prefix (records_before lists (map (λ (s : SnapshotValue). s.position) shards))) (sum_by snapshot_total shards)
merged_interval_over_shards law shape prefix some is_prefix [] [] alike stand weighed = record {
  holds = record { low = omega arith; high = omega arith };
  narrow = omega arith;
}
merged_interval_over_shards law shape prefix some is_prefix [] (list ∷ lists) alike stand weighed = absurd stand
merged_interval_over_shards law shape prefix some is_prefix (shard ∷ shards) [] alike stand weighed = absurd stand
merged_interval_over_shards law shape prefix some is_prefix (shard ∷ shards) (list ∷ lists) alike stand weighed =
    let same : shard.shape ≡ shape = All-head (λ (s : SnapshotValue). s.shape ≡ shape) shard shards alike in
    let node = node_of_prefix shape.grain prefix in
    let key = prefix_key prefix in
    let some_of_shard : 1 ≤ shard.shape.capacity = subst (λ (s : TableShape). 1 ≤ s.capacity) (sym same) some in
    let prefix_of_shard : IsPrefix shard.shape.grain prefix = subst (λ (s : TableShape). IsPrefix s.grain prefix) (sym same) is_prefix in
    let first : HoldsNarrowly (interval_in (table_at node shard) key) shape.capacity (prefix_weight prefix (take shard.position list))
    (snapshot_total shard) =
    subst (λ (s : TableShape).
    HoldsNarrowly (interval_in (table_at (node_of_prefix s.grain prefix) shard) key) s.capacity
    (prefix_weight prefix (take shard.position list)) (snapshot_total shard))
    same
    (law.weight shard list prefix stand.0 some_of_shard prefix_of_shard (All-head MergedIntervalIsWeighed list lists weighed)) in
    let rest =
    merged_interval_over_shards law shape prefix some is_prefix shards lists
    (All-tail (λ (s : SnapshotValue). s.shape ≡ shape) shard shards alike) stand.1
    (All-tail MergedIntervalIsWeighed list lists weighed) in
    let tables = map (table_at node) shards in
    let table = table_at node shard in
    let low = sum_by-cons (λ (t : TableValue). (interval_in t key).low) table tables in
    let high = sum_by-cons (λ (t : TableValue). (interval_in t key).high) table tables in
    let total = sum_by-cons snapshot_total shard shards in
    let weight =
    merged_interval_weights_append prefix (take shard.position list)
    (records_before lists (map (λ (s : SnapshotValue). s.position) shards)) in
    let least : (interval_over (table ∷ tables) key).low
    ≤ prefix_weight prefix
    (take shard.position list ++ records_before lists (map (λ (s : SnapshotValue). s.position) shards)) =
    omega (arith, low, weight, first.holds.low, rest.holds.low) in
    let most : prefix_weight prefix
    (take shard.position list ++ records_before lists (map (λ (s : SnapshotValue). s.position) shards))
    ≤ (interval_over (table ∷ tables) key).high =
    omega (arith, high, weight, first.holds.high, rest.holds.high) in
    let first_ordered : (interval_in table key).low ≤ (interval_in table key).high =
    omega (arith, first.holds.low, first.holds.high) in
    let rest_ordered : (interval_over tables key).low ≤ (interval_over tables key).high =
    omega (arith, rest.holds.low, rest.holds.high) in
    record {
      holds = record { low = least; high = most };
      narrow =
          let apart : (interval_over (table ∷ tables) key).high - (interval_over (table ∷ tables) key).low
          ≡ ((interval_in table key).high - (interval_in table key).low)
          + ((interval_over tables key).high - (interval_over tables key).low) =
          omega (arith, low, high, first_ordered, rest_ordered) in
          subst (λ n. n * shape.capacity ≤ sum_by snapshot_total (shard ∷ shards)) (sym apart)
          (omega (
            arith,
            total,
            first.narrow,
            rest.narrow,
            add-mul ((interval_in table key).high - (interval_in table key).low)
                ((interval_over tables key).high - (interval_over tables key).low) shape.capacity,
          ));
    }

-- if a cut represents lists, the merged interval of each prefix holds its weight
pub merged_interval_holds : MergedIntervalSnapshotsHold → (cut : CutValue) (lists : List (List RecordValue)) (prefix : PrefixValue)
    → IsCut cut → CutRepresents cut lists → All MergedIntervalIsWeighed lists → IsPrefix cut.shape.grain prefix
    → HoldsNarrowly (interval_in_cut cut prefix) cut.shape.capacity
    (prefix_weight prefix (records_before lists (cut_positions cut)))
    (total_of_cut cut)
merged_interval_holds law cut lists prefix kept stands weighed is_prefix =
    merged_interval_over_shards law cut.shape prefix (omega (arith, kept.least)) is_prefix cut.shards lists kept.alike
    stands.shards weighed

-- a key that isn't monitored has no entry
merged_interval_missing_entry : (entries : List Entry) (key : ℕ) → ¬ Contains (map (λ (e : Entry). e.key) entries) key
    → table_entry key entries ≡ None
merged_interval_missing_entry [] key missing = refl
merged_interval_missing_entry (entry ∷ entries) key missing =
    by (eqb entry.key key) refl
    (merged_interval_missing_entry entries key
    (λ there. missing (Contains-list_tail entry.key (map (λ (e : Entry). e.key) entries) key there)))
  where
    by : (b : Bool) → eqb entry.key key ≡ b → table_entry key entries ≡ None
        → (if b then Some entry else table_entry key entries) ≡ None
    by true same rest =
        absurd (missing (subst (Contains (entry.key ∷ map (λ (e : Entry). e.key) entries))
        (eqb-true entry.key key same) (Contains-list_head entry.key (map (λ (e : Entry). e.key) entries))))
    by false _ rest = rest

-- in every table an interval is at most as wide as what the table counted divided by its capacity
abbrev pub IntervalsMergedAreNarrow : Type 0
IntervalsMergedAreNarrow = (capacity : ℕ) (entries : List Entry) (key : ℕ) → IsTable capacity entries
    → ((interval_in (record { capacity = capacity; entries = entries }) key).high
    - (interval_in (record { capacity = capacity; entries = entries }) key).low) * capacity ≤ table_total entries

-- so the highs of a key that no shard monitors are light together
merged_interval_light_by_shard : IntervalsMergedAreNarrow → (shape : TableShape) (node : NodeValue) (key : ℕ)
    → (shards : List SnapshotValue) → HaveCutNode node shards
    → All (λ (s : SnapshotValue). s.shape ≡ shape) shards → All IsSnapshot shards
    → ¬ Contains (flat_map keys_of (map (table_at node) shards)) key
    → (interval_over (map (table_at node) shards) key).high * shape.capacity ≤ sum_by snapshot_total shards
merged_interval_light_by_shard law shape node key [] nodes alike kept missing = omega arith
merged_interval_light_by_shard law shape node key (shard ∷ shards) nodes alike kept missing =
    let table = table_at node shard in
    let tables = map (table_at node) shards in
    let same : shard.shape ≡ shape = All-head (λ (s : SnapshotValue). s.shape ≡ shape) shard shards alike in
    let of_shard = (All-head IsSnapshot shard shards kept).tables node (cut_node_at_head node shard shards nodes) in
    let none : table_entry key table.entries ≡ None =
    merged_interval_missing_entry table.entries key
    (λ there. missing (Contains-append_left (keys_of table) (flat_map keys_of tables) key there)) in
    let low : (interval_in table key).low ≡ 0 = ap (λ found. (interval_from found table).low) none in
    let narrow = law shard.shape.capacity table.entries key of_shard.are_entries.is_table in
    let width : (interval_in table key).high - (interval_in table key).low ≡ (interval_in table key).high =
    omega (arith, low) in
    let first : (interval_in table key).high * shape.capacity ≤ snapshot_total shard =
    subst (λ (s : TableShape). (interval_in table key).high * s.capacity ≤ snapshot_total shard) same
    (subst (λ n. n * shard.shape.capacity ≤ snapshot_total shard) width
    (subst (λ n. ((interval_in table key).high - (interval_in table key).low) * shard.shape.capacity ≤ n)
    of_shard.counted narrow)) in
    let rest = merged_interval_light_by_shard law shape node key shards (cut_node_in_tail node shard shards nodes)
    (All-tail (λ (s : SnapshotValue). s.shape ≡ shape) shard shards alike)
    (All-tail IsSnapshot shard shards kept)
    (λ there. missing (Contains-append_right (keys_of table) (flat_map keys_of tables) key there)) in
    let high = sum_by-cons (λ (t : TableValue). (interval_in t key).high) table tables in
    subst (λ n. n * shape.capacity ≤ sum_by snapshot_total (shard ∷ shards)) (sym high)
    (omega (
      arith,
      first,
      rest,
      sum_by-cons snapshot_total shard shards,
      add-mul (interval_in table key).high (interval_over tables key).high shape.capacity,
    ))

-- a prefix that no shard monitors has a light merged interval
pub merged_interval_is_light : IntervalsMergedAreNarrow → (cut : CutValue) (prefix : PrefixValue) → IsCut cut → IsPrefix cut.shape.grain prefix
    → ¬ Contains (monitored_in_cut cut (node_of_prefix cut.shape.grain prefix)) (prefix_key prefix)
    → (interval_in_cut cut prefix).high * cut.shape.capacity ≤ total_of_cut cut
merged_interval_is_light law cut prefix kept is_prefix missing =
    merged_interval_light_by_shard law cut.shape (node_of_prefix cut.shape.grain prefix) (prefix_key prefix) cut.shards
    (cut_node_in_shards cut (node_of_prefix cut.shape.grain prefix) kept (cut_table_node_is_node prefix is_prefix)) kept.alike kept.kept
    (λ there.
    missing (first_seen-contains (flat_map keys_of (tables_at (node_of_prefix cut.shape.grain prefix) cut)) (prefix_key prefix) there))

-- and every merged interval is within the total
pub merged_interval_within_total : CutTablesAreBounded → (cut : CutValue) (prefix : PrefixValue) → IsCut cut → IsPrefix cut.shape.grain prefix
    → FitsTotal (total_of_cut cut) (interval_in_cut cut prefix)
merged_interval_within_total law cut prefix kept is_prefix =
    let is_node : IsNode cut.shape.grain (node_of_prefix cut.shape.grain prefix) = cut_table_node_is_node prefix is_prefix in
    let tables = tables_at (node_of_prefix cut.shape.grain prefix) cut in
    let bounded : TableMergeIsBounded tables (prefix_key prefix) =
    table_merge_is_bounded tables (prefix_key prefix) (law cut (node_of_prefix cut.shape.grain prefix) (prefix_key prefix) kept is_node) in
    record {
      ordered = bounded.ordered;
      within_total = omega (arith, bounded.within_total, cut_tables_count_total (node_of_prefix cut.shape.grain prefix) cut is_node kept);
    }
