-- Merging the tables of a node, shard by shard.
use Rattle.std.proofs.Common.{◌≡◌, ℕ, ◌+◌, ◌<◌, ◌≤◌, ◌^◌, List, [], ◌∷◌, ◌++◌, length, take, get_or, slice_get}
use Rattle.std.proofs.Common.{slice_index_or, Some, inl, inr, refl, sym, ap, ◌∙◌, subst, arith}
use Rattle.std.proofs.lemmas.Bool.{cases_lt}
use Rattle.std.proofs.lemmas.List.{take_more, get_or_default, get_or_append_left, get_or_push, get_or_past, length_push}
use Rattle.std.proofs.lemmas.List.Sums.{sum_by-take-le}
use Rattle.std.proofs.lemmas.List.Elements.{All-take, All-get_or}
use Rattle.std.proofs.lemmas.Option.{get_or_from_slice_get, slice_get_within, slice_get-map}
use Rattle.std.specs.Option.{option_map}
use Rattle.prefix_lattice.specs.{NodeValue, IsNode, node_index, node_at, node_count, node_of_prefix, prefix_key}
use Rattle.prefix_lattice.proofs.NodePlaceLemmas.{node_at_own_place, node_place_is_small}
use Rattle.space_saving.specs.{TableValue, table_total}
use Rattle.shard_state.specs.{SnapshotValue, table_at, CutValue, IsCut, total_of_cut}
use Rattle.cut_merge.specs.NodeMerge.{NodeMergeValue}
use Rattle.cut_merge.specs.Merged.{MergedValue, CanBeMerged, WithTable, NodeRepresents}
use Rattle.cut_merge.specs.Merged.{nothing_merged, IsMerged}
use Rattle.cut_merge.specs.Merged.{RepresentsCut, interval_for_key, merge_at}
use Rattle.cut_merge.specs.CutTables.{tables_at, FitsTotal}
use Rattle.cut_merge.proofs.TableMergeLemmas.{TableMergeIsBounded, table_merge_count, table_merge_is_bounded}
use Rattle.cut_merge.proofs.TableMergeLemmas.{table_merge_represents_more, interval_of_table_merge}
use Rattle.cut_merge.proofs.CutTableLemmas.{cut_table_node_is_node, CutTablesAreBounded, cut_tables_count_total}

-- the table of a shard is at the shard's index among the tables of the node
cut_merge_stands_at_place : (node : NodeValue) (cut : CutValue) (shard : ℕ) (snapshot : SnapshotValue)
    → slice_get cut.shards shard ≡ Some snapshot
    → slice_get (tables_at node cut) shard ≡ Some (table_at node snapshot)
cut_merge_stands_at_place node cut shard snapshot at =
    slice_get-map (table_at node) cut.shards shard ∙ ap (option_map (table_at node)) at

-- the intervals of the merged tables of some shards are within the total of the cut
pub cut_merge_within_total : (node : NodeValue) (cut : CutValue) (shards key : ℕ) (merge : NodeMergeValue) → CutTablesAreBounded
    → IsNode cut.shape.grain node → IsCut cut
    → NodeRepresents merge (take shards (tables_at node cut))
    → FitsTotal (total_of_cut cut) (interval_for_key merge key)
cut_merge_within_total node cut shards key merge law is_node kept stands =
    let tables = tables_at node cut in
    let bounded : TableMergeIsBounded (take shards tables) key =
    table_merge_is_bounded (take shards tables) key (All-take (CanBeMerged key) shards tables (law cut node key kept is_node)) in
    let few : table_merge_count (take shards tables) ≤ total_of_cut cut =
    subst (λ n. table_merge_count (take shards tables) ≤ n) (cut_tables_count_total node cut is_node kept)
    (sum_by-take-le (λ (t : TableValue). table_total t.entries) tables shards) in
    subst (FitsTotal (total_of_cut cut)) (sym (interval_of_table_merge merge (take shards tables) key stands))
    (record { ordered = bounded.ordered; within_total = omega (arith, few, bounded.within_total) })

-- the intervals of the table of a shard are bounded
pub cut_merge_bounded_at_shard : (node : NodeValue) (cut : CutValue) (shard : ℕ) (snapshot : SnapshotValue) (key : ℕ)
    → CutTablesAreBounded → IsNode cut.shape.grain node → IsCut cut → slice_get cut.shards shard ≡ Some snapshot
    → CanBeMerged key (table_at node snapshot)
cut_merge_bounded_at_shard node cut shard snapshot key law is_node kept at =
    let tables = tables_at node cut in
    let table = table_at node snapshot in
    let place = cut_merge_stands_at_place node cut shard snapshot at in
    subst (CanBeMerged key) (get_or_from_slice_get tables shard table table place)
    (All-get_or (CanBeMerged key) tables shard table (slice_get_within tables shard table place)
    (law cut node key kept is_node))

-- one more shard
pub cut_merge_of_more_shards : (node : NodeValue) (cut : CutValue) (shard : ℕ) (snapshot : SnapshotValue)
    (old new : NodeMergeValue) → slice_get cut.shards shard ≡ Some snapshot
    → NodeRepresents old (take shard (tables_at node cut)) → WithTable old (table_at node snapshot) new
    → NodeRepresents new (take (shard + 1) (tables_at node cut))
cut_merge_of_more_shards node cut shard snapshot old new at stands adds =
    let tables = tables_at node cut in
    let table = table_at node snapshot in
    let place = cut_merge_stands_at_place node cut shard snapshot at in
    let within = slice_get_within tables shard table place in
    let read : get_or tables shard table ≡ table = get_or_from_slice_get tables shard table table place in
    let more : take (shard + 1) tables ≡ take shard tables ++ table ∷ [] =
    take_more tables shard table within ∙ ap (λ t. take shard tables ++ t ∷ []) read in
    subst (NodeRepresents new) (sym more) (table_merge_represents_more old new (take shard tables) table stands adds)

-- an interval of the merged tables at an index is within the total
pub cut_merge_place_within_total : (merged : MergedValue) (place key : ℕ) (merge : NodeMergeValue) → IsMerged merged
    → place < length merged.nodes
    → merge ≡ slice_index_or merged.nodes place merge → FitsTotal merged.total (interval_for_key merge key)
cut_merge_place_within_total merged place key merge kept within read =
    subst (λ m. FitsTotal merged.total (interval_for_key m key))
    (sym (read ∙ get_or_default merged.nodes place merge nothing_merged within)) (kept.intervals place key)

-- the nodes before an index are merged
pub record CutMergesNodes (cut : CutValue) (nodes : List NodeMergeValue) (place : ℕ) : Type 0 where
  pub count : length nodes ≡ place
  pub stands : (k : ℕ) → k < place
      → NodeRepresents (slice_index_or nodes k nothing_merged) (tables_at (node_at cut.shape.grain k) cut)
  pub within : (k key : ℕ) → k < place
      → FitsTotal (total_of_cut cut) (interval_for_key (slice_index_or nodes k nothing_merged) key)

-- none is merged before the first index
pub cut_merges_none : (cut : CutValue) → CutMergesNodes cut [] 0
cut_merges_none cut = record {
  count = refl;
  stands = λ k below. absurd (omega arith);
  within = λ k key below. absurd (omega arith);
}

-- and one more before the next
pub cut_merges_more_nodes : (cut : CutValue) (nodes : List NodeMergeValue) (place : ℕ) (merge : NodeMergeValue)
    → CutMergesNodes cut nodes place
    → NodeRepresents merge (tables_at (node_at cut.shape.grain place) cut)
    → ((key : ℕ) → FitsTotal (total_of_cut cut) (interval_for_key merge key))
    → CutMergesNodes cut (nodes ++ merge ∷ []) (place + 1)
cut_merges_more_nodes cut nodes place merge merges stands within =
    let At : (ℕ → NodeMergeValue → Type 0) → ℕ → Type 0 =
    λ P k. P k (slice_index_or (nodes ++ merge ∷ []) k nothing_merged) in
    let at : (P : ℕ → NodeMergeValue → Type 0) → ((k : ℕ) → k < place → P k (slice_index_or nodes k nothing_merged))
    → P place merge → (k : ℕ) → k < place + 1 → At P k =
    λ P below here k less. by_cases P below here k less in
    record {
      count = length_push nodes merge ∙ ap (λ n. n + 1) merges.count;
      stands = at (λ k m. NodeRepresents m (tables_at (node_at cut.shape.grain k) cut)) merges.stands stands;
      within = λ k key less.
          at (λ _ m. FitsTotal (total_of_cut cut) (interval_for_key m key)) (λ j. merges.within j key)
          (within key) k less;
    }
  where
    by_cases : (P : ℕ → NodeMergeValue → Type 0)
        → ((k : ℕ) → k < place → P k (slice_index_or nodes k nothing_merged)) → P place merge
        → (k : ℕ) → k < place + 1 → P k (slice_index_or (nodes ++ merge ∷ []) k nothing_merged)
    by_cases P below here k less = elim (cases_lt k place) [
      | inl under ↦
          subst (P k) (sym (get_or_append_left nodes (merge ∷ []) nothing_merged k (omega (arith, merges.count))))
          (below k under)
      | inr above ↦ let same : k ≡ place = omega arith in
          subst (λ j. P j (slice_index_or (nodes ++ merge ∷ []) j nothing_merged)) (sym same)
          (subst (P place) (sym (get_or_push nodes merge nothing_merged place merges.count)) here)
    ]

-- once all nodes are merged, what always holds of merged tables holds
pub cut_merge_is_merged : (cut : CutValue) (nodes : List NodeMergeValue) → total_of_cut cut < 2 ^ 60
    → CutMergesNodes cut nodes (node_count cut.shape.grain)
    → IsMerged (record { shape = cut.shape; total = total_of_cut cut; nodes = nodes })
cut_merge_is_merged cut nodes bounded merges = record {
  bounded = bounded;
  as_many = merges.count;
  intervals = λ place key. elim (cases_lt place (node_count cut.shape.grain)) [
    | inl under ↦ merges.within place key under
    | inr above ↦
        subst (λ m. FitsTotal (total_of_cut cut) (interval_for_key m key))
        (sym (get_or_past nodes place nothing_merged (omega (arith, merges.count))))
        (record { ordered = omega arith; within_total = omega arith })
  ];
}

-- and the merged tables represent the cut
pub cut_merge_stands_for_cut : (cut : CutValue) (nodes : List NodeMergeValue) → CutMergesNodes cut nodes (node_count cut.shape.grain)
    → RepresentsCut (record { shape = cut.shape; total = total_of_cut cut; nodes = nodes }) cut
cut_merge_stands_for_cut cut nodes merges =
    let grain = cut.shape.grain in
    let at : (node : NodeValue) → IsNode grain node
    → NodeRepresents (slice_index_or nodes (node_index node) nothing_merged) (tables_at node cut) =
    λ node is_node.
    subst (λ n. NodeRepresents (slice_index_or nodes (node_index node) nothing_merged) (tables_at n cut))
    (node_at_own_place node is_node)
    (merges.stands (node_index node) (node_place_is_small node is_node)) in
    record {
      shape = refl;
      total = refl;
      intervals = λ prefix is_prefix.
          interval_of_table_merge (merge_at (node_of_prefix grain prefix) (record { shape = cut.shape; total = total_of_cut cut; nodes = nodes }))
          (tables_at (node_of_prefix grain prefix) cut) (prefix_key prefix)
          (at (node_of_prefix grain prefix) (cut_table_node_is_node prefix is_prefix));
      candidates = λ node is_node. (at node is_node).keys;
    }
