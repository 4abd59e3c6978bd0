-- Tables of one capacity, as lists of entries.
use Rattle.std.proofs.Common.{◌≡◌, ℕ, ◌+◌, ◌^◌, ◌<◌, ◌≤◌, List, [], ◌∷◌, length, get_or, map, slice_get, Some, All}
use Rattle.std.proofs.Common.{refl, sym, ap, ◌∙◌, arith, subst}
use Rattle.std.proofs.lemmas.List.{get_or-map, length-map}
use Rattle.std.proofs.lemmas.List.Elements.{All-head, All-tail, All-from_get_or}
use Rattle.std.proofs.lemmas.Option.{slice_get-get_or, slice_get_read, same_Some}
use borrow.Author.Count.{below_more}
use Rattle.prefix_lattice.specs.{node_index, node_at, node_count}
use Rattle.space_saving.specs.declared.entry.Entry.{Entry}
use Rattle.space_saving.specs.{TableValue, table_total, AreTableEntries}
use Rattle.shard_state.specs.Snapshot.{IsTableAt, HasKeys, IsSnapshot, IsLikeTable}
use Rattle.shard_state.specs.Snapshot.{AreTablesOf}
use Rattle.prefix_lattice.specs.declared.grain.Grain.{Grain}
use Rattle.prefix_lattice.proofs.NodePlaceLemmas.{node_count-some, node_place_is_small, node_at_own_place}
use Rattle.prefix_lattice.specs.{most_grain_capacity}

-- a table of this capacity with these entries
abbrev pub snapshot_part_with_entries : ℕ → List Entry → TableValue
snapshot_part_with_entries capacity entries = record { capacity = capacity; entries = entries }

abbrev pub snapshot_part_entries : TableValue → List Entry
snapshot_part_entries table = table.entries

-- tables of one capacity are given by their entries
pub snapshot_parts_from_entries : (capacity : ℕ) (tables : List TableValue) → All (λ (t : TableValue). t.capacity ≡ capacity) tables
    → map (snapshot_part_with_entries capacity) (map snapshot_part_entries tables) ≡ tables
snapshot_parts_from_entries capacity [] alike = refl
snapshot_parts_from_entries capacity (first ∷ rest) alike =
    let same : first.capacity ≡ capacity = All-head (λ (t : TableValue). t.capacity ≡ capacity) first rest alike in
    let with_capacity : ℕ → TableValue = λ c. record { capacity = c; entries = first.entries } in
    ap (λ t. t ∷ map (snapshot_part_with_entries capacity) (map snapshot_part_entries rest)) (ap with_capacity (sym same))
    ∙ ap (λ ts. first ∷ ts) (snapshot_parts_from_entries capacity rest (All-tail (λ (t : TableValue). t.capacity ≡ capacity) first rest alike))

-- what holds of the tables before an index and of the one there holds of one more table
pub more_snapshot_parts : (P : ℕ → TableValue → Type 0) (tables : List TableValue) (n : ℕ) (here : TableValue)
    → n < length tables → here ≡ get_or tables n here → P n here
    → ((k : ℕ) (t : TableValue) → k < n → slice_get tables k ≡ Some t → P k t) → (k : ℕ) (t : TableValue) → k < n + 1 → slice_get tables k ≡ Some t → P k t
more_snapshot_parts P tables n here within is_here holds below k t small is_t =
    below_more (λ m. (u : TableValue) → slice_get tables m ≡ Some u → P m u) n (λ m m_small u. below m u m_small)
    (λ u is_u. subst (P n) (same_Some here u (sym (slice_get_read tables (length tables) n here refl within is_here) ∙ is_u)) holds) k small t is_t

-- what each table of a snapshot keeps, by its index
abbrev pub AreKeptSnapshotParts : List TableValue → Type 0
AreKeptSnapshotParts tables = (place : ℕ) (table : TableValue) → slice_get tables place ≡ Some table → AreTableEntries table.capacity table.entries

-- tables that are alike have the capacity of the first
pub snapshot_parts_share_capacity : (grain : Grain) (tables : List TableValue) (are : AreTablesOf grain tables)
    (first : TableValue) → slice_get tables 0 ≡ Some first
    → All (λ (t : TableValue). t.capacity ≡ first.capacity) tables
snapshot_parts_share_capacity grain tables are first is_first =
    All-from_get_or (λ (t : TableValue). t.capacity ≡ first.capacity) tables first
    (λ k within. (are.alike k (get_or tables k first) (slice_get-get_or tables k first within)).same_capacity ∙ sym (are.alike 0 first is_first).same_capacity)

-- such tables make a snapshot
pub IsSnapshot-parts : (grain : Grain) (position : ℕ) (tables : List TableValue) (first : TableValue) → position ≤ 2 ^ 24 → AreTablesOf grain tables
    → AreKeptSnapshotParts tables
    → slice_get tables 0 ≡ Some first → 2 ≤ first.capacity → first.capacity ≤ 4096
    → IsSnapshot (record { shape = record { grain = grain; capacity = first.capacity }; position = position; tables = map snapshot_part_entries tables })
IsSnapshot-parts grain position tables first placed are kept is_first least most = record {
  least = least;
  most = most;
  of_grain = subst (λ c. c ≤ most_grain_capacity grain) (sym (are.alike 0 first is_first).same_capacity) are.of_grain;
  placed = placed;
  as_many = length-map tables snapshot_part_entries ∙ are.as_many;
  tables = λ node valid.
      let small : node_index node < node_count grain = node_place_is_small node valid in
      let within : node_index node < length tables = omega (arith, are.as_many) in
      let some : 0 < length tables = omega (arith, are.as_many, node_count-some grain) in
      let here = get_or tables (node_index node) first in
      let is_here : slice_get tables (node_index node) ≡ Some here = slice_get-get_or tables (node_index node) first within in
      let like : IsLikeTable are.capacity are.total (node_at grain (node_index node)) here = are.alike (node_index node) here is_here in
      let like_first : IsLikeTable are.capacity are.total (node_at grain 0) first = are.alike 0 first is_first in
      let same : get_or (map snapshot_part_entries tables) (node_index node) [] ≡ here.entries = get_or-map snapshot_part_entries tables (node_index node) first
      [] within in
      let at_first : get_or (map snapshot_part_entries tables) 0 [] ≡ first.entries = first_entries tables first is_first in
      let capacities : here.capacity ≡ first.capacity = like.same_capacity ∙ sym like_first.same_capacity in
      let totals : table_total here.entries ≡ table_total (get_or (map snapshot_part_entries tables) 0 []) =
      like.same_total ∙ sym like_first.same_total ∙ sym (ap table_total at_first) in
      let at_here : IsTableAt first.capacity (table_total (get_or (map snapshot_part_entries tables) 0 [])) node here.entries = record {
        are_entries = subst (λ c. AreTableEntries c here.entries) capacities (kept (node_index node) here is_here);
        counted = totals;
        keyed = subst (λ n. HasKeys n here.entries) (node_at_own_place node valid) like.keyed;
      } in
      subst (IsTableAt first.capacity (table_total (get_or (map snapshot_part_entries tables) 0 [])) node) (sym same) at_here;
}
  where
    first_entries : (tables : List TableValue) (first : TableValue) → slice_get tables 0 ≡ Some first
        → get_or (map snapshot_part_entries tables) 0 [] ≡ first.entries
    first_entries [] first is_first = cc is_first
    first_entries (t ∷ ts) first is_first = let same : t ≡ first = cc is_first in ap snapshot_part_entries same

-- what is made of tables that are alike
pub record MadeOfSnapshotParts (grain : Grain) (capacity position : ℕ) (tables : List TableValue) : Type 0 where
  pub alike : All (λ (t : TableValue). t.capacity ≡ capacity) tables
  pub is_snapshot : IsSnapshot (record {
    shape = record { grain = grain; capacity = capacity };
    position = position;
    tables = map snapshot_part_entries tables;
  })

pub made_of_snapshot_parts : (grain : Grain) (position : ℕ) (tables : List TableValue) (capacity : ℕ)
    (first : TableValue) → position ≤ 2 ^ 24 → AreTablesOf grain tables
    → AreKeptSnapshotParts tables
    → first ≡ get_or tables 0 first → capacity ≡ first.capacity → 2 ≤ capacity → capacity ≤ 4096 → MadeOfSnapshotParts grain capacity position tables
made_of_snapshot_parts grain position tables capacity first placed are kept read same least most =
    let some : 0 < length tables = omega (arith, are.as_many, node_count-some grain) in
    let is_first : slice_get tables 0 ≡ Some first = slice_get_read tables (length tables) 0 first refl some read in
    subst (λ c. MadeOfSnapshotParts grain c position tables) (sym same) (record {
      alike = snapshot_parts_share_capacity grain tables are first is_first;
      is_snapshot = IsSnapshot-parts grain position tables first placed are kept is_first (omega arith) (omega arith);
    })
