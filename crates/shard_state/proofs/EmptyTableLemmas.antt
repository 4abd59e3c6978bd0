-- Tables with no entry.
use Rattle.std.proofs.Common.{◌≡◌, ℕ, ◌≤◌, zero, suc, List, [], ◌∷◌, length, get_or, map, replicate, All, refl, sym, ap, ◌∙◌}
use Rattle.std.proofs.Common.{arith, subst, lit<}
use Rattle.std.proofs.lemmas.List.Elements.{All-nil, All-replicate}
use Rattle.prefix_lattice.specs.{NodeValue, node_index, IsPrefixKey, node_count}
use Rattle.prefix_lattice.specs.declared.grain.Grain.{Grain}
use Rattle.space_saving.specs.declared.entry.Entry.{Entry}
use Rattle.space_saving.specs.{TableValue, table_total, AreTableEntries, HasSmallError}
use Rattle.shard_state.specs.Snapshot.{IsTableAt, SnapshotValue, IsSnapshot, no_entries, TableShape}
use Rattle.shard_state.specs.Snapshot.{empty_snapshot, entries_at}
use Rattle.shard_state.specs.Cut.{IsCut, empty_cut}
use Rattle.std.proofs.lemmas.List.{length-replicate}
use Rattle.prefix_lattice.specs.{most_grain_capacity}

-- an empty table of this capacity
abbrev pub empty_table : ℕ → TableValue
empty_table capacity = record { capacity = capacity; entries = [] }

-- the entries of empty tables
empty_tables_in_row : (n capacity : ℕ)
    → map (λ (t : TableValue). t.entries) (replicate n (empty_table capacity)) ≡ replicate n (let none : List Entry = [] in none)
empty_tables_in_row zero capacity = refl
empty_tables_in_row (suc n) capacity = ap (λ ts. [] ∷ ts) (empty_tables_in_row n capacity)

pub row_of_empty_tables : (shape : TableShape)
    → map (λ (t : TableValue). t.entries) (replicate (node_count shape.grain) (empty_table shape.capacity))
    ≡ no_entries shape.grain
unfolding no_entries
row_of_empty_tables shape = empty_tables_in_row (node_count shape.grain) shape.capacity

empty_table_in_row : (n k : ℕ) → get_or (replicate n (let none : List Entry = [] in none)) k [] ≡ []
empty_table_in_row zero k = refl
empty_table_in_row (suc n) zero = refl
empty_table_in_row (suc n) (suc k) = empty_table_in_row n k

-- each of the empty tables has no entry
pub empty_table_at_place : (grain : Grain) (k : ℕ) → get_or (no_entries grain) k [] ≡ []
unfolding no_entries
empty_table_at_place grain k = empty_table_in_row (node_count grain) k

pub number_of_empty_tables : (grain : Grain) → length (no_entries grain) ≡ node_count grain
unfolding no_entries
number_of_empty_tables grain = length-replicate (node_count grain) (let none : List Entry = [] in none)

-- an empty list has the entries of a table
empty_table_is_valid : (capacity : ℕ) → AreTableEntries capacity []
empty_table_is_valid capacity = record {
  is_table = record { fits = omega arith; ascending = tt; distinct = tt; small_errors = All-nil (HasSmallError capacity 0) };
  bounded = lit< tt;
}

pub IsTableAt-empty_table : (capacity : ℕ) (node : NodeValue) → IsTableAt capacity 0 node []
IsTableAt-empty_table capacity node = record {
  are_entries = empty_table_is_valid capacity;
  counted = refl;
  keyed = All-nil
      (λ (e : Entry). IsPrefixKey node e.key);
}

-- the snapshot of no record is a snapshot
pub IsSnapshot-empty_tables : (shape : TableShape) → 2 ≤ shape.capacity → shape.capacity ≤ 4096
    → shape.capacity ≤ most_grain_capacity shape.grain → IsSnapshot (empty_snapshot shape)
IsSnapshot-empty_tables shape least most of_grain = record {
  least = least;
  most = most;
  of_grain = of_grain;
  placed = omega arith;
  as_many = number_of_empty_tables shape.grain;
  tables = λ node valid.
      let no_total : 0 ≡ table_total (get_or (no_entries shape.grain) 0 []) = sym (ap table_total (empty_table_at_place shape.grain 0)) in
      subst (λ total. IsTableAt shape.capacity total node (entries_at node (empty_snapshot shape))) no_total
      (subst (IsTableAt shape.capacity 0 node) (sym (empty_table_at_place shape.grain (node_index node)))
      (IsTableAt-empty_table shape.capacity node));
}

-- what is made of empty tables
pub record EmptyTables (shape : TableShape) (tables : List TableValue) : Type 0 where
  pub alike : All (λ (t : TableValue). t.capacity ≡ shape.capacity) tables
  pub entries : map (λ (t : TableValue). t.entries) tables ≡ no_entries shape.grain
  pub is_snapshot : IsSnapshot (record { shape = shape; position = 0; tables = map (λ (t : TableValue). t.entries) tables })

pub empty_tables_are_made : (shape : TableShape) (tables : List TableValue)
    → tables ≡ replicate (node_count shape.grain) (empty_table shape.capacity) → 2 ≤ shape.capacity → shape.capacity ≤ 4096
    → shape.capacity ≤ most_grain_capacity shape.grain → EmptyTables shape tables
empty_tables_are_made shape tables are least most of_grain =
    let entries : map (λ (t : TableValue). t.entries) tables ≡ no_entries shape.grain = ap (map (λ (t : TableValue). t.entries)) are
    ∙ row_of_empty_tables shape in
    record {
      alike =
          subst (All (λ (t : TableValue). t.capacity ≡ shape.capacity)) (sym are)
          (All-replicate (λ (t : TableValue). t.capacity ≡ shape.capacity) (node_count shape.grain) (empty_table shape.capacity) refl);
      entries = entries;
      is_snapshot = subst (λ ts. IsSnapshot (record { shape = shape; position = 0; tables = ts })) (sym entries)
          (IsSnapshot-empty_tables shape least most of_grain);
    }

-- the cut of no record is a cut
pub empty_tables_make_shard_cut : (shards : ℕ) (shape : TableShape) → 1 ≤ shards → shards ≤ 128 → 2 ≤ shape.capacity
    → shape.capacity ≤ 4096 → shape.capacity ≤ most_grain_capacity shape.grain → IsCut (empty_cut shards shape)
empty_tables_make_shard_cut shards shape some few least most of_grain =
    let many : length (replicate shards (empty_snapshot shape)) ≡ shards = length-replicate shards (empty_snapshot shape) in
    record {
      least = least;
      most = most;
      of_grain = of_grain;
      some = omega arith;
      few = omega arith;
      alike = All-replicate (λ (s : SnapshotValue). s.shape ≡ shape) shards (empty_snapshot shape) refl;
      kept = All-replicate IsSnapshot shards (empty_snapshot shape) (IsSnapshot-empty_tables shape least most of_grain);
    }
