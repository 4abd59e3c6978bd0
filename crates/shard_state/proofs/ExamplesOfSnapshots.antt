-- Worked examples of snapshots and cuts, most by computing.
use Rattle.std.proofs.Common.{◌≡◌, ℕ, zero, suc, [], ◌∷◌, length, replicate, Some, slice_get, refl, sym, ap, subst, arith}
use Rattle.std.proofs.lemmas.List.Elements.{All-nil, All-cons, All-head}
use Rattle.prefix_lattice.specs.{node_at, IsPrefixKey, grain_bits}
use Rattle.prefix_lattice.specs.declared.grain.Grain.TheVariants.{Byte, Nibble}
use Rattle.space_saving.specs.declared.entry.Entry.{Entry}
use Rattle.space_saving.specs.{TableValue}
use Rattle.hhh_report.specs.{records_before}
use Rattle.shard_state.specs.Snapshot.{SnapshotValue, IsSnapshot, no_entries, empty_snapshot}
use Rattle.shard_state.specs.Snapshot.{entries_at, table_at}
use Rattle.shard_state.specs.Snapshot.{tables_of, snapshot_total, IsLikeTable, AreTablesOf}
use Rattle.shard_state.specs.Snapshot.{AreParts, copied_from, TableShape}
use Rattle.shard_state.specs.Snapshot.{SnapshotRepresents}
use Rattle.shard_state.specs.Cut.{CutValue, IsCut, empty_cut, cut_positions, total_of_cut}
use Rattle.shard_state.specs.Cut.{CutRepresents}
use Rattle.shard_state.specs.ShardState.{folded_shard, snapshot_of}
use Rattle.shard_state.proofs.EmptyTableLemmas.{empty_table, IsSnapshot-empty_tables, empty_tables_make_shard_cut}
use Rattle.shard_state.proofs.RepresentationLemmas.{representation_when_empty, representation_of_shard}
use Rattle.shard_state.proofs.Examples.{x, u, first, entry, shard, four, halves}

-- the six packets are counted
abbrev at_the_end : SnapshotValue
at_the_end = snapshot_of (folded_shard 9 shard)

pub counts_six_records : at_the_end.position ≡ 6
counts_six_records = refl

pub entries_at_the_root : entries_at (node_at Byte 0) at_the_end ≡ entry 0 6 0 ∷ []
unfolding no_entries
entries_at_the_root = refl

pub table_at_the_root : table_at (node_at Byte 0) at_the_end ≡ record { capacity = 4; entries = entry 0 6 0 ∷ [] }
unfolding no_entries
table_at_the_root = refl

pub tables_at_the_end : length (tables_of at_the_end) ≡ 25
unfolding no_entries
tables_at_the_end = refl

pub snapshot_of_no_record : IsSnapshot (empty_snapshot four)
snapshot_of_no_record = IsSnapshot-empty_tables four (omega arith) (omega arith) (omega arith)

pub total_of_no_record : snapshot_total (empty_snapshot four) ≡ 0
unfolding no_entries
total_of_no_record = refl

pub snapshot_of_capacity_1 : IsSnapshot (empty_snapshot (record { grain = Byte; capacity = 1 })) → ⊥
snapshot_of_capacity_1 kept = omega (arith, kept.least)

-- at half bytes the tables have at most 1024 entries each
pub halves_of_capacity_1025 : IsSnapshot (empty_snapshot (record { grain = Nibble; capacity = 1025 })) → ⊥
halves_of_capacity_1025 kept = omega (arith, kept.of_grain)

pub snapshot_of_halves : IsSnapshot (empty_snapshot halves)
snapshot_of_halves = IsSnapshot-empty_tables halves (omega arith) (omega arith) (omega arith)

pub tables_of_halves : length (no_entries Nibble) ≡ 81
unfolding no_entries
tables_of_halves = refl

pub snapshot_without_a_table : IsSnapshot (record { shape = four; position = 0; tables = replicate 24 [] }) → ⊥
snapshot_without_a_table kept = omega (arith, kept.as_many)

-- the table of the root after one packet
abbrev root_table : TableValue
root_table = record { capacity = 4; entries = entry 0 1 0 ∷ [] }

pub position_and_tables_copied : copied_from four 1 (root_table ∷ []) ≡ record { shape = four; position = 1; tables = (entry 0 1 0 ∷ []) ∷ [] }
position_and_tables_copied = refl

pub empty_table_is_like : IsLikeTable 4 0 (node_at Byte 7) (empty_table 4)
empty_table_is_like = record { same_capacity = refl; same_total = refl; keyed = All-nil (λ (e : Entry). IsPrefixKey (node_at Byte 7) e.key) }

-- the table counted one packet, so its total is not 0
pub table_of_another_total : IsLikeTable 4 0 (node_at Byte 0) root_table → ⊥
table_of_another_total like = omega (arith, like.same_total)

all_the_same : (n place : ℕ) (table here : TableValue) → slice_get (replicate n table) place ≡ Some here → here ≡ table
all_the_same zero place table here read = cc
all_the_same (suc n) zero table here read = cc
all_the_same (suc n) (suc place) table here read = all_the_same n place table here read

pub empty_tables : AreTablesOf Byte (replicate 25 (empty_table 4))
empty_tables = record {
  capacity = 4;
  total = 0;
  of_grain = omega arith;
  as_many = refl;
  alike = λ place table read.
      subst (IsLikeTable 4 0 (node_at Byte place)) (sym (all_the_same 25 place (empty_table 4) table read))
      (record { same_capacity = refl; same_total = refl; keyed = All-nil (λ (e : Entry). IsPrefixKey (node_at Byte place) e.key) });
}

pub parts_at_the_limit : AreParts Byte 16777216 (replicate 25 (empty_table 4))
parts_at_the_limit = record { placed = omega arith; are_tables = empty_tables }

pub position_past_the_limit : AreParts Byte 16777217 (replicate 25 (empty_table 4)) → ⊥
position_past_the_limit parts = omega (arith, parts.placed)

pub one_table_too_few : AreTablesOf Byte (replicate 24 (empty_table 4)) → ⊥
one_table_too_few are = omega (arith, are.as_many)

-- 25 tables are those of no snapshot of half bytes
pub tables_of_another_grain : AreTablesOf Nibble (replicate 25 (empty_table 4)) → ⊥
tables_of_another_grain are = omega (arith, are.as_many)

pub tables_too_large_for_halves : AreTablesOf Nibble (replicate 81 (empty_table 1025)) → ⊥
tables_too_large_for_halves are =
    let first : 1025 ≡ are.capacity = (are.alike 0 (empty_table 1025) refl).same_capacity in
    omega (arith, first, are.of_grain)

-- two shards, one of which counted the six packets
abbrev cut : CutValue
cut = record { shape = four; shards = at_the_end ∷ empty_snapshot four ∷ [] }

pub positions_of_two_shards : cut_positions cut ≡ 6 ∷ 0 ∷ []
positions_of_two_shards = refl

pub total_of_two_shards : total_of_cut cut ≡ 6
unfolding no_entries
total_of_two_shards = refl

pub cut_of_no_record : IsCut (empty_cut 2 four)
cut_of_no_record = empty_tables_make_shard_cut 2 four (omega arith) (omega arith) (omega arith) (omega arith) (omega arith)

pub cut_of_no_shard : IsCut (empty_cut 0 four) → ⊥
cut_of_no_shard kept = omega (arith, kept.some)

pub positions_of_no_record : cut_positions (empty_cut 2 four) ≡ 0 ∷ 0 ∷ []
positions_of_no_record = refl

-- the tables are those of the six packets
pub stands_for_the_first : SnapshotRepresents at_the_end first
stands_for_the_first = representation_of_shard (folded_shard 9 shard) (representation_when_empty four first) (omega arith) (omega arith)

-- it counts more records than the list has
pub stands_for_no_shorter_list : SnapshotRepresents at_the_end (x ∷ []) → ⊥
stands_for_no_shorter_list stands = omega (arith, stands.within)

pub stands_for_two_lists : CutRepresents cut (first ∷ (u ∷ u ∷ []) ∷ [])
stands_for_two_lists = record {
  alike =
      All-cons (λ (s : SnapshotValue). s.shape ≡ four) at_the_end (empty_snapshot four ∷ []) refl
      (All-cons (λ (s : SnapshotValue). s.shape ≡ four) (empty_snapshot four) [] refl
      (All-nil (λ (s : SnapshotValue). s.shape ≡ four)));
  shards = (stands_for_the_first, (representation_when_empty four (u ∷ u ∷ []), tt));
}

-- tables of another capacity are not those of the cut, nor are those of another grain
pub stands_for_no_other_capacity : CutRepresents (record { shape = record { grain = Byte; capacity = 8 }; shards = at_the_end ∷ [] }) (first ∷ []) → ⊥
stands_for_no_other_capacity stands =
    let eight : TableShape = record { grain = Byte; capacity = 8 } in
    let same : four ≡ eight = All-head (λ (s : SnapshotValue). s.shape ≡ eight) at_the_end [] stands.alike in
    let capacities : 4 ≡ 8 = ap (λ (s : TableShape). s.capacity) same in
    omega (arith, capacities)

pub stands_for_no_other_grain : CutRepresents (record { shape = halves; shards = at_the_end ∷ [] }) (first ∷ []) → ⊥
stands_for_no_other_grain stands =
    let same : four ≡ halves = All-head (λ (s : SnapshotValue). s.shape ≡ halves) at_the_end [] stands.alike in
    let grains : 8 ≡ 4 = ap (λ (s : TableShape). grain_bits s.grain) same in
    omega (arith, grains)

-- a cut of two shards represents two lists
pub stands_for_no_single_list : CutRepresents cut (first ∷ []) → ⊥
stands_for_no_single_list stands = stands.shards.1

pub before_the_cut : records_before (first ∷ (u ∷ u ∷ []) ∷ []) (cut_positions cut) ≡ first
before_the_cut = refl
