-- Worked examples of the tables of a shard, most by computing.
use Rattle.std.proofs.Common.{◌≡◌, ◌≤◌, ◌<◌, ◌^◌, ℕ, List, [], ◌∷◌, take, refl, lit<, arith}
use Rattle.std.proofs.lemmas.List.Elements.{All-from_recursion, All-head}
use Rattle.prefix_lattice.specs.{RecordValue, node_at, IsPrefixKey, PrefixValue}
use Rattle.prefix_lattice.specs.{address_bits}
use Rattle.prefix_lattice.specs.declared.grain.Grain.TheVariants.{Byte, Nibble}
use Rattle.space_saving.specs.declared.entry.Entry.{Entry}
use Rattle.space_saving.specs.{TableValue, HasSmallError}
use Rattle.shard_state.specs.Snapshot.{adds_of, records_table, fold_at, fold_from}
use Rattle.shard_state.specs.Snapshot.{HasKeys, IsTableAt, table_after}
use Rattle.shard_state.specs.Snapshot.{tables_after, no_entries, empty_snapshot, entries_at}
use Rattle.shard_state.specs.Snapshot.{snapshot_total, TableShape}
use Rattle.shard_state.specs.ShardState.{ShardValue, IsShard, folded_shard, snapshot_of}
use Rattle.shard_state.specs.WeightIntervals.{HoldsNarrowly, HoldsNarrowlyOver}
use Rattle.shard_state.specs.WeightIntervals.{interval_over, interval_of}
use Rattle.shard_state.proofs.EmptyTableLemmas.{IsSnapshot-empty_tables}
use Rattle.shard_state.proofs.ShardStateLemmas.{shard_state_is_begun}
use Rattle.prefix_lattice.specs.{most_grain_capacity}

-- tables of whole bytes, each of 4 entries
abbrev pub four : TableShape
four = record { grain = Byte; capacity = 4 }

-- tables of half bytes
abbrev pub halves : TableShape
halves = record { grain = Nibble; capacity = 4 }

-- packets from N.0.0.1 to (100 + N).0.0.1
abbrev pub x : RecordValue
x = record { src = 0x01000001; dst = 0x65000001; weight = 1 }

abbrev pub u : RecordValue
u = record { src = 0x02000001; dst = 0x66000001; weight = 1 }

abbrev pub first : List RecordValue
first = x ∷ x ∷ x ∷ x ∷ x ∷ u ∷ []

abbrev pub entry : ℕ → ℕ → ℕ → Entry
entry key count error = record { key = key; count = count; error = error }

pub adds_of_whole_addresses : adds_of (node_at Byte 24) (x ∷ u ∷ [])
    ≡ record { key = 0x0100000165000001; weight = 1 } ∷ record { key = 0x0200000166000001; weight = 1 } ∷ []
adds_of_whole_addresses = refl

-- the table of whole addresses: U is at the head, since its count is the least
pub table_of_the_first : records_table 4 (node_at Byte 24) first ≡ entry 0x0200000166000001 1 0 ∷ entry 0x0100000165000001 5 0 ∷ []
table_of_the_first = refl

-- in the table of the root all packets have the same key
pub table_at_the_root : records_table 4 (node_at Byte 0) first ≡ entry 0 6 0 ∷ []
table_at_the_root = refl

-- a table continues from the entries that it has
pub goes_on : fold_at 4 (node_at Byte 0) (entry 0 4 0 ∷ []) (x ∷ u ∷ []) ≡ entry 0 6 0 ∷ []
goes_on = refl

-- the last two tables: of node 23, which keeps three bytes of the destination, and of node 24
pub last_two_tables_go_on : fold_from 23 four ([] ∷ [] ∷ []) (x ∷ []) ≡ (entry 0x0100000165000000 1 0 ∷ []) ∷ (entry 0x0100000165000001 1 0 ∷ []) ∷ []
last_two_tables_go_on = refl

-- of half bytes, the last two of 81 tables: of node 79, which keeps 28 bits of the destination, and of node 80
pub last_two_tables_of_halves : fold_from 79 halves ([] ∷ [] ∷ []) (x ∷ [])
    ≡ (entry 0x0100000165000000 1 0 ∷ []) ∷ (entry 0x0100000165000001 1 0 ∷ []) ∷ []
last_two_tables_of_halves = refl

pub greatest_capacities : (most_grain_capacity Byte ≡ 4096) × (most_grain_capacity Nibble ≡ 1024)
greatest_capacities = (refl, refl)

abbrev root_table : TableValue
root_table = record { capacity = 4; entries = entry 0 4 0 ∷ [] }

pub root_table_goes_on : table_after (node_at Byte 0) (x ∷ u ∷ []) root_table ≡ record { capacity = 4; entries = entry 0 6 0 ∷ [] }
root_table_goes_on = refl

pub row_of_one_table : tables_after Byte 0 (root_table ∷ []) (x ∷ u ∷ []) ≡ table_after (node_at Byte 0) (x ∷ u ∷ []) root_table ∷ []
row_of_one_table = refl

pub key_of_three_bytes : HasKeys (node_at Byte 23) (entry 0x0100000165000000 1 0 ∷ [])
key_of_three_bytes =
    All-from_recursion (λ (e : Entry). IsPrefixKey (node_at Byte 23) e.key) (entry 0x0100000165000000 1 0 ∷ [])
    (record { source = refl; dest = refl }, tt)

-- the last byte of the destination isn't kept
pub key_with_a_loose_bit : HasKeys (node_at Byte 23) (entry 0x0100000165000001 1 0 ∷ []) → ⊥
key_with_a_loose_bit has =
    let dest : 1 ≡ 0 = (All-head (λ (e : Entry). IsPrefixKey (node_at Byte 23) e.key) (entry 0x0100000165000001 1 0) [] has).dest in
    omega (arith, dest)

pub table_of_the_root : IsTableAt 4 6 (node_at Byte 0) (entry 0 6 0 ∷ [])
table_of_the_root = record {
  are_entries = record {
    is_table = record {
      fits = omega arith;
      ascending = (omega arith, tt);
      distinct = (refl, tt);
      small_errors = All-from_recursion (HasSmallError 4 6) (entry 0 6 0 ∷ []) ((omega arith, omega arith), tt);
    };
    bounded = lit< tt;
  };
  counted = refl;
  keyed = All-from_recursion (λ (e : Entry). IsPrefixKey (node_at Byte 0) e.key) (entry 0 6 0 ∷ []) (record { source = refl; dest = refl }, tt);
}

pub table_of_another_total : IsTableAt 4 5 (node_at Byte 0) (entry 0 6 0 ∷ []) → ⊥
table_of_another_total table = omega (arith, table.counted)

-- a shard of the six packets that counted none
abbrev pub shard : ShardValue
shard = record { list = first; base = empty_snapshot four; position = 0 }

pub folds_by_four : (folded_shard 4 shard).position ≡ 4
folds_by_four = refl

pub folds_to_the_end : (folded_shard 4 (folded_shard 4 shard)).position ≡ 6
folds_to_the_end = refl

pub snapshot_at_the_end : entries_at (node_at Byte 24) (snapshot_of (folded_shard 9 shard)) ≡ records_table 4 (node_at Byte 24) first
unfolding no_entries
snapshot_at_the_end = refl

pub total_at_the_end : snapshot_total (snapshot_of (folded_shard 9 shard)) ≡ 6
unfolding no_entries
total_at_the_end = refl

-- no record is counted, and no table has an entry
pub begun_shard : IsShard shard
unfolding no_entries
begun_shard =
    let weighed =
    All-from_recursion (λ (r : RecordValue). 1 ≤ r.weight) first
    (omega arith, (omega arith, (omega arith, (omega arith, (omega arith, (omega arith, tt)))))) in
    let bounded =
    All-from_recursion (λ (r : RecordValue). r.weight < 2 ^ 32) first
    (omega arith, (omega arith, (omega arith, (omega arith, (omega arith, (omega arith, tt)))))) in
    (shard_state_is_begun first (empty_snapshot four) 0 refl (IsSnapshot-empty_tables four (omega arith)
    (omega arith) (omega arith)) (omega arith) (omega arith) weighed
    bounded refl).is_shard

-- a shard counts no more than its records
pub shard_past_its_end : IsShard (record shard { position = 7 }) → ⊥
shard_past_its_end kept = omega (arith, kept.within)

-- 1.0.0.0/8 0.0.0.0/0
abbrev from_one : PrefixValue
from_one = record { source = take 8 (address_bits 0x01000000); dest = [] }

pub interval_of_five : interval_over four from_one first ≡ record { low = 5; high = 5 }
interval_of_five = refl

pub interval_in_a_snapshot : interval_of from_one (snapshot_of (folded_shard 9 shard)) ≡ record { low = 5; high = 5 }
unfolding no_entries
interval_in_a_snapshot = refl

pub five_are_held : HoldsNarrowlyOver four from_one first
five_are_held = record { holds = record { low = omega arith; high = omega arith }; narrow = omega arith }

-- 2 times 4 is more than 6
pub interval_that_is_too_wide : HoldsNarrowly (record { low = 4; high = 6 }) 4 5 6 → ⊥
interval_that_is_too_wide holds = omega (arith, holds.narrow)

pub interval_beside_the_weight : HoldsNarrowly (record { low = 4; high = 5 }) 4 6 6 → ⊥
interval_beside_the_weight holds = omega (arith, holds.holds.high)
