-- Worked examples of the definitions, most by computing.
use Rattle.std.proofs.Common.{◌≡◌, ℕ, zero, suc, ◌+◌, ◌*◌, ◌^◌, ◌≤◌, List, [], ◌∷◌, ◌++◌, take, refl, sym, ap, ◌∙◌, subst}
use Rattle.std.proofs.Common.{arith}
use Rattle.std.proofs.Math.ListN.{replicate}
use Rattle.std.specs.Prelude.{slice_index_or}
use Rattle.prefix_lattice.specs.{RecordValue, node_index, AreLeadingBits, PrefixValue, IsPrefix, node_of_prefix}
use Rattle.prefix_lattice.specs.{prefix_key}
use Rattle.space_saving.specs.declared.entry.Entry.{Entry}
use Rattle.space_saving.specs.{TableValue, TableInterval}
use Rattle.prefix_lattice.specs.{address_bits}
use Rattle.prefix_lattice.specs.declared.grain.Grain.TheVariants.{Byte}
use Rattle.shard_state.specs.{TableShape, fold_from, SnapshotValue, CutValue, total_of_cut}
use Rattle.cut_merge.specs.CutTables.{first_seen, interval_over, keys_of}
use Rattle.cut_merge.specs.CutTables.{monitored_in}
use Rattle.cut_merge.specs.CutTables.{tables_at, interval_in_cut, monitored_in_cut, FitsTotal}
use Rattle.cut_merge.specs.declared.key_interval.KeyInterval.{KeyInterval}
use Rattle.cut_merge.specs.NodeMerge.{NodeMergeValue}
use Rattle.cut_merge.specs.Merged.{MergedValue, nothing_merged, interval_for_key, merge_at, interval_for}
use Rattle.cut_merge.specs.Merged.{candidates_at, RepresentsCut, IsMerged}

-- each key is where it is seen first
pub keys_are_seen_once : first_seen (3 ∷ 1 ∷ 3 ∷ 2 ∷ 1 ∷ []) ≡ 3 ∷ 1 ∷ 2 ∷ []
keys_are_seen_once = refl

-- in an empty list no key is seen
pub no_key_is_seen : first_seen [] ≡ []
no_key_is_seen = refl

-- an entry of a key, with a count and an error
abbrev entry : ℕ → ℕ → ℕ → Entry
entry key count error = record { key = key; count = count; error = error }

-- a full table of two entries, one with room, and an empty one
abbrev tables : List TableValue
tables =
    record { capacity = 2; entries = entry 8 3 1 ∷ entry 5 7 0 ∷ [] }
    ∷ record { capacity = 2; entries = entry 5 4 2 ∷ [] }
    ∷ record { capacity = 2; entries = [] }
    ∷ []

-- lows add up, and so do highs
pub key_in_two_tables : interval_over tables 5 ≡ record { low = 9; high = 11 }
key_in_two_tables = refl

-- a key that is missing in a table with free room adds nothing
pub key_in_the_full_table : interval_over tables 8 ≡ record { low = 2; high = 3 }
key_in_the_full_table = refl

-- one that is missing in a full table adds the least count to the high
pub key_in_no_table : interval_over tables 1 ≡ record { low = 0; high = 3 }
key_in_no_table = refl

pub keys_of_the_full_table : keys_of (record { capacity = 2; entries = entry 8 3 1 ∷ entry 5 7 0 ∷ [] }) ≡ 8 ∷ 5 ∷ []
keys_of_the_full_table = refl

-- the keys of the first table, and then none that is new
pub keys_of_all_tables : monitored_in tables ≡ 8 ∷ 5 ∷ []
keys_of_all_tables = refl

-- a packet of weight 1 from 10.0.0.HOST to 20.0.0.1
abbrev packet : ℕ → RecordValue
packet host = record { src = 0x0a000000 + host; dst = 0x14000001; weight = 1 }

-- tables of whole bytes, each of 2 entries
abbrev two : TableShape
two = record { grain = Byte; capacity = 2 }

-- a shard that counted some packets in such tables
abbrev shard : ℕ → List RecordValue → SnapshotValue
shard position packets = record { shape = two; position = position; tables = fold_from 0 two (replicate 25 []) packets }

-- hosts 1, 1 and 2 in one shard, and 1, 3 and 4 in another, whose table keeps 3, and replaces 1 by 4
abbrev cut : CutValue
cut = record {
  shape = two;
  shards = shard 3 (packet 1 ∷ packet 1 ∷ packet 2 ∷ []) ∷ shard 3 (packet 1 ∷ packet 3 ∷ packet 4 ∷ []) ∷ [];
}

-- the key of a host and the only destination, at the node that keeps this much of it
abbrev host_key : ℕ → ℕ → ℕ
host_key host dest = (0x0a000000 + host) * 2 ^ 32 + dest

-- at the node that keeps only whole sources, each shard counts the hosts; the error of the last of them is the count
-- that it took over
pub tables_of_the_sources : tables_at (record { grain = Byte; source_bits = 32; dest_bits = 0 }) cut
    ≡ record { capacity = 2; entries = entry (host_key 2 0) 1 0 ∷ entry (host_key 1 0) 2 0 ∷ [] }
    ∷ record { capacity = 2; entries = entry (host_key 3 0) 1 0 ∷ entry (host_key 4 0) 2 1 ∷ [] }
    ∷ []
tables_of_the_sources = refl

-- 10.0.0.HOST/32 20.0.0.1/32
abbrev host_prefix : ℕ → PrefixValue
host_prefix host = record { source = address_bits (0x0a000000 + host); dest = address_bits 0x14000001 }

-- host 1 has 3 packets: two that the first shard counts for sure, and one that may be part of the second shard's
-- least count
pub interval_of_a_host : interval_in_cut cut (host_prefix 1) ≡ record { low = 2; high = 3 }
interval_of_a_host = refl

pub interval_within_the_total : FitsTotal 6 (interval_in_cut cut (host_prefix 1))
interval_within_the_total =
    let low : (interval_in_cut cut (host_prefix 1)).low ≡ 2 = refl in
    let high : (interval_in_cut cut (host_prefix 1)).high ≡ 3 = refl in
    record { ordered = omega (arith, low, high); within_total = omega (arith, high) }

pub no_interval_is_above_the_total : ¬ FitsTotal 2 (interval_in_cut cut (host_prefix 1))
no_interval_is_above_the_total within = let high : 3 ≤ 2 = within.within_total in omega (arith, high)

-- one entry in each shard counts all hosts of 10.0.0.0/24
pub interval_of_all_hosts : interval_in_cut cut (record { source = take 24 (address_bits 0x0a000000); dest = address_bits 0x14000001 })
    ≡ record { low = 6; high = 6 }
interval_of_all_hosts = refl

-- hosts in first-seen order: 2 and 1 in the first shard's table, and 3 and 4 in the second's
pub hosts_of_both_shards : monitored_in_cut cut (record { grain = Byte; source_bits = 32; dest_bits = 0 })
    ≡ 0x0a00000200000000 ∷ 0x0a00000100000000 ∷ 0x0a00000300000000 ∷ 0x0a00000400000000 ∷ []
hosts_of_both_shards = refl

-- three packets in each shard
pub total_of_both_shards : total_of_cut cut ≡ 6
total_of_both_shards = refl

-- a host of this number, and the least and the greatest weight that it can have
abbrev weighing : ℕ → ℕ → ℕ → KeyInterval
weighing host low high = record { key = host_key host 0x14000001; low = low; high = high }

-- the tables of whole addresses merged: a run for each shard, whose hosts are in the order of their numbers, with the
-- least count 1 of either full table
abbrev hosts : NodeMergeValue
hosts = record {
  runs =
      record { intervals = weighing 1 2 2 ∷ weighing 2 1 1 ∷ []; missing = 1 }
      ∷ record { intervals = weighing 3 1 1 ∷ weighing 4 1 2 ∷ []; missing = 1 } ∷ [];
  keys =
      host_key 2 0x14000001 ∷ host_key 1 0x14000001 ∷ host_key 3 0x14000001 ∷ host_key 4 0x14000001 ∷ [];
}

-- they are at the last of the 25 nodes
abbrev merged : MergedValue
merged = record { shape = two; total = 6; nodes = replicate 24 nothing_merged ++ hosts ∷ [] }

pub whole_addresses_stand_last : merge_at (record { grain = Byte; source_bits = 32; dest_bits = 32 }) merged ≡ hosts
whole_addresses_stand_last = refl

pub merged_intervals_are_those_of_the_cut : interval_for merged (host_prefix 1) ≡ interval_in_cut cut (host_prefix 1)
merged_intervals_are_those_of_the_cut = refl

-- host 9 may have been missed in both shards
pub interval_of_a_host_that_no_shard_monitors : interval_for merged (host_prefix 9) ≡ record { low = 0; high = 2 }
interval_of_a_host_that_no_shard_monitors = refl

pub candidates_are_the_monitored_keys : candidates_at merged (record { grain = Byte; source_bits = 32; dest_bits = 32 })
    ≡ monitored_in_cut cut (record { grain = Byte; source_bits = 32; dest_bits = 32 })
candidates_are_the_monitored_keys = refl

-- 0.0.0.0/0 0.0.0.0/0
abbrev root : PrefixValue
root = record { source = []; dest = [] }

root_is_prefix : IsPrefix Byte root
root_is_prefix =
    let none : AreLeadingBits [] = record { few = omega arith; bits = λ place. omega arith } in
    record { source = none; dest = none; source_steps = refl; dest_steps = refl }

pub merged_of_one_node_does_not_stand_for_the_cut : ¬ RepresentsCut merged cut
merged_of_one_node_does_not_stand_for_the_cut stands =
    let high : 0 ≡ 6 = ap (λ (i : TableInterval). i.high) (stands.intervals root root_is_prefix) in omega (arith, high)

-- a cut of one shard that counted nothing
abbrev nothing_counted : CutValue
nothing_counted = record { shape = two; shards = shard 0 [] ∷ [] }

-- its merged tables
abbrev nothing : MergedValue
nothing = record { shape = two; total = 0; nodes = replicate 25 nothing_merged }

-- in a list of equal elements the element at each index is that element, which is also the default
alike : {X : Type 0} (x : X) (length place : ℕ) → slice_index_or (replicate length x) place x ≡ x
alike x zero place = refl
alike x (suc length) zero = refl
alike x (suc length) (suc place) = alike x length place

pub nothing_represents_nothing_counted : RepresentsCut nothing nothing_counted
nothing_represents_nothing_counted =
    let table : List Entry → TableValue = λ entries. record { capacity = 2; entries = entries } in
    record {
      shape = refl;
      total = refl;
      intervals = λ prefix is_prefix.
          ap (λ merge. interval_for_key merge (prefix_key prefix)) (alike nothing_merged 25 (node_index (node_of_prefix Byte prefix)))
          ∙ sym (ap (λ entries. interval_over (table entries ∷ []) (prefix_key prefix))
          (alike [] 25 (node_index (node_of_prefix Byte prefix))));
      candidates = λ node is_node.
          ap (λ (merge : NodeMergeValue). merge.keys) (alike nothing_merged 25 (node_index node))
          ∙ sym (ap (λ entries. monitored_in (table entries ∷ [])) (alike [] 25 (node_index node)));
    }

pub nothing_is_merged : IsMerged nothing
nothing_is_merged = record {
  bounded = omega arith;
  as_many = refl;
  intervals = λ place key.
      subst (λ merge. FitsTotal 0 (interval_for_key merge key)) (sym (alike nothing_merged 25 place))
      (record { ordered = omega arith; within_total = omega arith });
}

-- a total of 2 is below the high of host 1
pub merged_intervals_are_within_the_total : ¬ IsMerged (record merged { total = 2 })
merged_intervals_are_within_the_total kept =
    let high : 3 ≤ 2 = (kept.intervals 24 (host_key 1 0x14000001)).within_total in omega (arith, high)
