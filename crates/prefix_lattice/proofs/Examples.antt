-- Worked examples of addresses, records, nodes, prefixes and keys, and of the lattice.
use Rattle.std.proofs.Common.{◌≡◌, ℕ, [], ◌∷◌, ap, true, false, None, Some, refl, arith}
use Rattle.std.proofs.Common.{◌+◌, ◌*◌, ◌%◌, ◌^◌, ◌≤◌, List, length, take}
use Rattle.std.specs.declared.cmp.Ordering.TheVariants.{Less, Equal, Greater}
use Rattle.prefix_lattice.specs.Record.{RecordValue}
use Rattle.prefix_lattice.specs.Node.{NodeValue, IsNode, node_index, node_at, node_level}
use Rattle.prefix_lattice.specs.Node.{deepest_level}
use Rattle.prefix_lattice.specs.Grain.{grain_bits, grain_lengths, node_count, finest_grain, IsGrainLength}
use Rattle.prefix_lattice.specs.declared.grain.Grain.TheVariants.{Byte, Nibble}
use Rattle.prefix_lattice.specs.Prefix.{IsPrefixKey, HasPrefixKey, PrefixValue, IsPrefix, covers}
use Rattle.prefix_lattice.specs.Weight.{prefix_weight, total_weight}
use Rattle.prefix_lattice.specs.Prefix.{node_of_prefix, prefix_at, prefix_key, prefix_level, prefix_code}
use Rattle.prefix_lattice.specs.Address.{digits, number_from, address_bits, address_bytes, address_of}
use Rattle.prefix_lattice.specs.KeptBits.{begins_with, AreLeadingBits}
use Rattle.prefix_lattice.specs.Address.{address_length, address_size}
use Rattle.prefix_lattice.specs.Lattice.{under, same_as, strictly_under}
use Rattle.prefix_lattice.specs.Meets.{meet_side, meet_of_sides, meet}
use Rattle.prefix_lattice.specs.Meets.{AreOverlapping}
use Rattle.prefix_lattice.specs.ReportOrder.{report_order}
use Rattle.prefix_lattice.proofs.AddressLemmas.{address_front_is_leading, address_front-length}
use Rattle.prefix_lattice.proofs.UnderMeetLemmas.{meet-some}
use Rattle.prefix_lattice.specs.Limits.{most_grain_capacity, record_limit, shard_limit, total_limit}
use Rattle.prefix_lattice.specs.Interval.{HoldsWeight, IsNarrow}
use Rattle.std.proofs.Common.{◌<◌}

-- 100 bytes from 10.1.2.3 to 20.1.2.3
abbrev pub packet : RecordValue
packet = record { src = 0x0a010203; dst = 0x14010203; weight = 100 }

-- 60 bytes back
abbrev pub answer : RecordValue
answer = record { src = 0x14010203; dst = 0x0a010203; weight = 60 }

-- the first bits of an address
abbrev pub front : ℕ → ℕ → List ℕ
front address bits = take bits (address_bits address)

-- 10.0.0.0/8 20.1.0.0/16
abbrev pub prefix : PrefixValue
prefix = record { source = front 0x0a000000 8; dest = front 0x14010000 16 }

-- digits above the lowest two are left out
pub lowest_two_bytes : digits 256 2 0x0a1401 ≡ 20 ∷ 1 ∷ []
lowest_two_bytes = refl

pub number_of_two_bytes : number_from 256 0 (20 ∷ 1 ∷ []) ≡ 0x1401
number_of_two_bytes = refl

pub number_that_goes_on_with_a_byte : number_from 256 0x1401 (2 ∷ []) ≡ 0x140102
number_that_goes_on_with_a_byte = refl

pub bytes_of_an_address : address_bytes 0x0a010203 ≡ 10 ∷ 1 ∷ 2 ∷ 3 ∷ []
bytes_of_an_address = refl

pub size_of_an_address : length (address_bytes 0x0a010203) ≡ address_size
size_of_an_address = refl

pub bits_of_an_address : take 12 (address_bits 0x0a510203)
    ≡ 0 ∷ 0 ∷ 0 ∷ 0 ∷ 1 ∷ 0 ∷ 1 ∷ 0 ∷ 0 ∷ 1 ∷ 0 ∷ 1 ∷ []
bits_of_an_address = refl

pub address_of_four_bits : address_of (1 ∷ 0 ∷ 1 ∷ 0 ∷ []) ≡ 0xa0000000
address_of_four_bits = refl

pub bits_that_begin_with_others : begins_with (front 0x14010203 24) (front 0x14010000 12) ≡ true
bits_that_begin_with_others = refl

pub bits_that_begin_otherwise : begins_with (front 0x14010203 24) (front 0x14110000 12) ≡ false
bits_that_begin_otherwise = refl

pub bits_too_few_to_begin_with_more : begins_with (front 0x14010000 8) (front 0x14010000 16) ≡ false
bits_too_few_to_begin_with_more = refl

-- ---- grains

pub steps_of_bytes : grain_lengths Byte ≡ 5
steps_of_bytes = refl

pub steps_of_half_bytes : grain_lengths Nibble ≡ 9
steps_of_half_bytes = refl

pub twelve_bits_by_half_bytes : IsGrainLength Nibble 12
twelve_bits_by_half_bytes = record { few = omega arith; whole = refl }

pub twelve_bits_by_bytes : IsGrainLength Byte 12 → ⊥
twelve_bits_by_bytes length = omega (arith, length.whole)

-- ---- prefixes

pub leading_bits_of_an_address : (address bits : ℕ) → bits ≤ 32 → AreLeadingBits (front address bits)
leading_bits_of_an_address address bits few = address_front_is_leading bits address few

pub thirty_three_bits_lead_no_address : AreLeadingBits (0 ∷ address_bits 0x0a010203) → ⊥
thirty_three_bits_lead_no_address leading = omega (arith, leading.few)

pub no_bit_is_2 : AreLeadingBits (2 ∷ []) → ⊥
no_bit_is_2 leading = omega (arith, leading.bits 0)

pub prefix_by_bytes : IsPrefix Byte prefix
prefix_by_bytes = record {
  source = leading_bits_of_an_address 0x0a000000 8 (omega arith);
  dest = leading_bits_of_an_address 0x14010000 16 (omega arith);
  source_steps = refl;
  dest_steps = refl;
}

-- 10.16.0.0/12 0.0.0.0/0
abbrev from_twelve_bits : PrefixValue
from_twelve_bits = record { source = front 0x0a100000 12; dest = [] }

pub prefix_by_half_bytes : IsPrefix Nibble from_twelve_bits
prefix_by_half_bytes = record {
  source = leading_bits_of_an_address 0x0a100000 12 (omega arith);
  dest = record { few = omega arith; bits = λ place. omega arith };
  source_steps = refl;
  dest_steps = refl;
}

pub prefix_not_by_bytes : IsPrefix Byte from_twelve_bits → ⊥
prefix_not_by_bytes valid = omega (arith, valid.source_steps)

pub prefix_keeps_no_33rd_bit : IsPrefix Nibble (record { source = []; dest = 0 ∷ address_bits 0 }) → ⊥
prefix_keeps_no_33rd_bit valid = omega (arith, valid.dest.few)

pub covers_the_packet : covers prefix packet ≡ true
covers_the_packet = refl

pub covers_no_answer : covers prefix answer ≡ false
covers_no_answer = refl

pub root_covers_all : covers (record { source = []; dest = [] }) answer ≡ true
root_covers_all = refl

pub weighs_what_it_covers : prefix_weight prefix (packet ∷ answer ∷ packet ∷ []) ≡ 200
weighs_what_it_covers = refl

pub weighs_together : total_weight (packet ∷ answer ∷ packet ∷ []) ≡ 260
weighs_together = refl

-- the node of 8 source bits and 16 destination bits
abbrev node : NodeValue
node = record { grain = Byte; source_bits = 8; dest_bits = 16 }

pub node_of_the_lattice : IsNode Byte node
node_of_the_lattice = record {
  of_grain = refl;
  source = record { few = omega arith; whole = refl };
  dest = record { few = omega arith; whole = refl };
}

pub no_node_of_the_other_grain : IsNode Nibble node → ⊥
no_node_of_the_other_grain is_node = cc (is_node.of_grain)

pub no_node_of_40_bits : IsNode Byte (record { grain = Byte; source_bits = 0; dest_bits = 40 }) → ⊥
no_node_of_40_bits is_node = omega (arith, is_node.dest.few)

pub node_of_the_prefix : node_of_prefix Byte prefix ≡ node
node_of_the_prefix = refl

pub place_of_the_node : node_index node ≡ 7
place_of_the_node = refl

pub place_by_half_bytes : node_index (node_of_prefix Nibble prefix) ≡ 22
place_by_half_bytes = refl

pub node_of_the_place : node_at Byte 7 ≡ node
node_of_the_place = refl

pub last_node_keeps_all : node_at Nibble 80 ≡ record { grain = Nibble; source_bits = 32; dest_bits = 32 }
last_node_keeps_all = refl

pub level_of_the_node : node_level node ≡ 24
level_of_the_node = refl

pub level_of_the_prefix : prefix_level prefix ≡ 24
level_of_the_prefix = refl

pub prefix_of_the_packet : prefix_at node packet ≡ prefix
prefix_of_the_packet = refl

pub key_of_the_prefix : prefix_key prefix ≡ 0x0a00000014010000
key_of_the_prefix = refl

pub code_of_the_prefix : prefix_code Byte prefix ≡ 0x70a00000014010000
code_of_the_prefix = refl

pub key_of_its_node : IsPrefixKey node 0x0a00000014010000
key_of_its_node = record { source = refl; dest = refl }

-- of the destination only 16 bits are kept
pub key_with_a_loose_bit : IsPrefixKey node 0x0a00000014010001 → ⊥
key_with_a_loose_bit is_key = omega (arith, is_key.dest)

pub prefix_of_a_key : HasPrefixKey node 0x0a00000014010000 prefix
prefix_of_a_key = record { is_prefix = prefix_by_bytes; of_node = refl; of_key = refl }

-- 10.0.0.0/16 has the address of 10.0.0.0/8, but is of another node
pub key_of_two_nodes : HasPrefixKey node 0x0a00000014010000
    (record { source = front 0x0a000000 16; dest = front 0x14010000 16 }) → ⊥
key_of_two_nodes has_key = omega (arith, ap (λ n. n.source_bits) has_key.of_node)

-- 0.0.0.0/0 0.0.0.0/0
abbrev pub root : PrefixValue
root = record { source = []; dest = [] }

-- 10.0.0.0/8 0.0.0.0/0
abbrev from_ten : PrefixValue
from_ten = record { source = front 0x0a000000 8; dest = [] }

-- 11.0.0.0/8 0.0.0.0/0
abbrev from_eleven : PrefixValue
from_eleven = record { source = front 0x0b000000 8; dest = [] }

-- 0.0.0.0/0 20.0.0.0/8
abbrev pub to_twenty : PrefixValue
to_twenty = record { source = []; dest = front 0x14000000 8 }

-- 10.0.0.0/8 20.0.0.0/8
abbrev pub from_ten_to_twenty : PrefixValue
from_ten_to_twenty = record { source = front 0x0a000000 8; dest = front 0x14000000 8 }

pub more_kept_bits_stand_under : under prefix from_ten_to_twenty ≡ true
more_kept_bits_stand_under = refl

pub more_kept_bits_on_one_side_do_not : under from_ten to_twenty ≡ false
more_kept_bits_on_one_side_do_not = refl

pub each_is_the_same_as_itself : same_as prefix prefix ≡ true
each_is_the_same_as_itself = refl

pub under_another_is_not_the_same : same_as prefix from_ten_to_twenty ≡ false
under_another_is_not_the_same = refl

pub none_is_strictly_under_itself : strictly_under prefix prefix ≡ false
none_is_strictly_under_itself = refl

pub all_others_are_strictly_under_the_root : strictly_under to_twenty root ≡ true
all_others_are_strictly_under_the_root = refl

pub longer_side_of_two : meet_side (front 0x14000000 8) (front 0x14010000 16) ≡ Some (front 0x14010000 16)
longer_side_of_two = refl

pub no_longer_side_of_two_that_differ : meet_side (front 0x14000000 8) (front 0x15010000 16) ≡ None
no_longer_side_of_two_that_differ = refl

pub two_sides_make_a_prefix : meet_of_sides (Some (front 0x0a000000 8)) (Some []) ≡ Some from_ten
two_sides_make_a_prefix = refl

pub one_side_makes_none : meet_of_sides (Some (front 0x0a000000 8)) None ≡ None
one_side_makes_none = refl

pub meet_takes_the_longer_side : meet from_ten to_twenty ≡ Some from_ten_to_twenty
meet_takes_the_longer_side = refl

pub other_sources_do_not_meet : meet from_ten from_eleven ≡ None
other_sources_do_not_meet = refl

-- both cover the packet's pair of addresses
pub addresses_are_shared : AreOverlapping from_ten to_twenty
addresses_are_shared = record {
  pair = packet;
  is_source = omega arith;
  is_dest = omega arith;
  covered = refl;
  covered_by_other = refl;
}

pub no_address_is_shared : AreOverlapping from_ten from_eleven → ⊥
no_address_is_shared shares = cc ((meet-some from_ten from_eleven (valid 0x0a000000) (valid 0x0b000000)).1 shares)
  where
    valid : (address : ℕ) → IsPrefix Byte (record { source = front address 8; dest = [] })
    valid address = record {
      source = leading_bits_of_an_address address 8 (omega arith);
      dest = record { few = omega arith; bits = λ place. omega arith };
      source_steps = ap (λ n. n % 8) (address_front-length 8 address (omega arith));
      dest_steps = refl;
    }

pub greater_levels_come_first : report_order prefix from_ten ≡ Less
greater_levels_come_first = refl

pub sources_rise_within_a_level : report_order from_ten to_twenty ≡ Greater
sources_rise_within_a_level = refl

-- of two prefixes with source address 0.0.0.0, the one that keeps fewer of its bits comes first, whatever the
-- destinations
pub kept_bits_rise_within_a_source : report_order to_twenty (record { source = front 0 8; dest = [] }) ≡ Less
kept_bits_rise_within_a_source = refl

pub destinations_rise_last : report_order (record { source = front 0x0a000000 8; dest = front 0x15000000 8 }) from_ten_to_twenty ≡ Greater
destinations_rise_last = refl

pub each_stands_where_it_is : report_order prefix prefix ≡ Equal
each_stands_where_it_is = refl

-- ---- sizes and limits

pub length_of_an_address : length (address_bits 0x0a010203) ≡ address_length
length_of_an_address = refl

-- the node of whole addresses is the last one, and of the deepest level
pub steps_of_all_bits : grain_bits finest_grain ≡ 4
steps_of_all_bits = refl

pub nodes_up_to_whole_addresses : node_index (record { grain = finest_grain; source_bits = 32; dest_bits = 32 }) + 1 ≡ node_count finest_grain
nodes_up_to_whole_addresses = refl

pub level_of_whole_addresses : node_level (record { grain = Byte; source_bits = 32; dest_bits = 32 }) ≡ deepest_level
level_of_whole_addresses = refl

pub records_are_few : record_limit ≡ 2 ^ 24
records_are_few = refl

-- tables by half bytes have at most as many entries together as tables by bytes
pub entries_of_all_tables_are_few :
    node_count Nibble * most_grain_capacity Nibble < node_count Byte * most_grain_capacity Byte
entries_of_all_tables_are_few = omega arith

-- the limit of a total is the product of the limits of shards, records and weights
pub limit_of_a_total : shard_limit * (record_limit * 2 ^ 32) ≡ total_limit
limit_of_a_total = refl

-- ---- intervals

pub weight_within : HoldsWeight 4 6 5
weight_within = record { low = omega arith; high = omega arith }

pub weight_above : HoldsWeight 4 5 6 → ⊥
weight_above holds = omega (arith, holds.high)

-- an interval of width 2 is narrow in a table of capacity 3 with a total of 6, but not in one of capacity 4
pub width_for_three_entries : IsNarrow 4 6 3 6
width_for_three_entries = omega arith

pub too_wide_for_four : IsNarrow 4 6 4 6 → ⊥
too_wide_for_four narrow = omega (arith, narrow)
