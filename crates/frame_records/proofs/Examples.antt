-- Worked examples of the records of frames, each by computing.
use Rattle.std.proofs.Common.{◌≡◌, ℕ, true, false, List, [], ◌∷◌, ◌++◌, take, length, Some, None, Ok, Err, refl}
use Rattle.prefix_lattice.specs.{RecordValue}
use Rattle.pcap_frames.specs.{FrameValue}
use Rattle.frame_records.specs.FrameRecord.{is_tag_at, frame_tag_bytes, network_place, begins_as_ipv4}
use Rattle.frame_records.specs.FrameRecord.{skip_at, skip_of}
use Rattle.frame_records.specs.FrameRecord.{weight_of, record_at, record_if_kept, record_of}
use Rattle.frame_records.specs.FrameRecord.{records_of}
use Rattle.frame_records.specs.FrameRecord.{is_skipped, skipped_count}
use Rattle.frame_records.specs.declared.weigh.Weigh.TheVariants.{Bytes, Packets}
use Rattle.frame_records.specs.declared.skip.Skip.TheVariants.{NotIpv4, Short, BadHeader}

-- the two hardware addresses
abbrev addresses : List ℕ
addresses = 2 ∷ 0 ∷ 0 ∷ 0 ∷ 0 ∷ 2 ∷ 2 ∷ 0 ∷ 0 ∷ 0 ∷ 0 ∷ 1 ∷ []

-- an IPv4 header that begins with this byte, from 10.1.2.3 to 20.1.2.3
abbrev packet : ℕ → List ℕ
packet first = first ∷ 0 ∷ 0 ∷ 86 ∷ 0 ∷ 0 ∷ 0 ∷ 0 ∷ 64 ∷ 17 ∷ 0 ∷ 0 ∷ 10 ∷ 1 ∷ 2 ∷ 3 ∷ 20 ∷ 1 ∷ 2 ∷ 3 ∷ []

-- a frame of these captured bytes, at most 42, and of 100 bytes on the wire
abbrev frame : List ℕ → FrameValue
frame head = record { head = head; captured = length head; original = 100 }

-- its record, with this weight
abbrev pub weighing : ℕ → RecordValue
weighing weight = record { src = 0x0a010203; dst = 0x14010203; weight = weight }

abbrev pub plain : FrameValue
plain = frame (addresses ++ 8 ∷ 0 ∷ packet 0x45)

abbrev pub arp : FrameValue
arp = frame (addresses ++ 8 ∷ 6 ∷ [])

-- a packet after one VLAN tag, and one after two
abbrev pub tagged : FrameValue
tagged = frame (addresses ++ 0x81 ∷ 0 ∷ 0 ∷ 7 ∷ 8 ∷ 0 ∷ packet 0x45)

abbrev pub twice_tagged : FrameValue
twice_tagged = frame (addresses ++ 0x88 ∷ 0xa8 ∷ 0 ∷ 7 ∷ 0x81 ∷ 0 ∷ 0 ∷ 8 ∷ 8 ∷ 0 ∷ packet 0x45)

-- ---- tags and the type

pub vlan_tag : is_tag_at 12 tagged ≡ true
vlan_tag = refl

pub type_behind_a_tag_is_none : is_tag_at 16 tagged ≡ false
type_behind_a_tag_is_none = refl

-- a tag whose second byte wasn't captured
pub cut_tag_is_none : is_tag_at 12 (frame (take 13 tagged.head)) ≡ false
cut_tag_is_none = refl

pub service_tag_before_a_vlan_tag : frame_tag_bytes twice_tagged ≡ 8
service_tag_before_a_vlan_tag = refl

pub no_tag_takes_no_bytes : frame_tag_bytes plain ≡ 0
no_tag_takes_no_bytes = refl

pub packet_behind_the_type : network_place plain ≡ 14
packet_behind_the_type = refl

pub packet_behind_a_tag : network_place tagged ≡ 18
packet_behind_a_tag = refl

pub five_words_of_header : begins_as_ipv4 0x45 ≡ true
five_words_of_header = refl

pub four_words_are_too_few : begins_as_ipv4 0x44 ≡ false
four_words_are_too_few = refl

pub version_six_is_another : begins_as_ipv4 0x65 ≡ false
version_six_is_another = refl

-- ---- why a frame is skipped

pub plain_is_not_skipped : skip_of plain ≡ None
plain_is_not_skipped = refl

pub arp_is_not_ipv4 : skip_of arp ≡ Some NotIpv4
arp_is_not_ipv4 = refl

-- a frame that ends inside its type is short, whatever follows
pub short_before_its_type : skip_of (frame (take 13 arp.head)) ≡ Some Short
short_before_its_type = refl

-- if the network layer is taken to begin at offset 14, a tag counts as the type
pub tag_taken_for_the_type : skip_at 14 tagged ≡ Some NotIpv4
tag_taken_for_the_type = refl

pub type_is_behind_the_tag : skip_at 18 tagged ≡ None
type_is_behind_the_tag = refl

pub arp_counts_as_not_ipv4 : is_skipped NotIpv4 (skip_of arp) ≡ true
arp_counts_as_not_ipv4 = refl

pub arp_counts_as_nothing_else : is_skipped Short (skip_of arp) ≡ false
arp_counts_as_nothing_else = refl

-- ---- weights and records

pub weight_by_the_wire : weight_of Bytes plain ≡ 100
weight_by_the_wire = refl

-- the length on the wire may be smaller than what was captured
pub weight_by_what_was_captured : weight_of Bytes (record plain { original = 20 }) ≡ 34
weight_by_what_was_captured = refl

pub weight_of_a_packet : weight_of Packets plain ≡ 1
weight_of_a_packet = refl

pub record_behind_a_tag : record_at 18 Bytes tagged ≡ weighing 100
record_behind_a_tag = refl

-- at an offset where no packet begins, other bytes are read as the record
pub record_at_another_place : record_at 14 Bytes tagged ≡ record { src = 0x40110000; dst = 0x0a010203; weight = 100 }
record_at_another_place = refl

pub skip_instead_of_a_record : record_if_kept (Some Short) (weighing 1) ≡ Err Short
skip_instead_of_a_record = refl

pub record_without_a_skip : record_if_kept None (weighing 1) ≡ Ok (weighing 1)
record_without_a_skip = refl

pub plain_by_bytes : record_of Bytes plain ≡ Ok (weighing 100)
plain_by_bytes = refl

pub plain_by_packets : record_of Packets plain ≡ Ok (weighing 1)
plain_by_packets = refl

pub one_tag : record_of Bytes tagged ≡ Ok (weighing 100)
one_tag = refl

pub two_tags : record_of Bytes twice_tagged ≡ Ok (weighing 100)
two_tags = refl

pub three_tags : record_of Bytes
    (frame (addresses ++ 0x81 ∷ 0 ∷ 0 ∷ 7 ∷ 0x81 ∷ 0 ∷ 0 ∷ 8 ∷ 0x81 ∷ 0 ∷ 0 ∷ 9 ∷ 8 ∷ 0 ∷ take 16 (packet 0x45)))
    ≡ Err NotIpv4
three_tags = refl

pub other_type : record_of Bytes arp ≡ Err NotIpv4
other_type = refl

pub no_whole_header : record_of Bytes (frame (take 33 plain.head)) ≡ Err Short
no_whole_header = refl

pub header_of_four_words : record_of Bytes (frame (addresses ++ 8 ∷ 0 ∷ packet 0x44)) ≡ Err BadHeader
header_of_four_words = refl

pub records_in_order : records_of Packets (plain ∷ arp ∷ plain ∷ []) ≡ weighing 1 ∷ weighing 1 ∷ []
records_in_order = refl

pub one_is_skipped : skipped_count NotIpv4 (plain ∷ arp ∷ plain ∷ []) ≡ 1
one_is_skipped = refl
