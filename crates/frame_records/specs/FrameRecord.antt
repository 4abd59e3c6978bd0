-- The record of a frame: the addresses in the IPv4 header (RFC 791) that an Ethernet frame carries, after up to
-- two VLAN tags (802.1Q, 802.1ad), and a weight.
use Rattle.std.specs.Prelude.{ℕ, ◌+◌, ◌-◌, ◌*◌, ◌/◌, ◌%◌, ◌==◌, ◌&&◌, ◌||◌, not, nat_lt, nat_le, max, Bool, true, false}
use Rattle.std.specs.Prelude.{if◌then◌else◌, List, slice_index, count_by, Option, None, Some, Result, Ok, Err}
use Rattle.std.specs.List.{filter_map}
use Rattle.std.specs.Result.{result_ok}
use Rattle.byteorder.specs.Endian.{big_from}
use Rattle.prefix_lattice.specs.{RecordValue, address_size}
use Rattle.pcap_frames.specs.{FrameValue}
use Rattle.frame_records.specs.declared.weigh.Weigh.{Weigh}
use Rattle.frame_records.specs.declared.weigh.Weigh.TheVariants.{Bytes, Packets}
use Rattle.frame_records.specs.declared.skip.Skip.{Skip}
use Rattle.frame_records.specs.declared.skip.Skip.TheVariants.{NotIpv4, Short, BadHeader}

-- the offset of the type in an Ethernet frame without tags: two addresses of 6 bytes precede it (IEEE 802.3)
abbrev pub type_place : ℕ
type_place = 12

-- how many bytes a type has
abbrev pub type_length : ℕ
type_length = 2

-- how many bytes a VLAN tag has: its own type, and two bytes that are skipped (802.1Q)
abbrev pub tag_length : ℕ
tag_length = 4

-- the least length of an IPv4 header: five 32-bit words (RFC 791)
abbrev pub ip_header_length : ℕ
ip_header_length = 20

-- the offset of the source address in an IPv4 header (RFC 791)
abbrev pub source_place : ℕ
source_place = 12

-- the offset of the destination address in an IPv4 header (RFC 791)
abbrev pub dest_place : ℕ
dest_place = 16

-- whether the captured bytes have the type of a VLAN tag at this offset
abbrev pub is_tag_at : ℕ → FrameValue → Bool
is_tag_at place frame =
    nat_le (place + type_length) frame.captured
    && (big_from place type_length frame.head == 0x8100 || big_from place type_length frame.head == 0x88a8)

-- how many bytes of tags precede the type of the frame: a third tag counts as its type
abbrev pub frame_tag_bytes : FrameValue → ℕ
frame_tag_bytes frame =
    if not (is_tag_at type_place frame) then 0
    else (if not (is_tag_at (type_place + tag_length) frame) then tag_length
    else 2 * tag_length)

-- the offset of the network-layer header: after the addresses, the tags and the type
abbrev pub network_place : FrameValue → ℕ
network_place frame = type_place + type_length + frame_tag_bytes frame

-- whether a byte begins an IPv4 header: version 4, and a header length of at least five 32-bit words
abbrev pub begins_as_ipv4 : ℕ → Bool
begins_as_ipv4 byte = byte / 16 == 4 && nat_le 5 (byte % 16)

-- why a frame whose network layer begins at this offset has no record
abbrev pub skip_at : ℕ → FrameValue → Option Skip
skip_at place frame =
    if nat_lt frame.captured place then Some Short
    else (if not (big_from (place - type_length) type_length frame.head == 0x0800) then Some NotIpv4
    else (if nat_lt frame.captured (place + ip_header_length) then Some Short
    else (if not (begins_as_ipv4 (slice_index frame.head place)) then Some BadHeader
    else None)))

-- why a frame has no record, if it has none
abbrev pub skip_of : FrameValue → Option Skip
skip_of frame = skip_at (network_place frame) frame

-- the weight of a frame: the greater of its two lengths, or one packet
abbrev pub weight_of : Weigh → FrameValue → ℕ
weight_of Bytes frame = max frame.captured frame.original
weight_of Packets frame = 1

-- the record of a frame whose network layer begins at this offset
abbrev pub record_at : ℕ → Weigh → FrameValue → RecordValue
record_at place weigh frame = record {
  src = big_from (place + source_place) address_size frame.head;
  dst = big_from (place + dest_place) address_size frame.head;
  weight = weight_of weigh frame;
}

-- the record, unless the frame is skipped
abbrev pub record_if_kept : Option Skip → RecordValue → Result RecordValue Skip
record_if_kept None rec = Ok rec
record_if_kept (Some skip) rec = Err skip

-- the record of a frame, or why it has none
abbrev pub record_of : Weigh → FrameValue → Result RecordValue Skip
record_of weigh frame = record_if_kept (skip_of frame) (record_at (network_place frame) weigh frame)

-- the records of some frames, in their order
abbrev pub records_of : Weigh → List FrameValue → List RecordValue
records_of weigh frames = filter_map (λ frame. result_ok (record_of weigh frame)) frames

-- whether a frame is skipped for this reason
abbrev pub is_skipped : Skip → Option Skip → Bool
is_skipped NotIpv4 (Some NotIpv4) = true
is_skipped Short (Some Short) = true
is_skipped BadHeader (Some BadHeader) = true
is_skipped _ _ = false

-- how many of some frames are skipped for this reason
abbrev pub skipped_count : Skip → List FrameValue → ℕ
skipped_count skip frames = count_by (λ frame. is_skipped skip (skip_of frame)) frames
