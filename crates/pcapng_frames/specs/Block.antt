-- A block of a pcapng capture: type and total length, four bytes each, a body, and the total length again. The numbers of a
-- section are in the byte order in which its header spells the byte-order magic.
use Rattle.std.specs.Prelude.{ℕ, ◌≡◌, ◌≤◌, ◌==◌, if◌then◌else◌, Bool, Option, Some, None, List, length, take, drop}
use Rattle.pcap_frames.specs.{number_in_order, FrameValue, frame_head_length}
use Rattle.pcap_frames.specs.declared.file_order.FileOrder.{FileOrder}
use Rattle.pcap_frames.specs.declared.file_order.FileOrder.TheVariants.{Big, Little}
use Rattle.pcapng_frames.specs.declared.block.BlockKind.{BlockKind}
use Rattle.pcapng_frames.specs.declared.block.BlockKind.TheVariants.{SectionHeader, InterfaceDescription, EnhancedPacket, Other}

-- the most blocks of a capture, 2^24
abbrev pub block_count_limit : ℕ
block_count_limit = 16777216

-- the bytes of an enhanced packet before its data: type, length, interface, two time fields, captured and original length
abbrev pub packet_data_place : ℕ
packet_data_place = 28

-- the least difference of an enhanced packet's length and its captured length: the fields before its data, and the last length
abbrev pub packet_overhead : ℕ
packet_overhead = 32

-- what a block of this type is
abbrev pub kind_of_type : ℕ → BlockKind
kind_of_type number =
    if number == 0x0a0d0d0a then SectionHeader
    else (if number == 1 then InterfaceDescription
    else (if number == 6 then EnhancedPacket else Other))

-- the least length of a block of this kind
abbrev pub least_length : BlockKind → ℕ
least_length SectionHeader = 28
least_length InterfaceDescription = 20
least_length EnhancedPacket = 32
least_length Other = 12

-- the byte order in which bytes 8 to 11 of a section header spell the byte-order magic
unfoldable pub order_of_section : List ℕ → Option FileOrder
order_of_section bytes =
    if number_in_order Big 4 8 bytes == 0x1a2b3c4d then Some Big
    else (if number_in_order Little 4 8 bytes == 0x1a2b3c4d then Some Little else None)

-- this byte order if there is one, else that of the section before
abbrev pub order_or : Option FileOrder → FileOrder → FileOrder
order_or (Some own) order = own
order_or None order = order

-- the kind of the block at the front, in a section of this byte order; a section header's type is the same in either order
abbrev pub block_kind : FileOrder → List ℕ → BlockKind
block_kind order bytes = kind_of_type (number_in_order order 4 0 bytes)

-- the byte order of a block of this kind at the front: a section header has its own
abbrev pub block_order : BlockKind → FileOrder → List ℕ → FileOrder
block_order SectionHeader order bytes = order_or (order_of_section bytes) order
block_order InterfaceDescription order bytes = order
block_order EnhancedPacket order bytes = order
block_order Other order bytes = order

-- the total length of the block at the front
abbrev pub block_length : FileOrder → List ℕ → ℕ
block_length order bytes = number_in_order (block_order (block_kind order bytes) order bytes) 4 4 bytes

-- what a block says: a section header the byte order, an interface description whether the link type is 1, Ethernet, and an
-- enhanced packet the number of its interface and its frame
pub data BlockContent : Type 0 where
  Section : FileOrder → BlockContent
  Interface : Bool → BlockContent
  Packet : ℕ → FrameValue → BlockContent
  Nothing : BlockContent

-- a block, regardless of where its bytes are in memory
pub record BlockValue : Type 0 where
  pub size : ℕ
  pub content : BlockContent

-- the frame of the enhanced packet at the front: captured and original length, and the first 42 captured bytes
abbrev pub packet_frame : FileOrder → List ℕ → FrameValue
packet_frame order bytes = record {
  head = take frame_head_length (take (number_in_order order 4 20 bytes) (drop packet_data_place bytes));
  captured = number_in_order order 4 20 bytes;
  original = number_in_order order 4 24 bytes;
}

-- what a block of this kind at the front says
abbrev pub block_content : BlockKind → FileOrder → List ℕ → BlockContent
block_content SectionHeader order bytes = Section (order_or (order_of_section bytes) order)
block_content InterfaceDescription order bytes = Interface (number_in_order order 2 8 bytes == 1)
block_content EnhancedPacket order bytes = Packet (number_in_order order 4 8 bytes) (packet_frame order bytes)
block_content Other order bytes = Nothing

-- the block at the front of the bytes
abbrev pub block_at : FileOrder → List ℕ → BlockValue
block_at order bytes = record {
  size = block_length order bytes;
  content = block_content (block_kind order bytes) order bytes;
}

-- these bytes are an enhanced packet, as long as its length says, with all its fields
pub record IsPacketBlock (order : FileOrder) (bytes : List ℕ) : Type 0 where
  pub kind : block_kind order bytes ≡ EnhancedPacket
  pub least : least_length EnhancedPacket ≤ length bytes
  pub size : length bytes ≡ number_in_order order 4 4 bytes
