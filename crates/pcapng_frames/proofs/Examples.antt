-- Worked examples of pcapng captures, of their blocks and of first faults.
use Rattle.std.proofs.Common.{ℕ, ◌≡◌, true, false, List, [], ◌∷◌, ◌++◌, take, Some, refl, sym, arith, ◌+◌, ◌^◌, inl, inr}
use Rattle.pcap_frames.specs.declared.file_order.FileOrder.TheVariants.{Big, Little}
use Rattle.pcap_frames.specs.declared.fault.CaptureFault.{CaptureFault}
use Rattle.pcap_frames.specs.declared.fault.FaultKind.TheVariants.{NotCapture, Version, LongFrame, ByteOrder, BadBlock}
use Rattle.pcap_frames.specs.declared.fault.FaultKind.TheVariants.{BadTail, BadInterface, CutBlock, TooManyBlocks}
use Rattle.pcap_frames.specs.{number_in_order, FrameValue, header_fault_at}
use Rattle.pcapng_frames.specs.declared.block.BlockKind.TheVariants.{SectionHeader, EnhancedPacket, Other}
use Rattle.pcapng_frames.specs.declared.verdict.Verdict.TheVariants.{Waits, IsWrong, IsWhole}
use Rattle.pcapng_frames.specs.Block.{block_count_limit, packet_data_place, packet_overhead, kind_of_type, least_length, order_of_section}
use Rattle.pcapng_frames.specs.Block.{Section, Interface, Packet, BlockValue, block_at}
use Rattle.pcapng_frames.specs.Section.{SectionPlace, before_blocks, after_block, after_blocks, frames_of_blocks}
use Rattle.pcapng_frames.specs.Verdict.{tested, verdict_of, block_verdict}
use Rattle.pcapng_frames.specs.NgCapture.{BeginsWithBlock, BeginsWithBlocks, SplitsBlocks, IsNgCapture, ShowsNgFault, EndsInBlock}
use Rattle.pcap_frames.specs.{HasFault}
use Rattle.pcapng_frames.specs.NgCapture.{HasNgFaultAfter, pcapng}
use Rattle.pcapng_frames.proofs.BlockSplitLemmas.{split_block_stays, split_blocks_stay, split_blocks_then}
use Rattle.pcapng_frames.proofs.NgFileLemmas.{ng_captures_decided}

-- a section header in little-endian order, version 1.0, with a section length that is not stated
abbrev pub header_block : List ℕ
header_block =
    0x0a ∷ 0x0d ∷ 0x0d ∷ 0x0a ∷ 28 ∷ 0 ∷ 0 ∷ 0 ∷ 0x4d ∷ 0x3c ∷ 0x2b ∷ 0x1a ∷ 1 ∷ 0 ∷ 0 ∷ 0
    ∷ 0xff ∷ 0xff ∷ 0xff ∷ 0xff ∷ 0xff ∷ 0xff ∷ 0xff ∷ 0xff ∷ 28 ∷ 0 ∷ 0 ∷ 0 ∷ []

-- an Ethernet interface, of which at most 262,144 bytes a packet are captured
abbrev pub interface_block : List ℕ
interface_block = 1 ∷ 0 ∷ 0 ∷ 0 ∷ 20 ∷ 0 ∷ 0 ∷ 0 ∷ 1 ∷ 0 ∷ 0 ∷ 0 ∷ 0 ∷ 0 ∷ 4 ∷ 0 ∷ 20 ∷ 0 ∷ 0 ∷ 0 ∷ []

-- 34 captured bytes: hardware addresses and type of Ethernet, and an IPv4 header
abbrev pub packet_bytes : List ℕ
packet_bytes =
    2 ∷ 0 ∷ 0 ∷ 0 ∷ 0 ∷ 2 ∷ 2 ∷ 0 ∷ 0 ∷ 0 ∷ 0 ∷ 1 ∷ 8 ∷ 0
    ∷ 0x45 ∷ 0 ∷ 0 ∷ 0x56 ∷ 0 ∷ 0 ∷ 0 ∷ 0 ∷ 0x40 ∷ 0x11 ∷ 0 ∷ 0 ∷ 10 ∷ 1 ∷ 2 ∷ 3 ∷ 20 ∷ 1 ∷ 2 ∷ 3 ∷ []

-- a packet of that interface with these bytes, 100 on the wire, and two bytes of padding
abbrev pub packet_block : List ℕ
packet_block =
    6 ∷ 0 ∷ 0 ∷ 0 ∷ 68 ∷ 0 ∷ 0 ∷ 0 ∷ 0 ∷ 0 ∷ 0 ∷ 0 ∷ 0 ∷ 0 ∷ 0 ∷ 0 ∷ 0 ∷ 0 ∷ 0 ∷ 0 ∷ 34 ∷ 0 ∷ 0 ∷ 0 ∷ 100 ∷ 0 ∷ 0 ∷ 0
    ∷ (packet_bytes ++ 0 ∷ 0 ∷ 68 ∷ 0 ∷ 0 ∷ 0 ∷ [])

abbrev pub packet : FrameValue
packet = record { head = packet_bytes; captured = 34; original = 100 }

-- a capture of that packet
abbrev pub ng_capture : List ℕ
ng_capture = header_block ++ (interface_block ++ packet_block)

-- ---- limits

pub most_blocks_of_a_capture : block_count_limit ≡ 2 ^ 24
most_blocks_of_a_capture = refl

pub packet_data_and_length : packet_data_place ≡ 28
packet_data_and_length = refl

-- the fields before the data, and the last length
pub overhead_of_a_packet : packet_overhead ≡ packet_data_place + 4
overhead_of_a_packet = refl

-- ---- blocks

pub section_header_type : kind_of_type 0x0a0d0d0a ≡ SectionHeader
section_header_type = refl

pub simple_packet_is_passed_over : kind_of_type 3 ≡ Other
simple_packet_is_passed_over = refl

pub least_packet : least_length EnhancedPacket ≡ packet_overhead
least_packet = refl

pub order_of_the_section : order_of_section header_block ≡ Some Little
unfolding number_in_order order_of_section
order_of_the_section = refl

pub header_says_its_order : block_at Big header_block ≡ record { size = 28; content = Section Little }
unfolding number_in_order order_of_section
header_says_its_order = refl

pub ethernet_interface : block_at Little interface_block ≡ record { size = 20; content = Interface true }
unfolding number_in_order order_of_section
ethernet_interface = refl

pub packet_of_interface : block_at Little packet_block ≡ record { size = 68; content = Packet 0 packet }
unfolding number_in_order order_of_section
packet_of_interface = refl

-- ---- what blocks leave

abbrev pub in_section : SectionPlace
in_section = record { order = Little; interfaces = []; count = 1; place = 28 }

abbrev pub with_interface : SectionPlace
with_interface = record { order = Little; interfaces = true ∷ []; count = 2; place = 48 }

abbrev pub ng_blocks : List BlockValue
ng_blocks = record { size = 28; content = Section Little } ∷ record { size = 20; content = Interface true }
    ∷ record { size = 68; content = Packet 0 packet } ∷ []

pub header_starts_a_section : after_block before_blocks (record { size = 28; content = Section Little }) ≡ in_section
header_starts_a_section = refl

-- a section header forgets the interfaces and the byte order of the section before
pub next_section_has_no_interface : after_block with_interface (record { size = 28; content = Section Big })
    ≡ record { order = Big; interfaces = []; count = 3; place = 76 }
next_section_has_no_interface = refl

pub after_the_capture : after_blocks before_blocks ng_blocks
    ≡ record { order = Little; interfaces = true ∷ []; count = 3; place = 116 }
after_the_capture = refl

pub packet_gives_its_frame : frames_of_blocks before_blocks ng_blocks ≡ packet ∷ []
packet_gives_its_frame = refl

-- a packet of an interface with another link type gives no frame
pub other_link_gives_no_frame : frames_of_blocks in_section
    (record { size = 20; content = Interface false } ∷ record { size = 68; content = Packet 0 packet } ∷ []) ≡ []
other_link_gives_no_frame = refl

-- ---- the tests of a block

pub test_waits_for_its_bytes : tested 7 8 true BadBlock IsWhole ≡ Waits
test_waits_for_its_bytes = refl

pub header_is_whole : block_verdict before_blocks header_block ≡ IsWhole
unfolding number_in_order order_of_section verdict_of
header_is_whole = refl

pub interface_is_whole : block_verdict in_section interface_block ≡ IsWhole
unfolding number_in_order order_of_section verdict_of
interface_is_whole = refl

pub packet_is_whole : block_verdict with_interface packet_block ≡ IsWhole
unfolding number_in_order order_of_section verdict_of
packet_is_whole = refl

pub cut_packet_waits : block_verdict with_interface (take 67 packet_block) ≡ Waits
unfolding number_in_order order_of_section verdict_of
cut_packet_waits = refl

first_of_packet_waits : block_verdict with_interface (take 52 packet_block) ≡ Waits
unfolding number_in_order order_of_section verdict_of
first_of_packet_waits = refl

-- a packet of an interface that the section hasn't described
pub packet_of_no_interface : block_verdict in_section (take 12 packet_block) ≡ IsWrong BadInterface
unfolding number_in_order order_of_section verdict_of
packet_of_no_interface = refl

-- a packet that captured 37 bytes, one more than its length has room for
pub packet_longer_than_its_block : block_verdict with_interface (take 20 packet_block ++ (37 ∷ 0 ∷ 0 ∷ 0 ∷ [])) ≡ IsWrong BadBlock
unfolding number_in_order order_of_section verdict_of
packet_longer_than_its_block = refl

-- 262,145 captured bytes are too many, whatever the length
pub packet_too_long : block_verdict with_interface (take 20 packet_block ++ (1 ∷ 0 ∷ 4 ∷ 0 ∷ [])) ≡ IsWrong LongFrame
unfolding number_in_order order_of_section verdict_of
packet_too_long = refl

-- the last length is 72
pub packet_with_other_tail : block_verdict with_interface (take 64 packet_block ++ (72 ∷ 0 ∷ 0 ∷ 0 ∷ [])) ≡ IsWrong BadTail
unfolding number_in_order order_of_section verdict_of
packet_with_other_tail = refl

-- a block of type 5 whose length is no multiple of four
pub block_of_13_bytes : block_verdict in_section (5 ∷ 0 ∷ 0 ∷ 0 ∷ 13 ∷ 0 ∷ 0 ∷ 0 ∷ []) ≡ IsWrong BadBlock
unfolding number_in_order order_of_section verdict_of
block_of_13_bytes = refl

pub magic_in_neither_order : block_verdict before_blocks (take 8 header_block ++ (0 ∷ 0 ∷ 0 ∷ 0 ∷ [])) ≡ IsWrong ByteOrder
unfolding number_in_order order_of_section verdict_of
magic_in_neither_order = refl

pub other_major_version : block_verdict before_blocks (take 12 header_block ++ (2 ∷ 0 ∷ [])) ≡ IsWrong Version
unfolding number_in_order order_of_section verdict_of
other_major_version = refl

pub classic_capture_is_none : block_verdict before_blocks (0xd4 ∷ 0xc3 ∷ 0xb2 ∷ 0xa1 ∷ []) ≡ IsWrong NotCapture
unfolding number_in_order order_of_section verdict_of
classic_capture_is_none = refl

pub byte_behind_the_last_block :
    block_verdict (record { order = Little; interfaces = []; count = 16777216; place = 201326608 }) (6 ∷ []) ≡ IsWrong TooManyBlocks
unfolding verdict_of
byte_behind_the_last_block = refl

-- ---- captures and their first faults

abbrev pub first_blocks : List BlockValue
first_blocks = record { size = 28; content = Section Little } ∷ record { size = 20; content = Interface true } ∷ []

whole_header_again : BeginsWithBlock (after_blocks before_blocks ng_blocks) header_block (record { size = 28; content = Section Little })
unfolding number_in_order order_of_section verdict_of
whole_header_again = record { whole = refl; is_block = refl }

whole_interface_again : BeginsWithBlock (record in_section { count = 4; place = 144 }) interface_block
    (record { size = 20; content = Interface true })
unfolding number_in_order order_of_section verdict_of
whole_interface_again = record { whole = refl; is_block = refl }

whole_packet_again : BeginsWithBlock (record with_interface { count = 5; place = 164 }) packet_block
    (record { size = 68; content = Packet 0 packet })
unfolding number_in_order order_of_section verdict_of
whole_packet_again = record { whole = refl; is_block = refl }

header_first : (more : List ℕ) → BeginsWithBlock before_blocks (header_block ++ more) (record { size = 28; content = Section Little })
header_first more = split_block_stays before_blocks header_block more _ (record { whole = header_is_whole; is_block = sym header_says_its_order })

interface_next : (more : List ℕ) → BeginsWithBlock in_section (interface_block ++ more) (record { size = 20; content = Interface true })
interface_next more = split_block_stays in_section interface_block more _ (record { whole = interface_is_whole; is_block = sym ethernet_interface })

packet_next : (more : List ℕ) → BeginsWithBlock with_interface (packet_block ++ more) (record { size = 68; content = Packet 0 packet })
packet_next more = split_block_stays with_interface packet_block more _ (record { whole = packet_is_whole; is_block = sym packet_of_interface })

-- the same blocks once more, in a section of their own
second_header : (more : List ℕ)
    → BeginsWithBlock (after_blocks before_blocks ng_blocks) (header_block ++ more) (record { size = 28; content = Section Little })
second_header more = split_block_stays (after_blocks before_blocks ng_blocks) header_block more _ whole_header_again

second_interface : (more : List ℕ)
    → BeginsWithBlock (record in_section { count = 4; place = 144 }) (interface_block ++ more) (record { size = 20; content = Interface true })
second_interface more = split_block_stays (record in_section { count = 4; place = 144 }) interface_block more _ whole_interface_again

second_packet : (more : List ℕ)
    → BeginsWithBlock (record with_interface { count = 5; place = 164 }) (packet_block ++ more) (record { size = 68; content = Packet 0 packet })
second_packet more = split_block_stays (record with_interface { count = 5; place = 164 }) packet_block more _ whole_packet_again

pub header_and_interface : (rest : List ℕ) → BeginsWithBlocks before_blocks (header_block ++ (interface_block ++ rest)) first_blocks rest
header_and_interface rest = (header_first (interface_block ++ rest), (interface_next rest, refl))

pub splits_before_packet : (rest : List ℕ) → SplitsBlocks (header_block ++ (interface_block ++ rest)) first_blocks rest []
splits_before_packet rest = record { begins = header_and_interface rest; frames_are = refl }

pub splits_whole : SplitsBlocks ng_capture ng_blocks [] (packet ∷ [])
splits_whole = record {
  begins = (header_first (interface_block ++ packet_block), (interface_next packet_block, (packet_next [], refl)));
  frames_are = refl;
}

pub capture_of_a_packet : IsNgCapture ng_capture (packet ∷ [])
capture_of_a_packet = record { blocks = ng_blocks; splits = splits_whole; some = omega arith }

second_section : BeginsWithBlocks (after_blocks before_blocks ng_blocks) ng_capture ng_blocks []
second_section = (second_header (interface_block ++ packet_block), (second_interface packet_block, (second_packet [], refl)))

-- one section after another
pub two_sections : IsNgCapture (ng_capture ++ ng_capture) (packet ∷ packet ∷ [])
two_sections = record {
  blocks = ng_blocks ++ ng_blocks;
  splits = record {
    begins = split_blocks_then before_blocks (ng_capture ++ ng_capture) ng_blocks ng_capture ng_blocks []
        (split_blocks_stay before_blocks ng_capture ng_capture ng_blocks [] splits_whole.begins)
        second_section;
    frames_are = refl;
  };
  some = omega arith;
}

-- the first 100 bytes end inside the packet
pub ends_in_the_packet : EndsInBlock (header_block ++ (interface_block ++ take 52 packet_block)) [] (header_fault_at CutBlock 48)
ends_in_the_packet = record {
  blocks = first_blocks;
  rest = take 52 packet_block;
  splits = splits_before_packet (take 52 packet_block);
  none_shown = first_of_packet_waits;
  is_cut = inl (omega arith);
  is_fault = refl;
}

pub cut_capture : HasFault pcapng (header_block ++ (interface_block ++ take 52 packet_block)) (header_fault_at CutBlock 48)
cut_capture = ([], inr ends_in_the_packet)

-- the first four bytes alone, and no bytes
pub section_type_alone : EndsInBlock (take 4 header_block) [] (header_fault_at CutBlock 0)
unfolding number_in_order order_of_section verdict_of
section_type_alone = record {
  blocks = [];
  rest = take 4 header_block;
  splits = record { begins = refl; frames_are = refl };
  none_shown = refl;
  is_cut = inr refl;
  is_fault = refl;
}

pub empty_file : HasFault pcapng [] (header_fault_at CutBlock 0)
unfolding verdict_of
empty_file = (
  [],
  inr (record {
    blocks = [];
    rest = [];
    splits = record { begins = refl; frames_are = refl };
    none_shown = refl;
    is_cut = inr refl;
    is_fault = refl;
  }),
)

-- a last length that differs
pub shows_other_tail : ShowsNgFault
    (header_block ++ (interface_block ++ (take 64 packet_block ++ (72 ∷ 0 ∷ 0 ∷ 0 ∷ [])))) [] (header_fault_at BadTail 48)
shows_other_tail = record {
  blocks = first_blocks;
  rest = take 64 packet_block ++ (72 ∷ 0 ∷ 0 ∷ 0 ∷ []);
  splits = splits_before_packet (take 64 packet_block ++ (72 ∷ 0 ∷ 0 ∷ 0 ∷ []));
  shown = packet_with_other_tail;
  place_is = refl;
}

pub other_tail : HasNgFaultAfter (header_block ++ (interface_block ++ (take 64 packet_block ++ (72 ∷ 0 ∷ 0 ∷ 0 ∷ [])))) []
    (header_fault_at BadTail 48)
other_tail = inl shows_other_tail

pub capture_has_no_fault : (fault : CaptureFault) → HasFault pcapng ng_capture fault → ⊥
capture_has_no_fault fault = ng_captures_decided.never_both ng_capture (packet ∷ []) fault capture_of_a_packet
