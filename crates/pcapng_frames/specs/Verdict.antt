-- The tests of a block, in their order, each as soon as the bytes that it needs are there.
use Rattle.std.specs.Prelude.{ℕ, ◌+◌, ◌-◌, ◌%◌, ◌==◌, not, ◌&&◌, nat_lt, is_none, if◌then◌else◌, Bool, true, false, List, length, drop}
use Rattle.pcap_frames.specs.{number_in_order, most_captured}
use Rattle.pcap_frames.specs.declared.file_order.FileOrder.{FileOrder}
use Rattle.pcap_frames.specs.declared.fault.FaultKind.{FaultKind}
use Rattle.pcap_frames.specs.declared.fault.FaultKind.TheVariants.{NotCapture, Version, LongFrame, ByteOrder, BadBlock, BadTail, BadInterface, TooManyBlocks}
use Rattle.pcapng_frames.specs.declared.block.BlockKind.{BlockKind}
use Rattle.pcapng_frames.specs.declared.block.BlockKind.TheVariants.{SectionHeader, InterfaceDescription, EnhancedPacket, Other}
use Rattle.pcapng_frames.specs.declared.verdict.Verdict.{Verdict}
use Rattle.pcapng_frames.specs.declared.verdict.Verdict.TheVariants.{Waits, IsWrong, IsWhole}
use Rattle.pcapng_frames.specs.Block.{block_count_limit, packet_overhead, least_length, order_of_section, block_kind, block_order, block_length}
use Rattle.pcapng_frames.specs.Section.{SectionPlace}

-- a test that needs so many bytes of those that came: if they are there and it fails, a fault of this kind, else what comes next
abbrev pub tested : ℕ → ℕ → Bool → FaultKind → Verdict → Verdict
tested came needed fails kind next = if nat_lt came needed then Waits else (if fails then IsWrong kind else next)

-- the length is no less than the least, and a multiple of four
abbrev pub length_tested : ℕ → ℕ → ℕ → ℕ → Verdict → Verdict
length_tested came needed least size next =
    tested came needed (nat_lt size least) BadBlock (tested came needed (not (size % 4 == 0)) BadBlock next)

-- once the whole block is there, its last four bytes are its length again
abbrev pub tail_tested : ℕ → FileOrder → ℕ → List ℕ → Verdict
tail_tested came order size last = tested came size (not (number_in_order order 4 0 last == size)) BadTail IsWhole

-- a section header: the byte-order magic, then the length, then the major version 1
abbrev pub section_verdict : FileOrder → ℕ → ℕ → List ℕ → List ℕ → Verdict
section_verdict order size came bytes last =
    tested came 12 (is_none (order_of_section bytes)) ByteOrder
    (length_tested came 12 (least_length SectionHeader) size
    (tested came 14 (not (number_in_order order 2 12 bytes == 1)) Version
    (tail_tested came order size last)))

-- an enhanced packet: the length, then the interface, then the captured length
abbrev pub packet_verdict : FileOrder → ℕ → ℕ → ℕ → List ℕ → List ℕ → Verdict
packet_verdict order size interfaces came bytes last =
    length_tested came 8 (least_length EnhancedPacket) size
    (tested came 12 (not (nat_lt (number_in_order order 4 8 bytes) interfaces)) BadInterface
    (tested came 24 (nat_lt most_captured (number_in_order order 4 20 bytes)) LongFrame
    (tested came 24 (nat_lt size (number_in_order order 4 20 bytes + packet_overhead)) BadBlock
    (tail_tested came order size last))))

-- a block of this kind
abbrev pub kind_verdict : BlockKind → FileOrder → ℕ → ℕ → ℕ → List ℕ → List ℕ → Verdict
kind_verdict SectionHeader order size interfaces came bytes last = section_verdict order size came bytes last
kind_verdict EnhancedPacket order size interfaces came bytes last = packet_verdict order size interfaces came bytes last
kind_verdict InterfaceDescription order size interfaces came bytes last =
    length_tested came 8 (least_length InterfaceDescription) size (tail_tested came order size last)
kind_verdict Other order size interfaces came bytes last =
    length_tested came 8 (least_length Other) size (tail_tested came order size last)

-- whether this is no section header
abbrev pub is_no_section : BlockKind → Bool
is_no_section SectionHeader = false
is_no_section InterfaceDescription = true
is_no_section EnhancedPacket = true
is_no_section Other = true

-- the block after some others, of which so many bytes came: these at its front, and these last ones once all of it is there
unfoldable pub verdict_of : SectionPlace → ℕ → List ℕ → List ℕ → Verdict
verdict_of at came bytes last =
    tested came 1 (at.count == block_count_limit) TooManyBlocks
    (tested came 4 (at.count == 0 && is_no_section (block_kind at.order bytes)) NotCapture
    (kind_verdict (block_kind at.order bytes) (block_order (block_kind at.order bytes) at.order bytes)
    (block_length at.order bytes) (length at.interfaces) came bytes last))

-- what the bytes after some blocks show of the next one
abbrev pub block_verdict : SectionPlace → List ℕ → Verdict
block_verdict at bytes = verdict_of at (length bytes) bytes (drop (block_length at.order bytes - 4) bytes)
