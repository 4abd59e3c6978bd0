-- What the blocks so far leave: the section that they are in, their number and their bytes.
use Rattle.std.specs.Prelude.{ℕ, ◌+◌, if◌then◌else◌, Bool, false, List, [], ◌∷◌, ◌++◌, slice_index_or}
use Rattle.pcap_frames.specs.{FrameValue}
use Rattle.pcap_frames.specs.declared.file_order.FileOrder.{FileOrder}
use Rattle.pcap_frames.specs.declared.file_order.FileOrder.TheVariants.{Big}
use Rattle.pcapng_frames.specs.Block.{BlockContent, Section, Interface, Packet, Nothing, BlockValue}

-- after some blocks: the byte order of their last section, for each interface that it described whether it is Ethernet,
-- the number of blocks, and the offset of the next one
pub record SectionPlace : Type 0 where
  pub order : FileOrder
  pub interfaces : List Bool
  pub count : ℕ
  pub place : ℕ

-- before the first block, which has to be a section header, so the byte order doesn't matter
abbrev pub before_blocks : SectionPlace
before_blocks = record { order = Big; interfaces = []; count = 0; place = 0 }

-- a section header sets the byte order
abbrev pub order_after : FileOrder → BlockContent → FileOrder
order_after order (Section own) = own
order_after order (Interface ethernet) = order
order_after order (Packet interface frame) = order
order_after order Nothing = order

-- a section header starts a new list of interfaces, and an interface description adds to it
abbrev pub interfaces_after : List Bool → BlockContent → List Bool
interfaces_after interfaces (Section own) = []
interfaces_after interfaces (Interface ethernet) = interfaces ++ ethernet ∷ []
interfaces_after interfaces (Packet interface frame) = interfaces
interfaces_after interfaces Nothing = interfaces

-- one block more
abbrev pub after_block : SectionPlace → BlockValue → SectionPlace
after_block at block = record {
  order = order_after at.order block.content;
  interfaces = interfaces_after at.interfaces block.content;
  count = at.count + 1;
  place = at.place + block.size;
}

-- some blocks more
abbrev pub after_blocks : SectionPlace → List BlockValue → SectionPlace
after_blocks at [] = at
after_blocks at (block ∷ blocks) = after_blocks (after_block at block) blocks

-- whether the section described the interface of this number as Ethernet
abbrev pub is_ethernet : List Bool → ℕ → Bool
is_ethernet interfaces number = slice_index_or interfaces number false

-- the frame that a block gives: that of a packet on an Ethernet interface
abbrev pub frames_of_content : List Bool → BlockContent → List FrameValue
frames_of_content interfaces (Section own) = []
frames_of_content interfaces (Interface ethernet) = []
frames_of_content interfaces (Packet interface frame) = if is_ethernet interfaces interface then frame ∷ [] else []
frames_of_content interfaces Nothing = []

-- the frames of these blocks after some others, in their order
abbrev pub frames_of_blocks : SectionPlace → List BlockValue → List FrameValue
frames_of_blocks at [] = []
frames_of_blocks at (block ∷ blocks) =
    frames_of_content at.interfaces block.content ++ frames_of_blocks (after_block at block) blocks
