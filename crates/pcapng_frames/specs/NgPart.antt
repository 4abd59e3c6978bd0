-- The state of a reader, made from its parts, and what one step of it does, which no public contract cites.
use Rattle.std.specs.Prelude.{⊤, ℕ, ◌≡◌, ◌*◌, ◌^◌, ◌≤◌, nat_lt, if◌then◌else◌, Bool, false, Option, None, Some, List, [], ◌∷◌}
use Rattle.pcap_frames.specs.declared.frame.Frame.{Frame}
use Rattle.pcap_frames.specs.{FrameValue, frame_content}
use Rattle.pcap_frames.specs.declared.file_order.FileOrder.{FileOrder}
use Rattle.pcapng_frames.specs.declared.reader.section.SectionState.{SectionState}
use Rattle.pcapng_frames.specs.declared.reader.packet.HeldPacket.{HeldPacket}
use Rattle.pcapng_frames.specs.declared.reader.part.BlockPart.{BlockPart}
use Rattle.pcapng_frames.specs.declared.reader.part.Stage.{Stage}
use Rattle.pcapng_frames.specs.declared.reader.part.Stage.TheVariants as stage
use Rattle.pcapng_frames.specs.declared.verdict.Verdict.TheVariants.{Waits}
use Rattle.pcapng_frames.specs.Block.{block_count_limit, BlockContent, Section, Interface, Packet, Nothing, block_length, packet_frame}
use Rattle.pcapng_frames.specs.Section.{SectionPlace, is_ethernet}
use Rattle.pcapng_frames.specs.Kept.{kept_verdict}
use Rattle.pcapng_frames.specs.NgReader.{BlockPlace, NgReaderState, InBlocks, AtFault, LacksMemory}

-- what the blocks so far leave, as a value
abbrev pub section_place : SectionState → SectionPlace
section_place section = record {
  order = section.order;
  interfaces = section.interfaces.items;
  count = section.count;
  place = section.place;
}

-- this part as a place after some blocks
abbrev pub place_of_part : BlockPart → BlockPlace
place_of_part part = record { section = section_place part.section; frames = part.frames; kept = part.kept }

-- the state of a reader at this stage with this part
abbrev pub state_of_part : Stage → BlockPart → NgReaderState
state_of_part stage.Blocks part = InBlocks (place_of_part part)
state_of_part (stage.AtFault fault) part = AtFault fault
state_of_part stage.LacksMemory part = LacksMemory

-- the counts of a section stay within their limits
pub record IsSectionWithin (section : SectionState) : Type 0 where
  pub count : section.count ≤ block_count_limit
  pub place : section.place ≤ 2 ^ 32 * section.count

-- the counts of a part stay within their limits, and its block is not yet whole
pub record IsPartWithin (part : BlockPart) : Type 0 where
  pub section : IsSectionWithin part.section
  pub frames : part.frames ≤ part.section.count
  pub waits : kept_verdict (section_place part.section) part.kept ≡ Waits

-- what always holds of the part in each stage
abbrev pub IsPartInStage : Stage → BlockPart → Type 0
IsPartInStage stage.Blocks part = IsPartWithin part
IsPartInStage (stage.AtFault fault) part = ⊤
IsPartInStage stage.LacksMemory part = ⊤

-- how many bytes a block needs, as far as is known when so many came
unfoldable pub block_needs : FileOrder → ℕ → List ℕ → ℕ
block_needs order came bytes = if nat_lt came 12 then 12 else block_length order bytes

-- whether a block gives a frame
abbrev pub gives_frame : List Bool → BlockContent → Bool
gives_frame interfaces (Section own) = false
gives_frame interfaces (Interface ethernet) = false
gives_frame interfaces (Packet interface frame) = is_ethernet interfaces interface
gives_frame interfaces Nothing = false

-- the frame that was held, if any
abbrev pub frames_held : Option HeldPacket → List FrameValue
frames_held None = []
frames_held (Some held) = packet_frame held.order held.kept.first ∷ []

-- the frame that is shown, if any
abbrev pub frames_shown : Option Frame → List FrameValue
frames_shown None = []
frames_shown (Some frame) = frame_content frame ∷ []
