-- The state of a reader, made from its parts.
use Rattle.std.specs.Prelude.{⊤, ◌+◌, ◌*◌, ◌≤◌, ◌<◌}
use Rattle.pcap_frames.specs.Lengths.{header_length, packet_header_length, most_captured}
use Rattle.pcap_frames.specs.Frame.{frame_count_limit, bytes_needed}
use Rattle.pcap_frames.specs.declared.reader.part.FramePart.{FramePart}
use Rattle.pcap_frames.specs.declared.reader.part.Stage.{Stage}
use Rattle.pcap_frames.specs.declared.reader.part.Stage.TheVariants.{Header, Frames, AtFault, LacksMemory}
use Rattle.pcap_frames.specs.FrameReader as state

-- this part as a place after some frames
abbrev pub place_of_part : FramePart → state.FramePlace
place_of_part part = record {
  order = part.order;
  count = part.count;
  place = part.place;
  kept = part.kept.first;
  came = part.kept.came;
}

-- the state of a reader at this stage with this part
abbrev pub state_of_part : Stage → FramePart → state.ReaderState
state_of_part Header part = state.InHeader part.kept.first
state_of_part Frames part = state.InFrames (place_of_part part)
state_of_part (AtFault fault) part = state.AtFault fault
state_of_part LacksMemory part = state.LacksMemory

-- the counts of a part after some frames stay within their limits, and its frame is not yet whole
pub record IsPartWithin (part : FramePart) : Type 0 where
  pub count : part.count ≤ frame_count_limit
  pub place : part.place ≤ header_length + (packet_header_length + most_captured) * part.count
  pub cut : part.kept.came < bytes_needed part.order part.kept.first
  pub bound : bytes_needed part.order part.kept.first ≤ packet_header_length + most_captured

-- what always holds of the part in each stage
abbrev pub IsPartInStage : Stage → FramePart → Type 0
IsPartInStage Header part = part.kept.came < header_length
IsPartInStage Frames part = IsPartWithin part
IsPartInStage (AtFault fault) part = ⊤
IsPartInStage LacksMemory part = ⊤
