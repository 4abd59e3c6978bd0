-- What one step of a reader does, which no public contract cites.
use Rattle.std.specs.Prelude.{ℕ, ◌≡◌, ◌+◌, ◌≤◌, Option, None, Some, List, [], ◌∷◌, ◌++◌, length}
use Rattle.pcap_frames.specs.Lengths.{packet_header_length, most_captured}
use Rattle.pcap_frames.specs.declared.file_order.FileOrder.{FileOrder}
use Rattle.pcap_frames.specs.declared.reader.held.HeldFrame.{HeldFrame}
use Rattle.pcap_frames.specs.FileOrder.{number_in_order}
use Rattle.pcap_frames.specs.Frame.{FrameValue, frame_at}

-- the bytes are this whole frame and then a rest
pub record SplitsFrame (order : FileOrder) (bytes rest : List ℕ) (frame : FrameValue) : Type 0 where
  pub front : List ℕ
  pub joined : bytes ≡ front ++ rest
  pub header : packet_header_length ≤ length front
  pub limit : number_in_order order 4 8 front ≤ most_captured
  pub whole : length front ≡ packet_header_length + number_in_order order 4 8 front
  pub frame_is : frame ≡ frame_at order front

-- the frame that was held, if any
abbrev pub frames_held : Option HeldFrame → List FrameValue
frames_held None = []
frames_held (Some held) = frame_at held.order held.kept.first ∷ []
