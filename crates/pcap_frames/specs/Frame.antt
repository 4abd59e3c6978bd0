-- A frame, regardless of where its bytes are in memory; and the frames after the file header: a frame header of ts_sec,
-- ts_sub, incl_len and orig_len, four bytes each, and then incl_len captured bytes (pcap-savefile).
use Rattle.std.specs.Prelude.{ℕ, List, ◌+◌, ◌≡◌, ◌≤◌, ◌<◌, ◌^◌, ◌==◌, nat_lt, if◌then◌else◌, min, Option, Some, None}
use Rattle.std.specs.Prelude.{[], ◌∷◌, length, take, drop, slice_index}
use Rattle.std.specs.List.{AllByRecursion}
use Rattle.pcap_frames.specs.declared.frame.Frame.{Frame}
use Rattle.pcap_frames.specs.Lengths.{packet_header_length, most_captured, frame_head_length}
use Rattle.pcap_frames.specs.declared.file_order.FileOrder.{FileOrder}
use Rattle.pcap_frames.specs.declared.fault.CaptureFault.{CaptureFault}
use Rattle.pcap_frames.specs.declared.fault.FaultKind.TheVariants.{LongFrame, TooManyFrames}
use Rattle.pcap_frames.specs.FileOrder.{number_in_order}
use Rattle.pcap_frames.specs.Header.{header_fault_at}

-- the first 42 captured bytes, or all if fewer were captured, the number of captured bytes, and the length on the wire
pub record FrameValue : Type 0 where
  pub head : List ℕ
  pub captured : ℕ
  pub original : ℕ

-- the head, the captured length and the original length of a frame
abbrev pub frame_content : Frame → FrameValue
frame_content frame = record { head = frame.head.now; captured = frame.captured; original = frame.original }

-- the most frames of a capture, 2^24
abbrev pub frame_count_limit : ℕ
frame_count_limit = 16777216

-- the frame at the front of the bytes, as its header states it: incl_len, orig_len, and the first 42 captured bytes
abbrev pub frame_at : FileOrder → List ℕ → FrameValue
frame_at order bytes = record {
  head = take frame_head_length (take (number_in_order order 4 8 bytes) (drop packet_header_length bytes));
  captured = number_in_order order 4 8 bytes;
  original = number_in_order order 4 12 bytes;
}

-- this whole frame is at the front of the bytes
pub record BeginsWithFrame (order : FileOrder) (bytes : List ℕ) (frame : FrameValue) : Type 0 where
  pub header : packet_header_length ≤ length bytes
  pub is_frame : frame ≡ frame_at order bytes
  pub limit : frame.captured ≤ most_captured
  pub room : packet_header_length + frame.captured ≤ length bytes

-- the bytes are these frames in order, and then a rest
abbrev pub BeginsWithFrames : FileOrder → List ℕ → List FrameValue → List ℕ → Type 0
BeginsWithFrames order bytes [] rest = rest ≡ bytes
BeginsWithFrames order bytes (frame ∷ frames) rest =
    BeginsWithFrame order bytes frame × BeginsWithFrames order (drop (packet_header_length + frame.captured) bytes) frames rest

-- the least number of bytes that the frame at the front takes, as far as its header is known
unfoldable pub bytes_needed : FileOrder → List ℕ → ℕ
bytes_needed order bytes =
    if nat_lt (length bytes) packet_header_length then packet_header_length else packet_header_length
    + number_in_order order 4 8 bytes

-- the first fault that a rest shows after this many frames, however the file continues; its offset is that of the rest
unfoldable pub frame_fault : FileOrder → ℕ → ℕ → List ℕ → Option CaptureFault
frame_fault order count place rest =
    if nat_lt 0 (length rest)
    then (if count == frame_count_limit then Some (header_fault_at TooManyFrames place)
    else (if nat_lt (length rest) packet_header_length then None
    else (if nat_lt most_captured (number_in_order order 4 8 rest) then Some (header_fault_at LongFrame place) else None)))
    else None

-- what always holds of a frame of a capture
pub record IsFrame (frame : FrameValue) : Type 0 where
  pub captured : frame.captured ≤ most_captured
  pub original : frame.original < 2 ^ 32
  pub head : length frame.head ≡ min frame_head_length frame.captured
  pub head_bytes : (place : ℕ) → slice_index frame.head place < 256

-- each of these is a frame
abbrev pub AreFrames : List FrameValue → Type 0
AreFrames frames = AllByRecursion IsFrame frames
