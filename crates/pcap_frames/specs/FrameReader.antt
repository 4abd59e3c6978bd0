-- What a reader keeps between two pieces of a file.
use Rattle.std.specs.Prelude.{ℕ, ◌≡◌, ◌+◌, ◌<◌, Option, Some, None, List, [], length, take}
use Rattle.pcap_frames.specs.Lengths.{header_length, kept_length}
use Rattle.pcap_frames.specs.declared.file_order.FileOrder.{FileOrder}
use Rattle.pcap_frames.specs.declared.fault.CaptureFault.{CaptureFault}
use Rattle.pcap_frames.specs.declared.fault.FeedFault.{FeedFault}
use Rattle.pcap_frames.specs.declared.fault.FeedFault.TheVariants.{Refused, OutOfMemory}
use Rattle.pcap_frames.specs.Frame.{FrameValue}
use Rattle.pcap_frames.specs.Header.{header_fault}
use Rattle.pcap_frames.specs.Frame.{frame_fault, bytes_needed}
use Rattle.pcap_frames.specs.Capture.{SplitsCapture}
use Rattle.pcap_frames.specs.CaptureFault.{ShowsFault}

-- after some frames: the byte order, the number of frames, the offset of the next frame, as much of its first 58 bytes
-- as arrived, and how many of its bytes arrived
pub record FramePlace : Type 0 where
  pub order : FileOrder
  pub count : ℕ
  pub place : ℕ
  pub kept : List ℕ
  pub came : ℕ

-- inside the file header with its bytes so far, after some frames, at a fault, or out of memory
pub data ReaderState : Type 0 where
  InHeader : List ℕ → ReaderState
  InFrames : FramePlace → ReaderState
  AtFault : CaptureFault → ReaderState
  LacksMemory : ReaderState

-- the bytes are fewer than a file header, and show no fault
pub record IsInHeader (kept : List ℕ) (bytes : List ℕ) (frames : List FrameValue) : Type 0 where
  pub kept_is : kept ≡ bytes
  pub short : length bytes < header_length
  pub none_shown : header_fault bytes ≡ None
  pub no_frame : frames ≡ []

-- the bytes are a file header, these frames, and less than a whole frame, which shows no fault
pub record IsBehind (at : FramePlace) (bytes : List ℕ) (frames : List FrameValue) : Type 0 where
  pub rest : List ℕ
  pub splits : SplitsCapture bytes at.order frames rest
  pub none_shown : frame_fault at.order at.count at.place rest ≡ None
  pub cut : length rest < bytes_needed at.order rest
  pub count_is : at.count ≡ length frames
  pub place_is : at.place + length rest ≡ length bytes
  pub kept_is : at.kept ≡ take kept_length rest
  pub came_is : at.came ≡ length rest

-- a reader in this state represents these bytes at the front of a file, which contain these whole frames
abbrev pub Represents : ReaderState → List ℕ → List FrameValue → Type 0
Represents (InHeader kept) bytes frames = IsInHeader kept bytes frames
Represents (InFrames at) bytes frames = IsBehind at bytes frames
Represents (AtFault fault) bytes frames = ShowsFault bytes frames fault
Represents LacksMemory bytes frames = ⊥

-- why a reader in this state takes no more bytes, if it has stopped
abbrev pub frame_reader_stop : ReaderState → Option FeedFault
frame_reader_stop (InHeader kept) = None
frame_reader_stop (InFrames at) = None
frame_reader_stop (AtFault fault) = Some (Refused fault)
frame_reader_stop LacksMemory = Some OutOfMemory

-- how many bytes a reader in this state was fed, while it goes on
abbrev pub frame_reader_extent : ReaderState → ℕ
frame_reader_extent (InHeader kept) = length kept
frame_reader_extent (InFrames at) = at.place + at.came
frame_reader_extent (AtFault fault) = 0
frame_reader_extent LacksMemory = 0
