-- The first fault of a file that is no capture. Faults are tested in this order: NotCapture, Version, Link, else
-- ShortHeader; then after each frame TooManyFrames, LongFrame, else CutFrame.
use Rattle.std.specs.Prelude.{⊤, ℕ, ◌≡◌, ◌-◌, ◌⊎◌, Some, List, [], length}
use Rattle.pcap_frames.specs.declared.file_order.FileOrder.{FileOrder}
use Rattle.pcap_frames.specs.declared.fault.CaptureFault.{CaptureFault}
use Rattle.pcap_frames.specs.declared.fault.FaultKind.{FaultKind}
use Rattle.pcap_frames.specs.declared.fault.FaultKind.TheVariants.{ShortHeader, CutFrame, CutBlock}
use Rattle.pcap_frames.specs.Frame.{FrameValue, frame_fault}
use Rattle.pcap_frames.specs.Header.{header_fault}
use Rattle.pcap_frames.specs.Capture.{SplitsCapture, EndsInside}

-- the bytes at the front of a file show this fault in the file header
pub record ShowsInHeader (bytes : List ℕ) (frames : List FrameValue) (fault : CaptureFault) : Type 0 where
  pub shown : header_fault bytes ≡ Some fault
  pub none_before : frames ≡ []

-- the bytes at the front of a file show this fault after these frames
pub record ShowsInFrames (bytes : List ℕ) (frames : List FrameValue) (fault : CaptureFault) : Type 0 where
  pub order : FileOrder
  pub rest : List ℕ
  pub splits : SplitsCapture bytes order frames rest
  pub shown : frame_fault order (length frames) (length bytes - length rest) rest ≡ Some fault

-- the bytes at the front of a file show this fault, however the file continues, after these frames:
-- NotCapture, Version, Link, TooManyFrames or LongFrame
abbrev pub ShowsFault : List ℕ → List FrameValue → CaptureFault → Type 0
ShowsFault bytes frames fault = ShowsInHeader bytes frames fault ⊎ ShowsInFrames bytes frames fault

-- a kind of fault that only the end of a file makes: ShortHeader, CutFrame or CutBlock
abbrev pub IsEndFault : FaultKind → Type 0
IsEndFault ShortHeader = ⊤
IsEndFault CutFrame = ⊤
IsEndFault CutBlock = ⊤
IsEndFault shown = ⊥

-- this is the file's first fault, and these are the frames before it
abbrev pub HasFaultAfter : List ℕ → List FrameValue → CaptureFault → Type 0
HasFaultAfter file frames fault = ShowsFault file frames fault ⊎ EndsInside file frames fault
