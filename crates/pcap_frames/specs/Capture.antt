-- A capture in libpcap's file format 2.4.
use Rattle.std.specs.Prelude.{ℕ, ◌≡◌, ◌-◌, ◌≤◌, ◌<◌, ◌⊎◌, None, List, [], length, drop}
use Rattle.pcap_frames.specs.Lengths.{header_length}
use Rattle.pcap_frames.specs.Frame.{frame_count_limit, FrameValue, BeginsWithFrames, frame_fault, bytes_needed}
use Rattle.pcap_frames.specs.declared.file_order.FileOrder.{FileOrder}
use Rattle.pcap_frames.specs.declared.fault.CaptureFault.{CaptureFault}
use Rattle.pcap_frames.specs.declared.fault.FaultKind.TheVariants.{ShortHeader, CutFrame}
use Rattle.pcap_frames.specs.Header.{IsHeader, header_fault, header_fault_at}

-- the bytes are a file header, these frames, at most 16,777,216 of them, and a rest
pub record SplitsCapture (bytes : List ℕ) (order : FileOrder) (frames : List FrameValue) (rest : List ℕ) : Type 0 where
  pub header : IsHeader order bytes
  pub begins : BeginsWithFrames order (drop header_length bytes) frames rest
  pub limit : length frames ≤ frame_count_limit

-- the file is a capture of these frames: a file header, and whole frames up to the end of the file, so a file that ends inside a frame is none
abbrev pub IsCapture : List ℕ → List FrameValue → Type 0
IsCapture file frames = (order : FileOrder) × SplitsCapture file order frames []

-- the file ends inside its header, which shows no fault: ShortHeader at the file's length
pub record EndsInHeader (file : List ℕ) (frames : List FrameValue) (fault : CaptureFault) : Type 0 where
  pub none_shown : header_fault file ≡ None
  pub short : length file < header_length
  pub none_before : frames ≡ []
  pub is_fault : fault ≡ header_fault_at ShortHeader (length file)

-- the file ends inside the frame after these, which shows no fault: CutFrame at that frame's first byte
pub record EndsInFrame (file : List ℕ) (frames : List FrameValue) (fault : CaptureFault) : Type 0 where
  pub order : FileOrder
  pub rest : List ℕ
  pub splits : SplitsCapture file order frames rest
  pub none_shown : frame_fault order (length frames) (length file - length rest) rest ≡ None
  pub some_left : 0 < length rest
  pub cut : length rest < bytes_needed order rest
  pub is_fault : fault ≡ header_fault_at CutFrame (length file - length rest)

-- the end of the file makes this fault, after these frames
abbrev pub EndsInside : List ℕ → List FrameValue → CaptureFault → Type 0
EndsInside file frames fault = EndsInHeader file frames fault ⊎ EndsInFrame file frames fault
