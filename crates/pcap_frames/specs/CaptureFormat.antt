-- A format of captures.
use Rattle.std.specs.Prelude.{ℕ, List, ◌⊎◌}
use Rattle.pcap_frames.specs.declared.fault.CaptureFault.{CaptureFault}
use Rattle.pcap_frames.specs.Frame.{FrameValue}
use Rattle.pcap_frames.specs.Capture.{IsCapture}
use Rattle.pcap_frames.specs.CaptureFault.{ShowsFault, HasFaultAfter}

-- what a format says of bytes: that a file is a capture of these frames; that the bytes at the front of a file show this fault
-- after these frames, however the file continues; and that this is the file's first fault, and these are the frames before it
pub record Format : Type 1 where
  pub is_capture : List ℕ → List FrameValue → Type 0
  pub shows_fault : List ℕ → List FrameValue → CaptureFault → Type 0
  pub has_fault_after : List ℕ → List FrameValue → CaptureFault → Type 0

-- libpcap's file format 2.4
abbrev pub classic : Format
classic = record {
  is_capture = IsCapture;
  shows_fault = ShowsFault;
  has_fault_after = HasFaultAfter;
}

-- this is the file's first fault in a format
abbrev pub HasFault : Format → List ℕ → CaptureFault → Type 0
HasFault format file fault = (frames : List FrameValue) × format.has_fault_after file frames fault

-- the bytes at the front of a file contain exactly these whole frames: a file that ended here would be a capture of them, or have
-- its first fault after them
abbrev pub Completes : Format → List ℕ → List FrameValue → Type 0
Completes format front frames = format.is_capture front frames ⊎ ((fault : CaptureFault) × format.has_fault_after front frames fault)
