-- Files, as crates above see them: which frames are taken from a file, and for which fault it is refused.
use Rattle.std.specs.Prelude.{ℕ, ◌≡◌, Bool, true, false, List, Option, Some, None}
use Rattle.pcap_frames.specs.declared.fault.CaptureFault.{CaptureFault}
use Rattle.pcap_frames.specs.declared.fault.FaultKind.{FaultKind}
use Rattle.pcap_frames.specs.declared.fault.FaultKind.TheVariants.{CutFrame, CutBlock}
use Rattle.pcap_frames.specs.{FrameValue, Format, HasFault}
use Rattle.pcapng_frames.specs.{capture_format}

-- these are the frames of a whole file: it is a capture of them, in either format
abbrev pub FileHasFrames : List ℕ → List FrameValue → Type 0
FileHasFrames file frames = Format.is_capture capture_format file frames

-- whether a capture with a fault of this kind is cut off: it ends inside a frame, or inside a block
abbrev pub is_cut_off : FaultKind → Bool
is_cut_off CutFrame = true
is_cut_off CutBlock = true
is_cut_off _ = false

-- the file is the front of a cut capture: its first fault is CutFrame or CutBlock at this place, and these are the frames before it
pub record IsFrontOf (file : List ℕ) (frames : List FrameValue) (place : ℕ) : Type 0 where
  pub fault : CaptureFault
  pub first : Format.has_fault_after capture_format file frames fault
  pub cut : is_cut_off fault.kind ≡ true
  pub place_is : place ≡ fault.place

-- what is taken from a file: the frames of a whole capture, with no cut, or, where the front of a cut capture is asked for, those
-- before the cut, with the place of the cut frame or cut block
abbrev pub FileGives : Bool → List ℕ → List FrameValue → Option ℕ → Type 0
FileGives front file frames None = FileHasFrames file frames
FileGives front file frames (Some place) = (front ≡ true) × IsFrontOf file frames place

-- a file is refused for this fault, which is its first; a cut frame or a cut block is no cause where the front of a cut capture is
-- asked for
pub record IsRefusedFile (front : Bool) (file : List ℕ) (fault : CaptureFault) : Type 0 where
  pub first : HasFault capture_format file fault
  pub no_front : front ≡ true → is_cut_off fault.kind ≡ true → ⊥
