-- Laws of a format of captures.
use Rattle.std.specs.Prelude.{ℕ, ◌≡◌, ◌<◌, ◌≤◌, ◌^◌, ◌⊎◌, List, [], ◌++◌, length, slice_index}
use Rattle.outside_io.specs.{IsBeginning}
use Rattle.pcap_frames.specs.declared.fault.CaptureFault.{CaptureFault}
use Rattle.pcap_frames.specs.Frame.{FrameValue, AreFrames, frame_count_limit}
use Rattle.pcap_frames.specs.CaptureFault.{IsEndFault}
use Rattle.pcap_frames.specs.CaptureFormat.{Format, HasFault, Completes}

-- each file is a capture of one list of frames, or has one first fault after one list of frames, and never both. The frames that
-- the bytes at the front of a file complete begin those of any longer front; a fault that they show is the file's first, and none
-- that only the end of a file makes. Fewer than four bytes complete no frame and show no fault. There are at most 16,777,216
-- frames, and a fault's offset is a number of 64 bits
pub record IsDecided (format : Format) : Type 0 where
  pub either : (file : List ℕ)
      → ((frames : List FrameValue) × format.is_capture file frames) ⊎ ((fault : CaptureFault) × HasFault format file fault)
  pub never_both : (file : List ℕ) (frames : List FrameValue) (fault : CaptureFault) → format.is_capture file frames
      → HasFault format file fault → ⊥
  pub one_list : (file : List ℕ) (frames others : List FrameValue) → format.is_capture file frames
      → format.is_capture file others → others ≡ frames
  pub one_fault : (file : List ℕ) (fault other : CaptureFault) → HasFault format file fault → HasFault format file other
      → other ≡ fault
  pub one_before : (file : List ℕ) (frames others : List FrameValue) (fault other : CaptureFault)
      → format.has_fault_after file frames fault → format.has_fault_after file others other → others ≡ frames
  pub longer : (front more : List ℕ) (frames others : List FrameValue) → Completes format front frames
      → Completes format (front ++ more) others → IsBeginning frames others
  pub shown : (front more : List ℕ) (frames : List FrameValue) (fault : CaptureFault)
      → format.shows_fault front frames fault → format.has_fault_after (front ++ more) frames fault
  pub no_end_fault : (front : List ℕ) (frames : List FrameValue) (fault : CaptureFault)
      → format.shows_fault front frames fault → IsEndFault fault.kind → ⊥
  pub no_frame_first : (front : List ℕ) (frames : List FrameValue) → length front < 4 → Completes format front frames
      → frames ≡ []
  pub no_fault_first : (front : List ℕ) (frames : List FrameValue) (fault : CaptureFault) → length front < 4
      → format.shows_fault front frames fault → ⊥
  pub limited : (front : List ℕ) (frames : List FrameValue) → Completes format front frames
      → length frames ≤ frame_count_limit
  pub place : (file : List ℕ) (frames : List FrameValue) (fault : CaptureFault)
      → format.has_fault_after file frames fault → fault.place < 2 ^ 64
  pub are_frames : (front : List ℕ) (frames : List FrameValue) → ((place : ℕ) → slice_index front place < 256)
      → Completes format front frames → AreFrames frames
