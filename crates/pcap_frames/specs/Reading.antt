-- What reading a whole source returns.
use Rattle.std.specs.Prelude.{⊤, ℕ, ◌≡◌, ◌≤◌, List, ◌++◌, length, Option, IfSome, Result, Ok, Err}
use Rattle.std.specs.Io.KnownBytes.{Consumes, IsAtEnd}
use Rattle.outside_io.specs.{IsBeginning}
use Rattle.pcap_frames.specs.declared.fault.FeedFault.{FeedFault}
use Rattle.pcap_frames.specs.declared.fault.FeedFault.TheVariants as feed
use Rattle.pcap_frames.specs.declared.fault.ReadRefusal.{ReadRefusal}
use Rattle.pcap_frames.specs.declared.fault.ReadRefusal.TheVariants.{Capture, ReadFault, OutOfMemory}
use Rattle.pcap_frames.specs.declared.fault.CaptureFault.{CaptureFault}
use Rattle.pcap_frames.specs.Frame.{FrameValue, AreFrames, frame_count_limit}
use Rattle.pcap_frames.specs.CaptureFault.{IsEndFault}
use Rattle.pcap_frames.specs.CaptureFormat.{Format, HasFault, Completes}
use Rattle.pcap_frames.specs.Visitor.{VisitorSees}

-- the fault of a reader as the refusal of reading a source
abbrev pub refusal_of : FeedFault → ReadRefusal
refusal_of (feed.Refused fault) = Capture fault
refusal_of feed.OutOfMemory = OutOfMemory

-- The file is some first bytes, read before, and then what the source has left.

-- a front of the source was read, up to its end, and the visitor saw this many frames, which are the whole capture where the
-- source's bytes are known
pub record ShowsCapture {V : Type 0} (format : Format) (first : List ℕ) (represents : V → List FrameValue → Type 0)
    (seen saw : V) (left now : Option (List ℕ)) (count : ℕ) : Type 0 where
  pub front : List ℕ
  pub frames : List FrameValue
  pub consumed : Consumes left now front
  pub counted : length frames ≡ count
  pub limit : count ≤ frame_count_limit
  pub are_frames : AreFrames frames
  pub sees : VisitorSees represents seen saw frames
  pub capture : IfSome left (λ rest. format.is_capture (first ++ rest) frames)
  pub at_end : IsAtEnd now

-- a front of the source was read, with this first fault after the frames that the visitor saw; it is the file's first
-- where the source's bytes are known; if the end of the file makes the fault, the source was read to its end
pub record ShowsBeforeFault {V : Type 0} (format : Format) (first : List ℕ) (represents : V → List FrameValue → Type 0)
    (seen saw : V) (left now : Option (List ℕ)) (fault : CaptureFault) : Type 0 where
  pub front : List ℕ
  pub frames : List FrameValue
  pub consumed : Consumes left now front
  pub fault_of_front : format.has_fault_after (first ++ front) frames fault
  pub limit : length frames ≤ frame_count_limit
  pub are_frames : AreFrames frames
  pub sees : VisitorSees represents seen saw frames
  pub fault_of_file : IfSome left (λ rest. format.has_fault_after (first ++ rest) frames fault)
  pub at_end : IsEndFault fault.kind → IsAtEnd now

-- a front of the source was read, and the visitor saw the frames that the bytes so far complete
pub record ShowsFront {V : Type 0} (format : Format) (first : List ℕ) (represents : V → List FrameValue → Type 0)
    (seen saw : V) (left now : Option (List ℕ)) : Type 0 where
  pub front : List ℕ
  pub frames : List FrameValue
  pub consumed : Consumes left now front
  pub completes : Completes format (first ++ front) frames
  pub are_frames : AreFrames frames
  pub sees : VisitorSees represents seen saw frames

-- a front of the source was read, and the visitor saw the first of the frames that the bytes so far complete: none, some or all
pub record ShowsPart {V : Type 0} (format : Format) (first : List ℕ) (represents : V → List FrameValue → Type 0)
    (seen saw : V) (left now : Option (List ℕ)) : Type 0 where
  pub front : List ℕ
  pub all : List FrameValue
  pub frames : List FrameValue
  pub consumed : Consumes left now front
  pub completes : Completes format (first ++ front) all
  pub begins : IsBeginning frames all
  pub are_frames : AreFrames frames
  pub sees : VisitorSees represents seen saw frames

-- what the visitor saw, for each result
abbrev pub IsSeen : {V : Type 0} → Format → List ℕ → (V → List FrameValue → Type 0) → V → V → Option (List ℕ)
    → Option (List ℕ) → Result ℕ ReadRefusal → Type 0
IsSeen format first represents seen saw left now (Ok count) = ShowsCapture format first represents seen saw left now count
IsSeen format first represents seen saw left now (Err (Capture fault)) =
    ShowsBeforeFault format first represents seen saw left now fault
IsSeen format first represents seen saw left now (Err ReadFault) = ShowsFront format first represents seen saw left now
IsSeen format first represents seen saw left now (Err OutOfMemory) = ShowsPart format first represents seen saw left now

-- a capture is read, and a file with a fault is refused for it, unless a read failed or memory ran out
abbrev pub IsReadingOf : Format → List ℕ → Result ℕ ReadRefusal → Type 0
IsReadingOf format file (Ok count) =
    ((frames : List FrameValue) × format.is_capture file frames × (length frames ≡ count))
    × ((fault : CaptureFault) → HasFault format file fault → ⊥)
IsReadingOf format file (Err (Capture fault)) =
    HasFault format file fault × ((frames : List FrameValue) → format.is_capture file frames → ⊥)
IsReadingOf format file (Err ReadFault) = ⊤
IsReadingOf format file (Err OutOfMemory) = ⊤
