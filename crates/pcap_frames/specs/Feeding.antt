-- What a reader of a format represents and returns, and what its visitor saw.
use Rattle.std.specs.Prelude.{⊤, ℕ, ◌≡◌, ◌<◌, ◌≤◌, ◌^◌, IsOk, Option, Some, None, List, ◌++◌, length, Result, Ok, Err}
use Rattle.outside_io.specs.{IsBeginning}
use Rattle.pcap_frames.specs.declared.fault.FeedFault.{FeedFault}
use Rattle.pcap_frames.specs.declared.fault.FeedFault.TheVariants.{Refused, OutOfMemory}
use Rattle.pcap_frames.specs.declared.fault.CaptureFault.{CaptureFault}
use Rattle.pcap_frames.specs.Frame.{FrameValue, AreFrames}
use Rattle.pcap_frames.specs.CaptureFormat.{Format, Completes}
use Rattle.pcap_frames.specs.Visitor.{VisitorSees}

-- a reader stops for this reason
abbrev pub HasStopped : Option FeedFault → Type 0
HasStopped None = ⊥
HasStopped (Some fault) = ⊤

-- what a reader returns that has stopped for this reason, if for any
abbrev pub IsResultAfter : {T : Type 0} → Option FeedFault → Result T FeedFault → Type 0
IsResultAfter None result = IsOk result
IsResultAfter (Some fault) result = result ≡ Err fault

-- the first fact if memory sufficed, the second if it ran out
abbrev pub IfHadMemory : {T : Type 0} → Result T FeedFault → Type 0 → Type 0 → Type 0
IfHadMemory (Ok x) P Q = P
IfHadMemory (Err (Refused fault)) P Q = P
IfHadMemory (Err OutOfMemory) P Q = Q

-- more bytes than a reader that goes on is ever fed
abbrev pub fed_limit : ℕ
fed_limit = 2 ^ 57

-- the readers of a format represent bytes at the front of a file and the whole frames in them. They stop as soon as the bytes show
-- a fault, at that fault, and then pass over more bytes; while they go on they count the bytes that they were fed
pub record ReadsFormat {R : Type 0} (format : Format) (represents : R → List ℕ → List FrameValue → Type 0)
    (stop : R → Option FeedFault) (extent : R → ℕ) : Type 0 where
  pub completes : (reader : R) (bytes : List ℕ) (frames : List FrameValue) → represents reader bytes frames
      → Completes format bytes frames
  pub refused : (reader : R) (bytes : List ℕ) (frames : List FrameValue) (fault : CaptureFault)
      → represents reader bytes frames → stop reader ≡ Some (Refused fault) → format.shows_fault bytes frames fault
  pub unrefused : (reader : R) (bytes : List ℕ) (frames others : List FrameValue) (fault : CaptureFault)
      → represents reader bytes frames → stop reader ≡ None → format.shows_fault bytes others fault → ⊥
  pub stays : (reader : R) (bytes more : List ℕ) (frames : List FrameValue) (fault : FeedFault)
      → represents reader bytes frames → stop reader ≡ Some fault → represents reader (bytes ++ more) frames
  pub counts : (reader : R) (bytes : List ℕ) (frames : List FrameValue) → represents reader bytes frames
      → stop reader ≡ None → extent reader ≡ length bytes
  pub limited : (reader : R) (bytes : List ℕ) (frames : List FrameValue) → represents reader bytes frames
      → stop reader ≡ None → length bytes ≤ fed_limit

-- whatever bytes the reader represented, it now represents them followed by these bytes, which complete these frames
pub record Advances {R : Type 0} (represents : R → List ℕ → List FrameValue → Type 0) (old new : R) (bytes : List ℕ)
    (given : List FrameValue) : Type 0 where
  pub reads : (before : List ℕ) (frames : List FrameValue) → represents old before frames
      → represents new (before ++ bytes) (frames ++ given)

-- the reader was fed these bytes, and the visitor saw the frames that they complete
pub record FeedsReader {R V : Type 0} (stands : R → List ℕ → List FrameValue → Type 0)
    (represents : V → List FrameValue → Type 0) (seen saw : V) (old new : R) (bytes : List ℕ) : Type 0 where
  pub given : List FrameValue
  pub advances : Advances stands old new bytes given
  pub are_frames : AreFrames given
  pub sees : VisitorSees represents seen saw given

-- the visitor saw the first of the frames that these bytes complete: none, some or all
pub record ShowsBeginning {R V : Type 0} (format : Format) (stands : R → List ℕ → List FrameValue → Type 0)
    (represents : V → List FrameValue → Type 0) (seen saw : V) (old : R) (bytes : List ℕ) : Type 0 where
  pub given : List FrameValue
  pub are_frames : AreFrames given
  pub sees : VisitorSees represents seen saw given
  pub begins : (before : List ℕ) (frames more : List FrameValue) → stands old before frames
      → Completes format (before ++ bytes) (frames ++ more) → IsBeginning given more

-- what feeding returns for bytes: they are refused exactly where they show a fault, unless memory ran out
abbrev pub IsResultOf : {T : Type 0} → Format → List ℕ → Result T FeedFault → Type 0
IsResultOf format bytes (Ok x) = (frames : List FrameValue) (fault : CaptureFault) → format.shows_fault bytes frames fault → ⊥
IsResultOf format bytes (Err (Refused fault)) = (frames : List FrameValue) × format.shows_fault bytes frames fault
IsResultOf format bytes (Err OutOfMemory) = ⊤

-- the file ends here: it is a capture of these frames, whose number is returned, or it has this first fault after them
abbrev pub IsFinalResult : Format → List ℕ → List FrameValue → Result ℕ FeedFault → Type 0
IsFinalResult format file frames (Ok count) = format.is_capture file frames × (count ≡ length frames)
IsFinalResult format file frames (Err (Refused fault)) = format.has_fault_after file frames fault
IsFinalResult format file frames (Err OutOfMemory) = ⊥

-- the reader took a front of the piece, at least one byte, which completes these frames; this rest remains
pub record StepTakes {R : Type 0} (represents : R → List ℕ → List FrameValue → Type 0) (old new : R) (piece rest : List ℕ)
    (given : List FrameValue) : Type 0 where
  pub front : List ℕ
  pub joined : piece ≡ front ++ rest
  pub some : 0 < length front
  pub advances : Advances represents old new front given

-- the reader took a front of the piece, and the visitor saw the frames that it completes
pub record StepShowsFront {R V : Type 0} (stands : R → List ℕ → List FrameValue → Type 0)
    (represents : V → List FrameValue → Type 0) (seen saw : V) (old new : R) (piece rest : List ℕ) : Type 0 where
  pub given : List FrameValue
  pub takes : StepTakes stands old new piece rest given
  pub are_frames : AreFrames given
  pub sees : VisitorSees represents seen saw given
