-- The laws of captures and first faults.
use Rattle.std.proofs.Common.{ℕ, ◌≡◌, ◌+◌, ◌-◌, ◌<◌, ◌≤◌, ◌^◌, List, [], ◌∷◌, ◌++◌, length, take, drop, get_or, ap, arith, sym, subst}
use Rattle.std.proofs.Common.{inl, inr, length-take, length-drop}
use Rattle.std.proofs.lemmas.List.{get_or-take, get_or-drop, get_or_past}
use Rattle.std.proofs.lemmas.Bool.{cases_lt, lt-ltb}
use Rattle.pcap_frames.specs.declared.file_order.FileOrder.{FileOrder}
use Rattle.pcap_frames.specs.FileOrder.{number_in_order}
use Rattle.pcap_frames.specs.Frame.{FrameValue}
use Rattle.pcap_frames.specs.Frame.{BeginsWithFrame, BeginsWithFrames, IsFrame, AreFrames, frame_count_limit}
use Rattle.pcap_frames.specs.Decided.{IsDecided}
use Rattle.pcap_frames.specs.CaptureFormat.{classic, Completes}
use Rattle.pcap_frames.specs.CaptureFault.{ShowsFault, HasFaultAfter}
use Rattle.pcap_frames.specs.Header.{header_fault}
use Rattle.pcap_frames.specs.declared.fault.CaptureFault.{CaptureFault}
use Rattle.pcap_frames.proofs.FileNumberLemmas.{number_in_order-in_four_file_bytes}
use Rattle.pcap_frames.proofs.BeginsFrameLemmas.{BeginsWithFrames-length}
use Rattle.pcap_frames.proofs.EndFaultLemmas.{bytes_show_no_end_fault, header_shows_fault_near, frame_shows_fault_near}
use Rattle.pcap_frames.proofs.FileSplitLemmas.{ShowsFault-longer_split_file}
use Rattle.pcap_frames.proofs.FirstFaultLemmas.{ReachesFirstFault, capture_reaches_first_fault}
use Rattle.pcap_frames.proofs.FirstFaultLemmas.{frames_reach_first_fault, frames_before_first_fault_agree}
use Rattle.pcap_frames.proofs.FirstFaultLemmas.{frames_before_first_fault_begin}
use Rattle.pcap_frames.proofs.FirstFaultLemmas.{fronts_complete_to_first_fault, capture_or_first_fault}
use Rattle.pcap_frames.proofs.FirstFaultLemmas.{capture_has_no_first_fault, file_has_one_first_fault}

-- ---- the frames of a file of bytes

-- numbers below 256
abbrev AreCaptureFileBytes : List ℕ → Type 0
AreCaptureFileBytes xs = (place : ℕ) → get_or xs place 0 < 256

AreCaptureFileBytes-take : (n : ℕ) (xs : List ℕ) → AreCaptureFileBytes xs → AreCaptureFileBytes (take n xs)
AreCaptureFileBytes-take n xs bytes place = elim (cases_lt place n) [
  | inl below ↦ rw (get_or-take n xs place 0 below) (bytes place)
  | inr past ↦ rw (get_or_past (take n xs) place 0 (omega (arith, length-take n xs))) (omega arith)
]

AreCaptureFileBytes-drop : (n : ℕ) (xs : List ℕ) → AreCaptureFileBytes xs → AreCaptureFileBytes (drop n xs)
AreCaptureFileBytes-drop n xs bytes place = rw (get_or-drop n xs place 0) (bytes (n + place))

-- a frame that begins a file of bytes is a frame of a capture
IsFrame-in_capture_file : (order : FileOrder) (bytes : List ℕ) (frame : FrameValue) → AreCaptureFileBytes bytes
    → BeginsWithFrame order bytes frame → IsFrame frame
IsFrame-in_capture_file order bytes frame are begins =
    let captured : frame.captured ≡ number_in_order order 4 8 bytes = ap (λ f. f.captured) begins.is_frame in
    let original : frame.original ≡ number_in_order order 4 12 bytes = ap (λ f. f.original) begins.is_frame in
    let head : frame.head ≡ take 42 (take (number_in_order order 4 8 bytes) (drop 16 bytes)) =
    ap (λ f. f.head) begins.is_frame in
    let fits : number_in_order order 4 12 bytes < 256 ^ 4 = number_in_order-in_four_file_bytes order 12 bytes in record {
      captured = begins.limit;
      original = omega (arith, fits);
      head =
          omega (
            arith,
            ap length head,
            length-take 42 (take (number_in_order order 4 8 bytes) (drop 16 bytes)),
            length-take (number_in_order order 4 8 bytes) (drop 16 bytes),
            length-drop 16 bytes,
            begins.room,
            begins.header,
          );
      head_bytes = λ place.
          rw head
          (AreCaptureFileBytes-take 42 _ (AreCaptureFileBytes-take (number_in_order order 4 8 bytes) _ (AreCaptureFileBytes-drop 16 bytes are)) place);
    }

AreFrames-in_capture_file : (order : FileOrder) (bytes : List ℕ) (frames : List FrameValue) (rest : List ℕ) → AreCaptureFileBytes bytes
    → BeginsWithFrames order bytes frames rest → AreFrames frames
AreFrames-in_capture_file order bytes [] rest are begins = tt
AreFrames-in_capture_file order bytes (frame ∷ frames) rest are begins = (
  IsFrame-in_capture_file order bytes frame are begins.0,
  AreFrames-in_capture_file order (drop (16 + frame.captured) bytes) frames rest
      (AreCaptureFileBytes-drop (16 + frame.captured) bytes are) begins.1,
)

capture_file_has_valid_frames : (front : List ℕ) (frames : List FrameValue) → AreCaptureFileBytes front → ReachesFirstFault front frames
    → AreFrames frames
capture_file_has_valid_frames front frames are (inl none) = subst AreFrames (sym none.no_frame) tt
capture_file_has_valid_frames front frames are (inr here) =
    AreFrames-in_capture_file here.order (drop 24 front) frames here.rest (AreCaptureFileBytes-drop 24 front are) here.splits.begins

-- ---- the limits

-- at most 16,777,216 frames
capture_file_is_limited : (front : List ℕ) (frames : List FrameValue) → ReachesFirstFault front frames → length frames ≤ frame_count_limit
capture_file_is_limited front frames (inl none) = omega (arith, ap length none.no_frame)
capture_file_is_limited front frames (inr here) = let splits = here.splits in splits.limit

-- fewer bytes than a magic show nothing
capture_file_begins_without_frame : (front : List ℕ) (frames : List FrameValue) → length front < 4 → ReachesFirstFault front frames → frames ≡ []
capture_file_begins_without_frame front frames short (inl none) = none.no_frame
capture_file_begins_without_frame front frames short (inr here) =
    let header = here.splits.header in absurd (omega (arith, short, header.whole))

capture_file_begins_without_fault : (front : List ℕ) (frames : List FrameValue) (fault : CaptureFault) → length front < 4
    → ShowsFault front frames fault → ⊥
unfolding header_fault
capture_file_begins_without_fault front frames fault short (inl shows) =
    let shown = rw (lt-ltb (length front) 4 short) at shows.shown in cc
capture_file_begins_without_fault front frames fault short (inr shows) =
    let header = shows.splits.header in omega (arith, short, header.whole)

-- each frame before a fault has a greatest length
fault_place_in_capture_file : (file : List ℕ) (frames : List FrameValue) (fault : CaptureFault) → HasFaultAfter file frames fault
    → fault.place < 2 ^ 64
fault_place_in_capture_file file frames fault (inl (inl shows)) =
    omega (arith, header_shows_fault_near file fault shows.shown)
fault_place_in_capture_file file frames fault (inl (inr shows)) =
    let splits = shows.splits in
    let long = BeginsWithFrames-length shows.order (drop 24 file) frames shows.rest splits.begins in
    let near = frame_shows_fault_near shows.order (length frames) (length file - length shows.rest) shows.rest fault shows.shown in
    omega (arith, near, long, splits.limit, length-drop 24 file)
fault_place_in_capture_file file frames fault (inr (inl in_header)) =
    let at : fault.place ≡ length file = ap (λ (fault : CaptureFault). fault.place) in_header.is_fault in
    omega (arith, at, in_header.short)
fault_place_in_capture_file file frames fault (inr (inr in_frame)) =
    let splits = in_frame.splits in
    let long = BeginsWithFrames-length in_frame.order (drop 24 file) frames in_frame.rest splits.begins in
    let at : fault.place ≡ length file - length in_frame.rest = ap (λ (fault : CaptureFault). fault.place) in_frame.is_fault in
    omega (arith, at, long, splits.limit, length-drop 24 file)

-- ---- the laws

-- the frames that a front completes, in the words of where bytes end
capture_file_to_first_fault : (front : List ℕ) (frames : List FrameValue) → Completes classic front frames → ReachesFirstFault front frames
capture_file_to_first_fault front frames (inl capture) = capture_reaches_first_fault front frames capture
capture_file_to_first_fault front frames (inr fault) = frames_reach_first_fault front frames fault.0 fault.1

pub classic_captures_are_decided : IsDecided classic
classic_captures_are_decided = record {
  either = λ file. let fed = fronts_complete_to_first_fault file in
      elim (capture_or_first_fault fed.1.0 file fed.0 fed.1.1)
      [ inl capture ↦ inl (fed.0, capture) | inr fault ↦ inr (fault.0, (fed.0, fault.1)) ];
  never_both = capture_has_no_first_fault;
  one_list = λ file frames others here there.
      frames_before_first_fault_agree file frames others (capture_reaches_first_fault file frames here) (capture_reaches_first_fault file others there);
  one_fault = file_has_one_first_fault;
  one_before = λ file frames others fault other here there.
      frames_before_first_fault_agree file frames others (frames_reach_first_fault file frames fault here) (frames_reach_first_fault file others other there);
  longer = λ front more frames others here there.
      frames_before_first_fault_begin front more frames others (capture_file_to_first_fault front frames here)
      (capture_file_to_first_fault (front ++ more) others there);
  shown = λ front more frames fault shows. inl (ShowsFault-longer_split_file front more frames fault shows);
  no_end_fault = bytes_show_no_end_fault;
  no_frame_first = λ front frames short here.
      capture_file_begins_without_frame front frames short (capture_file_to_first_fault front frames here);
  no_fault_first = capture_file_begins_without_fault;
  limited = λ front frames here. capture_file_is_limited front frames (capture_file_to_first_fault front frames here);
  place = fault_place_in_capture_file;
  are_frames = λ front frames are here. capture_file_has_valid_frames front frames are (capture_file_to_first_fault front frames here);
}
