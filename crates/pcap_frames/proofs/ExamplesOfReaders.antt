-- Worked examples of what a reader keeps, returns and shows, between two pieces of a capture.
use Rattle.std.proofs.Common.{inl, inr, ℕ, ◌≡◌, ◌≤◌, List, [], ◌∷◌, ◌++◌, length, take, Some, None, Ok, Err, refl, ap}
use Rattle.std.proofs.Common.{sym, subst₂, ◌∙◌, append-nil, subst, arith}
use Rattle.pcap_frames.specs.declared.fault.FaultKind.TheVariants.{NotCapture, CutFrame}
use Rattle.pcap_frames.specs.declared.fault.FeedFault.TheVariants.{Refused, OutOfMemory}
use Rattle.pcap_frames.specs.declared.file_order.FileOrder.TheVariants.{Little}
use Rattle.pcap_frames.specs.declared.reader.held.HeldFrame.{HeldFrame}
use Rattle.pcap_frames.specs.declared.reader.part.FramePart.{FramePart}
use Rattle.pcap_frames.specs.declared.reader.part.Stage.TheVariants as stage
use Rattle.pcap_frames.specs.FileOrder.{number_in_order}
use Rattle.pcap_frames.specs.Frame.{FrameValue}
use Rattle.pcap_frames.specs.Header.{order_of_magic, header_fault, header_fault_at}
use Rattle.pcap_frames.specs.Frame.{frame_at, bytes_needed, frame_fault}
use Rattle.pcap_frames.specs.FrameReader.{FramePlace, ReaderState, InHeader, InFrames, AtFault, LacksMemory}
use Rattle.pcap_frames.specs.FrameReader.{IsInHeader, IsBehind, Represents}
use Rattle.pcap_frames.specs.FrameReader.{frame_reader_stop}
use Rattle.pcap_frames.specs.Front.{FrontValue}
use Rattle.pcap_frames.specs.Part.{place_of_part, state_of_part, IsPartWithin}
use Rattle.pcap_frames.specs.Part.{IsPartInStage}
use Rattle.pcap_frames.specs.Reader.{frames_held, SplitsFrame}
use Rattle.pcap_frames.specs.CaptureFormat.{classic, Completes}
use Rattle.pcap_frames.specs.Visitor.{VisitorSees, RepresentSame}
use Rattle.pcap_frames.specs.Feeding.{HasStopped, IsResultAfter, IfHadMemory, Advances, FeedsReader, ShowsBeginning}
use Rattle.pcap_frames.specs.Feeding.{StepTakes, StepShowsFront}
use Rattle.pcap_frames.specs.Feeding.{IsResultOf, IsFinalResult}
use Rattle.pcap_frames.proofs.CaptureFileLemmas.{classic_captures_are_decided}
use Rattle.pcap_frames.proofs.CompletedFrontLemmas.{completed_front_is_one}
use Rattle.pcap_frames.proofs.Examples.{header, frame_bytes, frame, capture, cut_file, header_and_more}
use Rattle.pcap_frames.proofs.Examples.{header_a_frame_and_a_rest, whole_frame, frame_of_three_bytes}
use Rattle.pcap_frames.proofs.Examples.{header_and_frame, compressed_header, fault_of_a_cut_file}

-- ---- a visitor

-- a visitor that holds the frames that it saw
abbrev pub album : List FrameValue → List FrameValue → Type 0
album held frames = held ≡ frames

-- one that counts them, and has another number besides
abbrev counter : ℕ × ℕ → List FrameValue → Type 0
counter v frames = v.0 ≡ length frames

pub album_sees_a_frame : VisitorSees album (frame ∷ []) (frame ∷ frame ∷ []) (frame ∷ [])
album_sees_a_frame before held = ap (λ frames. frames ++ frame ∷ []) held

pub album_sees_no_frame : VisitorSees album [] [] (frame ∷ []) → ⊥
album_sees_no_frame sees = absurd (let grown : [] ≡ frame ∷ [] = sees [] refl in cc)

pub counts_are_alike : RepresentSame counter (1, 7) (1, 9)
counts_are_alike = record { forth = λ frames is. is; back = λ frames is. is }

pub albums_are_not_alike : RepresentSame album [] (frame ∷ []) → ⊥
albums_are_not_alike alike = absurd (let same : frame ∷ [] ≡ [] = alike.forth [] refl in cc)

-- ---- a reader that was fed a file header and a frame without its last byte

-- what is kept of the frame
abbrev kept : FrontValue
kept = record { first = take 18 frame_bytes; came = 18 }

abbrev part : FramePart
part = record { order = Little; count = 0; place = 24; kept = kept }

-- where the reader is
abbrev at : FramePlace
at = record { order = Little; count = 0; place = 24; kept = take 18 frame_bytes; came = 18 }

pub place_of_the_part : place_of_part part ≡ at
place_of_the_part = refl

pub state_in_a_frame : state_of_part stage.Frames part ≡ InFrames at
state_in_a_frame = refl

pub state_in_the_header : state_of_part stage.Header part ≡ InHeader (take 18 frame_bytes)
state_in_the_header = refl

pub part_of_a_frame : IsPartWithin part
unfolding number_in_order bytes_needed
part_of_a_frame = record { count = omega arith; place = omega arith; cut = omega arith; bound = omega arith }

pub part_is_in_its_stage : IsPartInStage stage.Frames part
part_is_in_its_stage = part_of_a_frame

-- a whole frame is never kept
pub whole_frame_is_in_no_stage : IsPartInStage stage.Frames
    (record part { kept = record { first = frame_bytes; came = 19 } }) → ⊥
unfolding number_in_order bytes_needed
whole_frame_is_in_no_stage within = omega (arith, within.cut)

pub reader_behind_the_header : IsBehind at cut_file []
unfolding number_in_order bytes_needed frame_fault
reader_behind_the_header = record {
  rest = take 18 frame_bytes;
  splits = header_a_frame_and_a_rest;
  none_shown = refl;
  cut = omega arith;
  count_is = refl;
  place_is = refl;
  kept_is = refl;
  came_is = refl;
}

pub reader_represents_the_cut_file : Represents (InFrames at) cut_file []
reader_represents_the_cut_file = reader_behind_the_header

pub cut_file_completes_no_frame : Completes classic cut_file []
cut_file_completes_no_frame = inr (header_fault_at CutFrame 24, fault_of_a_cut_file)

pub cut_file_completes_not_its_frame : Completes classic cut_file (frame ∷ []) → ⊥
cut_file_completes_not_its_frame completes =
    absurd (let same : frame ∷ []
    ≡ [] = completed_front_is_one classic classic_captures_are_decided cut_file [] (frame ∷ []) cut_file_completes_no_frame completes in cc)

pub reader_in_a_frame_goes_on : HasStopped (frame_reader_stop (InFrames at)) → ⊥
reader_in_a_frame_goes_on stopped = stopped

pub reader_in_a_frame_answers_ok : IsResultAfter {T = ℕ} (frame_reader_stop (InFrames at)) (Ok 1)
reader_in_a_frame_answers_ok = refl

-- a cut file shows no fault, since it may continue as a capture
pub cut_file_is_not_refused : IsResultOf {T = ℕ} classic cut_file (Ok 1)
cut_file_is_not_refused frames fault shows =
    classic_captures_are_decided.never_both capture (frame ∷ []) fault header_and_frame
    (frames, classic_captures_are_decided.shown cut_file (9 ∷ []) frames fault shows)

pub cut_file_ends_with_a_fault : IsFinalResult classic cut_file [] (Err (Refused (header_fault_at CutFrame 24)))
cut_file_ends_with_a_fault = fault_of_a_cut_file

pub capture_ends_with_its_count : IsFinalResult classic capture (frame ∷ []) (Ok 1)
capture_ends_with_its_count = (header_and_frame, refl)

-- ---- a reader that was fed a file header without its last byte, and then this byte and a frame

abbrev piece : List ℕ
piece = 0 ∷ frame_bytes

-- where the reader is before the frame, and after it
abbrev before_frame : FramePlace
before_frame = record { order = Little; count = 0; place = 24; kept = []; came = 0 }

abbrev behind_frame : FramePlace
behind_frame = record { order = Little; count = 1; place = 43; kept = []; came = 0 }

pub part_of_a_header : IsInHeader (take 23 header) (take 23 header) []
unfolding number_in_order order_of_magic header_fault
part_of_a_header = record { kept_is = refl; short = omega arith; none_shown = refl; no_frame = refl }

pub whole_header_is_no_part : IsInHeader header header [] → ⊥
whole_header_is_no_part part = omega (arith, part.short)

header_alone_is_passed : Represents (InFrames before_frame) header []
unfolding bytes_needed frame_fault
header_alone_is_passed = record {
  rest = [];
  splits = record { header = header_and_more [] (omega arith); begins = refl; limit = omega arith };
  none_shown = refl;
  cut = omega arith;
  count_is = refl;
  place_is = refl;
  kept_is = refl;
  came_is = refl;
}

pub reader_behind_the_frame : Represents (InFrames behind_frame) capture (frame ∷ [])
unfolding bytes_needed frame_fault
reader_behind_the_frame = record {
  rest = [];
  splits = record {
    header = header_and_more frame_bytes (omega arith);
    begins = (whole_frame, refl);
    limit = omega arith;
  };
  none_shown = refl;
  cut = omega arith;
  count_is = refl;
  place_is = refl;
  kept_is = refl;
  came_is = refl;
}

pub capture_completes_the_frame : Completes classic capture (frame ∷ [])
capture_completes_the_frame = inl header_and_frame

-- a reader in the header knows all its bytes
in_header_advances : (new : ReaderState) (kept bytes : List ℕ) (given : List FrameValue)
    → Represents new (kept ++ bytes) given → Advances Represents (InHeader kept) new bytes given
in_header_advances new kept bytes given stands = record {
  reads = λ before frames part. subst (λ l. Represents new (l ++ bytes) (frames ++ given)) part.kept_is
      (subst (λ l. Represents new (kept ++ bytes) (l ++ given)) (sym part.no_frame) stands);
}

pub header_advances_by_its_last_byte : Advances Represents (InHeader (take 23 header)) (InFrames before_frame) (0 ∷ []) []
header_advances_by_its_last_byte = in_header_advances _ _ _ _ header_alone_is_passed

pub piece_completes_the_frame : Advances Represents (InHeader (take 23 header)) (InFrames behind_frame) piece (frame ∷ [])
piece_completes_the_frame = in_header_advances _ _ _ _ reader_behind_the_frame

pub piece_is_fed : FeedsReader Represents album [] (frame ∷ []) (InHeader (take 23 header)) (InFrames behind_frame) piece
piece_is_fed = record {
  given = frame ∷ [];
  advances = piece_completes_the_frame;
  are_frames = (frame_of_three_bytes, tt);
  sees = λ before held. ap (λ frames. frames ++ frame ∷ []) held;
}

-- if memory ran out, an album without the frame saw a front of the frames
pub album_saw_a_beginning : ShowsBeginning classic Represents album [] [] (InHeader (take 23 header)) piece
album_saw_a_beginning = record {
  given = [];
  are_frames = tt;
  sees = λ before held. held ∙ sym (append-nil before);
  begins = λ before frames more stands completes. (more, refl);
}

-- ---- steps of that reader

pub header_is_taken : StepTakes Represents (InHeader (take 23 header)) (InFrames before_frame) piece frame_bytes []
header_is_taken = record {
  front = 0 ∷ [];
  joined = refl;
  some = omega arith;
  advances = header_advances_by_its_last_byte;
}

pub frame_is_split_off : SplitsFrame Little (frame_bytes ++ 1 ∷ []) (1 ∷ []) frame
unfolding number_in_order
frame_is_split_off = record {
  front = frame_bytes;
  joined = refl;
  header = omega arith;
  limit = omega arith;
  whole = refl;
  frame_is = refl;
}

pub header_shows_no_frame : StepShowsFront Represents album [] [] (InHeader (take 23 header)) (InFrames before_frame) piece frame_bytes
header_shows_no_frame = record {
  given = [];
  takes = header_is_taken;
  are_frames = tt;
  sees = λ before held. held ∙ sym (append-nil before);
}

-- a frame that was completed by another piece
pub frame_that_was_held : (held : HeldFrame) → held.order ≡ Little → held.kept.first ≡ frame_bytes
    → frames_held (Some held) ≡ frame ∷ []
unfolding number_in_order
frame_that_was_held held order first =
    subst₂ (λ o bytes. frame_at o bytes ∷ [] ≡ frame ∷ []) (sym order) (sym first) refl

pub no_frame_was_held : frames_held None ≡ []
no_frame_was_held = refl

-- ---- a reader that was fed a compressed file

pub compressed_file_is_refused : IsResultOf {T = ℕ} classic (0x1f ∷ 0x8b ∷ 8 ∷ 0 ∷ []) (Err (Refused (header_fault_at NotCapture 0)))
compressed_file_is_refused = ([], inl compressed_header)

pub reader_of_a_compressed_file : Represents (AtFault (header_fault_at NotCapture 0)) (0x1f ∷ 0x8b ∷ 8 ∷ 0 ∷ []) []
reader_of_a_compressed_file = inl compressed_header

pub reader_at_a_fault_has_stopped : HasStopped (frame_reader_stop (AtFault (header_fault_at NotCapture 0)))
reader_at_a_fault_has_stopped = tt

pub reader_at_a_fault_answers_it : IsResultAfter {T = ℕ} (frame_reader_stop (AtFault (header_fault_at NotCapture 0)))
    (Err (Refused (header_fault_at NotCapture 0)))
reader_at_a_fault_answers_it = refl

pub reader_at_a_fault_answers_nothing_else : IsResultAfter {T = ℕ} (frame_reader_stop (AtFault (header_fault_at NotCapture 0))) (Ok 1) → ⊥
reader_at_a_fault_answers_nothing_else answer = cc

-- ---- out of memory

pub reader_without_memory_represents_nothing : (bytes : List ℕ) (frames : List FrameValue)
    → Represents LacksMemory bytes frames → ⊥
reader_without_memory_represents_nothing bytes frames stands = stands

pub other_fact_where_memory_ran_out : IfHadMemory {T = ℕ} (Err OutOfMemory) (1 ≤ 0) (0 ≤ 1)
other_fact_where_memory_ran_out = omega arith

pub first_fact_where_memory_sufficed : IfHadMemory {T = ℕ} (Err (Refused (header_fault_at NotCapture 0))) (0 ≤ 1) (1 ≤ 0)
first_fact_where_memory_sufficed = omega arith
