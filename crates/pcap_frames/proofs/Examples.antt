-- Worked examples of captures, of their headers and frames, and of first faults.
use Rattle.std.proofs.Common.{inl, inr, ℕ, zero, suc, ◌≡◌, ◌<◌, ◌≤◌, true, false, List, [], ◌∷◌, ◌++◌, length, take}
use Rattle.std.proofs.Common.{replicate, slice_index, Some, None, refl, arith, ◌+◌, ◌^◌}
use Rattle.pcap_frames.specs.declared.file_order.FileOrder.TheVariants.{Big, Little}
use Rattle.pcap_frames.specs.declared.fault.CaptureFault.{CaptureFault}
use Rattle.pcap_frames.specs.declared.fault.FaultKind.TheVariants.{ShortHeader, NotCapture, Version, Link}
use Rattle.pcap_frames.specs.declared.fault.FaultKind.TheVariants.{LongFrame, CutFrame, TooManyFrames}
use Rattle.pcap_frames.specs.declared.frame.Frame.{Frame}
use Rattle.pcap_frames.specs.FileOrder.{number_in_order}
use Rattle.pcap_frames.specs.Frame.{FrameValue, frame_content}
use Rattle.pcap_frames.specs.Header.{IsHeader, is_magic, order_of_magic, fields_fault, header_fault}
use Rattle.pcap_frames.specs.Header.{header_fault_at}
use Rattle.pcap_frames.specs.Frame.{frame_at, BeginsWithFrame, BeginsWithFrames, bytes_needed, frame_fault}
use Rattle.pcap_frames.specs.Frame.{IsFrame, AreFrames}
use Rattle.pcap_frames.specs.Capture.{SplitsCapture, IsCapture, EndsInHeader}
use Rattle.pcap_frames.specs.CaptureFormat.{classic, HasFault}
use Rattle.pcap_frames.specs.CaptureFault.{ShowsInHeader, ShowsInFrames, ShowsFault}
use Rattle.pcap_frames.specs.Capture.{EndsInFrame, EndsInside}
use Rattle.pcap_frames.specs.CaptureFault.{HasFaultAfter}
use Rattle.pcap_frames.proofs.CaptureFileLemmas.{classic_captures_are_decided}
use Rattle.pcap_frames.specs.Lengths.{header_length, packet_header_length, frame_head_length, kept_length}
use Rattle.pcap_frames.specs.Lengths.{most_captured}
use Rattle.pcap_frames.specs.Frame.{frame_count_limit}

-- the header of a little-endian capture
abbrev pub header : List ℕ
header = 0xd4 ∷ 0xc3 ∷ 0xb2 ∷ 0xa1 ∷ 2 ∷ 0 ∷ 4 ∷ 0 ∷ 0 ∷ 0 ∷ 0 ∷ 0 ∷ 0 ∷ 0 ∷ 0 ∷ 0 ∷ 0 ∷ 0 ∷ 4 ∷ 0 ∷ 1 ∷ 0 ∷ 0 ∷ 0 ∷ []

-- a frame of three captured bytes, 100 on the wire
abbrev pub frame_bytes : List ℕ
frame_bytes = 0 ∷ 0 ∷ 0 ∷ 0 ∷ 0 ∷ 0 ∷ 0 ∷ 0 ∷ 3 ∷ 0 ∷ 0 ∷ 0 ∷ 100 ∷ 0 ∷ 0 ∷ 0 ∷ 7 ∷ 8 ∷ 9 ∷ []

abbrev pub frame : FrameValue
frame = record { head = 7 ∷ 8 ∷ 9 ∷ []; captured = 3; original = 100 }

-- a capture of that frame, and the same file without its last byte
abbrev pub capture : List ℕ
capture = header ++ frame_bytes

abbrev pub cut_file : List ℕ
cut_file = header ++ take 18 frame_bytes

-- ---- sizes and limits

pub length_of_the_file_header : length header ≡ header_length
length_of_the_file_header = refl

-- three captured bytes come after the header of their frame
pub length_of_a_frame_header : length frame_bytes ≡ packet_header_length + 3
length_of_a_frame_header = refl

-- two hardware addresses, two tags, the type and an IPv4 header
pub length_of_a_head : 6 + 6 + 4 + 4 + 2 + 20 ≡ frame_head_length
length_of_a_head = refl

pub length_of_what_is_kept : kept_length ≡ 58
length_of_what_is_kept = refl

pub most_bytes_of_a_frame : most_captured ≡ 2 ^ 18
most_bytes_of_a_frame = refl

pub most_frames_of_a_capture : frame_count_limit ≡ 2 ^ 24
most_frames_of_a_capture = refl

-- ---- the file header

pub number_in_little_order : number_in_order Little 4 8 frame_bytes ≡ 3
unfolding number_in_order
number_in_little_order = refl

pub number_in_big_order : number_in_order Big 2 4 header ≡ 512
unfolding number_in_order
number_in_big_order = refl

pub nanoseconds_are_a_magic : is_magic 0xa1b23c4d ≡ true
nanoseconds_are_a_magic = refl

pub turned_magic_is_none : is_magic 0xd4c3b2a1 ≡ false
turned_magic_is_none = refl

pub order_of_the_header : order_of_magic header ≡ Some Little
unfolding number_in_order order_of_magic
order_of_the_header = refl

pub order_of_big_nanoseconds : order_of_magic (0xa1 ∷ 0xb2 ∷ 0x3c ∷ 0x4d ∷ []) ≡ Some Big
unfolding number_in_order order_of_magic
order_of_big_nanoseconds = refl

pub compressed_file_has_no_order : order_of_magic (0x1f ∷ 0x8b ∷ 8 ∷ 0 ∷ []) ≡ None
unfolding number_in_order order_of_magic
compressed_file_has_no_order = refl

pub header_and_more : (rest : List ℕ) → 24 ≤ length (header ++ rest) → IsHeader Little (header ++ rest)
unfolding number_in_order order_of_magic
header_and_more rest whole = record { whole = whole; magic = refl; major = refl; minor = refl; link = refl }

pub header_without_its_last_byte_is_none : IsHeader Little (take 23 header) → ⊥
header_without_its_last_byte_is_none is = omega (arith, is.whole)

pub good_fields : fields_fault (Some Little) header ≡ None
unfolding number_in_order
good_fields = refl

pub fields_in_the_other_order : fields_fault (Some Big) header ≡ Some (header_fault_at Version 4)
unfolding number_in_order
fields_in_the_other_order = refl

pub fields_without_magic : fields_fault None header ≡ Some (header_fault_at NotCapture 0)
fields_without_magic = refl

pub part_of_a_header_shows_nothing : header_fault (take 23 header) ≡ None
unfolding number_in_order order_of_magic header_fault
part_of_a_header_shows_nothing = refl

-- the magic is checked before the version
pub magic_before_version : header_fault (0x1f ∷ 0x8b ∷ 8 ∷ 0 ∷ 3 ∷ 0 ∷ 4 ∷ 0 ∷ []) ≡ Some (header_fault_at NotCapture 0)
unfolding number_in_order order_of_magic header_fault
magic_before_version = refl

-- ---- frames

pub frame_at_the_front : frame_at Little frame_bytes ≡ frame
unfolding number_in_order
frame_at_the_front = refl

-- of 45 captured bytes the head has 42
pub head_of_a_greater_frame : frame_at Little
    (take 8 frame_bytes ++ 45 ∷ 0 ∷ 0 ∷ 0 ∷ 60 ∷ 0 ∷ 0 ∷ 0 ∷ replicate 45 7)
    ≡ record { head = replicate 42 7; captured = 45; original = 60 }
unfolding number_in_order
head_of_a_greater_frame = refl

pub whole_frame : BeginsWithFrame Little frame_bytes frame
unfolding number_in_order
whole_frame = record { header = omega arith; is_frame = refl; limit = omega arith; room = omega arith }

pub cut_frame_is_none : BeginsWithFrame Little (take 18 frame_bytes) frame → ⊥
cut_frame_is_none begins = omega (arith, begins.room)

pub two_frames_and_a_rest : BeginsWithFrames Little (frame_bytes ++ frame_bytes ++ 1 ∷ []) (frame ∷ frame ∷ []) (1 ∷ [])
unfolding number_in_order
two_frames_and_a_rest = (
  record { header = omega arith; is_frame = refl; limit = omega arith; room = omega arith },
  (record { header = omega arith; is_frame = refl; limit = omega arith; room = omega arith }, refl),
)

pub bytes_that_a_frame_takes : bytes_needed Little frame_bytes ≡ 19
unfolding number_in_order bytes_needed
bytes_that_a_frame_takes = refl

pub bytes_that_a_cut_header_takes : bytes_needed Little (take 15 frame_bytes) ≡ 16
unfolding bytes_needed
bytes_that_a_cut_header_takes = refl

pub byte_behind_the_last_frame : frame_fault Little 16777216 24 (1 ∷ []) ≡ Some (header_fault_at TooManyFrames 24)
unfolding frame_fault
byte_behind_the_last_frame = refl

pub no_byte_behind_the_last_frame : frame_fault Little 16777216 24 [] ≡ None
unfolding frame_fault
no_byte_behind_the_last_frame = refl

head_bytes : (place : ℕ) → slice_index frame.head place < 256
head_bytes zero = omega arith
head_bytes (suc zero) = omega arith
head_bytes (suc (suc zero)) = omega arith
head_bytes (suc (suc (suc place))) = omega arith

pub frame_of_three_bytes : IsFrame frame
frame_of_three_bytes = record { captured = omega arith; original = omega arith; head = refl; head_bytes = head_bytes }

pub frame_without_its_head_is_none : IsFrame (record { head = []; captured = 3; original = 100 }) → ⊥
frame_without_its_head_is_none is = omega (arith, is.head)

pub two_frames : AreFrames (frame ∷ frame ∷ [])
two_frames = (frame_of_three_bytes, (frame_of_three_bytes, tt))

-- ---- captures and their faults

pub header_alone : IsCapture header []
header_alone = (Little, record { header = header_and_more [] (omega arith); begins = refl; limit = omega arith })

pub header_a_frame_and_a_rest : SplitsCapture cut_file Little [] (take 18 frame_bytes)
header_a_frame_and_a_rest = record {
  header = header_and_more (take 18 frame_bytes) (omega arith);
  begins = refl;
  limit = omega arith;
}

pub header_and_frame : IsCapture capture (frame ∷ [])
header_and_frame = (
  Little,
  record {
    header = header_and_more frame_bytes (omega arith);
    begins = (whole_frame, refl);
    limit = omega arith;
  },
)

pub empty_header : EndsInHeader [] [] (header_fault_at ShortHeader 0)
unfolding header_fault
empty_header = record { none_shown = refl; short = omega arith; none_before = refl; is_fault = refl }

pub empty_file_ends_inside : EndsInside [] [] (header_fault_at ShortHeader 0)
empty_file_ends_inside = inl empty_header

pub empty_file : HasFault classic [] (header_fault_at ShortHeader 0)
empty_file = ([], inr empty_file_ends_inside)

-- a file with a whole header doesn't end inside its header
pub whole_header_is_not_short : (frames : List FrameValue) (fault : CaptureFault) → EndsInHeader header frames fault → ⊥
whole_header_is_not_short frames fault ends = omega (arith, ends.short)

pub compressed_header : ShowsInHeader (0x1f ∷ 0x8b ∷ 8 ∷ 0 ∷ []) [] (header_fault_at NotCapture 0)
unfolding number_in_order order_of_magic header_fault
compressed_header = record { shown = refl; none_before = refl }

pub compressed_file : HasFault classic (0x1f ∷ 0x8b ∷ 8 ∷ 0 ∷ []) (header_fault_at NotCapture 0)
compressed_file = ([], inl (inl compressed_header))

-- the first eight bytes show a wrong version
pub other_version : ShowsFault (take 6 header ++ 3 ∷ 0 ∷ []) [] (header_fault_at Version 4)
unfolding number_in_order order_of_magic header_fault
other_version = inl (record { shown = refl; none_before = refl })

-- the whole field of the link type counts
pub other_link : ShowsFault (take 23 header ++ 0x10 ∷ []) [] (header_fault_at Link 20)
unfolding number_in_order order_of_magic header_fault
other_link = inl (record { shown = refl; none_before = refl })

-- a file that ends inside a frame is cut at that frame's first byte
pub cut_frame : EndsInFrame cut_file [] (header_fault_at CutFrame 24)
unfolding number_in_order bytes_needed frame_fault
cut_frame = record {
  order = Little;
  rest = take 18 frame_bytes;
  splits = header_a_frame_and_a_rest;
  none_shown = refl;
  some_left = omega arith;
  cut = omega arith;
  is_fault = refl;
}

pub fault_of_a_cut_file : HasFaultAfter cut_file [] (header_fault_at CutFrame 24)
fault_of_a_cut_file = inr (inr cut_frame)

pub cut_file_is_no_capture : (frames : List FrameValue) → IsCapture cut_file frames → ⊥
cut_file_is_no_capture frames is =
    classic_captures_are_decided.never_both cut_file frames (header_fault_at CutFrame 24) is ([], fault_of_a_cut_file)

pub capture_has_no_fault : (fault : CaptureFault) → HasFault classic capture fault → ⊥
capture_has_no_fault fault = classic_captures_are_decided.never_both capture (frame ∷ []) fault header_and_frame

-- the header of a frame of 262,145 captured bytes
abbrev long_header : List ℕ
long_header = take 8 frame_bytes ++ 1 ∷ 0 ∷ 4 ∷ 0 ∷ 0 ∷ 0 ∷ 0 ∷ 0 ∷ []

-- the header of a long frame shows the fault, at the offset after the frames before it
pub long_frame_behind_another : ShowsInFrames (capture ++ long_header) (frame ∷ []) (header_fault_at LongFrame 43)
unfolding number_in_order frame_fault
long_frame_behind_another = record {
  order = Little;
  rest = long_header;
  splits = record {
    header = header_and_more _ (omega arith);
    begins = (record { header = omega arith; is_frame = refl; limit = omega arith; room = omega arith }, refl);
    limit = omega arith;
  };
  shown = refl;
}

pub long_frame : HasFault classic (capture ++ long_header) (header_fault_at LongFrame 43)
long_frame = (frame ∷ [], inl (inr long_frame_behind_another))

-- ---- what a visitor is shown

pub content_of_a_frame : (shown : Frame) → shown.head.now ≡ 7 ∷ 8 ∷ 9 ∷ [] → shown.captured ≡ 3
    → shown.original ≡ 100 → frame_content shown ≡ frame
content_of_a_frame shown head captured original = cc
