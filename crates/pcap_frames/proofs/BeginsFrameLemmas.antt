-- Frames at the front of bytes when more bytes follow, and one more frame.
use Rattle.std.proofs.Common.{ℕ, ◌≡◌, ◌+◌, ◌*◌, ◌≤◌, ◌<◌, true, false, ltb, eqb, Some, List, [], ◌∷◌, ◌++◌, length}
use Rattle.std.proofs.Common.{drop, refl, sym, ap, ◌∙◌, arith, length-append, length-drop, subst, inl, inr}
use Rattle.std.proofs.lemmas.Bool.{ltb-true, ltb-false, lt-ltb, le-ltb, cases_Bool, cases_lt}
use Rattle.std.proofs.lemmas.List.{take-append-le, drop-append-le}
use Rattle.pcap_frames.specs.declared.file_order.FileOrder.{FileOrder}
use Rattle.pcap_frames.specs.declared.fault.CaptureFault.{CaptureFault}
use Rattle.pcap_frames.specs.FileOrder.{number_in_order}
use Rattle.pcap_frames.specs.Frame.{FrameValue}
use Rattle.pcap_frames.specs.Frame.{frame_at, BeginsWithFrame, BeginsWithFrames, bytes_needed, frame_fault}
use Rattle.pcap_frames.proofs.FileNumberLemmas.{number_in_order-in_longer_file}

-- the frame at the front is the same when more bytes follow
pub longer_bytes_begin_same_frame : (order : FileOrder) (bytes more : List ℕ) → 16 ≤ length bytes
    → 16 + number_in_order order 4 8 bytes ≤ length bytes → frame_at order (bytes ++ more) ≡ frame_at order bytes
longer_bytes_begin_same_frame order bytes more header room =
    rw (
      number_in_order-in_longer_file order 4 8 bytes more (omega arith),
      number_in_order-in_longer_file order 4 12 bytes more header,
      drop-append-le 16 bytes more header,
      take-append-le (number_in_order order 4 8 bytes) (drop 16 bytes) more (omega (arith, length-drop 16 bytes)),
    ) refl

-- a frame at the front stays there when more bytes follow
pub BeginsWithFrame-append : (order : FileOrder) (bytes more : List ℕ) (frame : FrameValue)
    → BeginsWithFrame order bytes frame → BeginsWithFrame order (bytes ++ more) frame
BeginsWithFrame-append order bytes more frame begins =
    let captured : frame.captured ≡ number_in_order order 4 8 bytes = ap (λ f. f.captured) begins.is_frame in
    let room : 16 + number_in_order order 4 8 bytes ≤ length bytes = omega (arith, begins.room) in record {
      header = omega (arith, begins.header, length-append bytes more);
      is_frame = begins.is_frame ∙ sym (longer_bytes_begin_same_frame order bytes more begins.header room);
      limit = begins.limit;
      room = omega (arith, begins.room, length-append bytes more);
    }

-- frames at the front stay there when more bytes follow
pub BeginsWithFrames-append : (order : FileOrder) (bytes : List ℕ) (frames : List FrameValue) (rest more : List ℕ)
    → BeginsWithFrames order bytes frames rest → BeginsWithFrames order (bytes ++ more) frames (rest ++ more)
BeginsWithFrames-append order bytes [] rest more begins = ap (λ l. l ++ more) begins
BeginsWithFrames-append order bytes (frame ∷ frames) rest more begins =
    let behind = drop-append-le (16 + frame.captured) bytes more begins.0.room in (
      BeginsWithFrame-append order bytes more frame begins.0,
      rw behind (BeginsWithFrames-append order (drop (16 + frame.captured) bytes) frames rest more begins.1),
    )

-- one frame more
pub BeginsWithFrames-more : (order : FileOrder) (bytes : List ℕ) (frames : List FrameValue) (rest : List ℕ)
    (frame : FrameValue) → BeginsWithFrames order bytes frames rest → BeginsWithFrame order rest frame
    → BeginsWithFrames order bytes (frames ++ frame ∷ []) (drop (16 + frame.captured) rest)
BeginsWithFrames-more order bytes [] rest frame begins next =
    (subst (λ l. BeginsWithFrame order l frame) begins next, ap (drop (16 + frame.captured)) begins)
BeginsWithFrames-more order bytes (first ∷ frames) rest frame begins next =
    (begins.0, BeginsWithFrames-more order (drop (16 + first.captured) bytes) frames rest frame begins.1 next)

-- the bytes are no longer than the rest and 262,160 bytes for each frame
pub BeginsWithFrames-length : (order : FileOrder) (bytes : List ℕ) (frames : List FrameValue) (rest : List ℕ)
    → BeginsWithFrames order bytes frames rest → length bytes ≤ 262160 * length frames + length rest
BeginsWithFrames-length order bytes [] rest begins = omega (arith, ap length begins)
BeginsWithFrames-length order bytes (frame ∷ frames) rest begins =
    let behind = BeginsWithFrames-length order (drop (16 + frame.captured) bytes) frames rest begins.1 in
    omega (arith, begins.0.limit, length-drop (16 + frame.captured) bytes)

-- the rest is no longer than the bytes
pub BeginsWithFrames-shorter : (order : FileOrder) (bytes : List ℕ) (frames : List FrameValue) (rest : List ℕ)
    → BeginsWithFrames order bytes frames rest → length rest ≤ length bytes
BeginsWithFrames-shorter order bytes [] rest begins = omega (arith, ap length begins)
BeginsWithFrames-shorter order bytes (frame ∷ frames) rest begins =
    let behind = BeginsWithFrames-shorter order (drop (16 + frame.captured) bytes) frames rest begins.1 in
    omega (arith, length-drop (16 + frame.captured) bytes)

-- a whole frame needs no more bytes than there are
pub bytes_needed-where_frame_begins : (order : FileOrder) (bytes : List ℕ) (frame : FrameValue) → BeginsWithFrame order bytes frame
    → bytes_needed order bytes ≤ length bytes
unfolding bytes_needed
bytes_needed-where_frame_begins order bytes frame begins =
    let captured : frame.captured ≡ number_in_order order 4 8 bytes = ap (λ f. f.captured) begins.is_frame in
    rw (le-ltb (length bytes) 16 begins.header) (omega (arith, begins.room))

-- how many bytes a frame needs once its header is whole
pub bytes_needed-begins_frame_header : (order : FileOrder) (bytes : List ℕ) → 16 ≤ length bytes
    → bytes_needed order bytes ≡ 16 + number_in_order order 4 8 bytes
unfolding bytes_needed
bytes_needed-begins_frame_header order bytes header = rw (le-ltb (length bytes) 16 header) refl

-- how many bytes a frame needs before its header is whole
pub bytes_needed-begins_part_of_frame : (order : FileOrder) (bytes : List ℕ) → length bytes < 16 → bytes_needed order bytes ≡ 16
unfolding bytes_needed
bytes_needed-begins_part_of_frame order bytes short = rw (lt-ltb (length bytes) 16 short) refl

-- a frame needs at least its header
pub frame_that_begins_needs_header : (order : FileOrder) (bytes : List ℕ) → 16 ≤ bytes_needed order bytes
frame_that_begins_needs_header order bytes = elim (cases_lt (length bytes) 16) [
  | inl short ↦ omega (arith, bytes_needed-begins_part_of_frame order bytes short)
  | inr header ↦ omega (arith, bytes_needed-begins_frame_header order bytes header)
]

-- a fault that is shown after frames stays when more bytes follow
pub frame_fault-begins_longer_rest : (order : FileOrder) (count place : ℕ) (rest more : List ℕ) (fault : CaptureFault)
    → frame_fault order count place rest ≡ Some fault → frame_fault order count place (rest ++ more) ≡ Some fault
unfolding frame_fault
frame_fault-begins_longer_rest order count place rest more fault shown = elim (cases_Bool (ltb 0 (length rest))) [
  | inr none ↦ absurd (let wrong = rw none at shown in cc)
  | inl some ↦
      let here : 0 < length rest = ltb-true 0 (length rest) some in
      let still : ltb 0 (length (rest ++ more)) ≡ true = lt-ltb 0 _ (omega (arith, length-append rest more)) in
      let first = rw some at shown in
      rw still (elim (cases_Bool (eqb count 16777216)) [
        | inl full ↦ rw full (rw full at first)
        | inr room ↦ let second = rw room at first in rw room (elim (cases_Bool (ltb (length rest) 16)) [
          | inl short ↦ absurd (let wrong = rw short at second in cc)
          | inr past ↦
              let header : 16 ≤ length rest = ltb-false (length rest) 16 past in
              let longer : ltb (length (rest ++ more)) 16 ≡ false =
              le-ltb _ 16 (omega (arith, length-append rest more)) in
              rw (longer, number_in_order-in_longer_file order 4 8 rest more (omega arith)) (rw past at second)
        ])
      ])
]
