-- What each step of a reader leaves.
use Rattle.std.proofs.Common.{ℕ, ◌≡◌, ◌+◌, ◌-◌, ◌≤◌, ◌<◌, true, false, ltb, eqb, min, Some, None, List, [], ◌∷◌}
use Rattle.std.proofs.Common.{◌++◌, length, take, drop, refl, sym, ap, ◌∙◌, arith, length-append, length-take}
use Rattle.std.proofs.Common.{subst, inl, inr, ◌⊎◌, append-nil}
use Rattle.std.proofs.lemmas.Bool.{ltb-false, lt-ltb, le-ltb, eqb-false, eq-eqb, cases_Bool, cases_lt}
use Rattle.std.proofs.lemmas.List.{take_all, take-take, take-append-le, drop-take, drop_all, nil_from_length}
use Rattle.pcap_frames.specs.declared.file_order.FileOrder.{FileOrder}
use Rattle.pcap_frames.specs.declared.fault.CaptureFault.{CaptureFault}
use Rattle.pcap_frames.specs.FileOrder.{number_in_order}
use Rattle.pcap_frames.specs.Frame.{FrameValue}
use Rattle.pcap_frames.specs.Header.{IsHeader, order_of_magic, header_fault}
use Rattle.pcap_frames.specs.Frame.{frame_at, BeginsWithFrame, BeginsWithFrames, bytes_needed, frame_fault}
use Rattle.pcap_frames.specs.CaptureFault.{ShowsFault}
use Rattle.pcap_frames.specs.FrameReader.{FramePlace, ReaderState, InHeader, InFrames, AtFault, LacksMemory}
use Rattle.pcap_frames.specs.FrameReader.{IsBehind, Represents, frame_reader_stop}
use Rattle.pcap_frames.specs.Feeding.{Advances, StepTakes}
use Rattle.pcap_frames.specs.Reader.{SplitsFrame}
use Rattle.pcap_frames.specs.Part.{state_of_part}
use Rattle.pcap_frames.specs.declared.fault.FeedFault.{FeedFault}
use Rattle.pcap_frames.specs.declared.fault.FeedFault.TheVariants.{Refused, OutOfMemory}
use Rattle.pcap_frames.specs.declared.reader.part.FramePart.{FramePart}
use Rattle.pcap_frames.specs.declared.reader.part.Stage.{Stage}
use Rattle.pcap_frames.specs.declared.reader.part.Stage.TheVariants as stage
use Rattle.pcap_frames.proofs.FileNumberLemmas.{number_in_order-in_file_front, number_in_order-in_longer_file}
use Rattle.pcap_frames.proofs.FileHeaderLemmas.{file_header_of_magic_order}
use Rattle.pcap_frames.proofs.BeginsFrameLemmas.{BeginsWithFrames-more, frame_that_begins_needs_header}
use Rattle.pcap_frames.proofs.BeginsFrameLemmas.{bytes_needed-begins_frame_header}
use Rattle.pcap_frames.proofs.BeginsFrameLemmas.{bytes_needed-begins_part_of_frame}
use Rattle.pcap_frames.proofs.FileSplitLemmas.{SplitsCapture-longer_file, ShowsFault-longer_split_file}

-- ---- the first bytes of a run are enough

-- the first bytes of a run are the same when they are taken before more is appended
pub reader_step_front_grows : (n : ℕ) (xs ys : List ℕ) → take n (take n xs ++ ys) ≡ take n (xs ++ ys)
reader_step_front_grows n xs ys = elim (cases_lt n (length xs)) [
  | inl longer ↦
      let room : length (take n xs) ≡ n = omega (arith, length-take n xs) in
      take-append-le n (take n xs) ys (omega arith) ∙ take-take n n xs (omega arith)
      ∙ sym (take-append-le n xs ys (omega arith))
  | inr short ↦ ap (λ l. take n (l ++ ys)) (take_all n xs short)
]

-- the least of two fronts
pub reader_step_least_front : (n m : ℕ) (xs : List ℕ) → take n (take m (take n xs)) ≡ take n (take m xs)
reader_step_least_front n m xs = elim (cases_lt n m) [
  | inl longer ↦
      ap (take n) (take_all m (take n xs) (omega (arith, length-take n xs))) ∙ take-take n n xs (omega arith)
      ∙ sym (take-take n m xs (omega arith))
  | inr short ↦ ap (take n) (take-take m n xs short)
]

-- a test of the length gives the same for a front that is long enough
reader_step_length_test : (n m : ℕ) (xs : List ℕ) → n ≤ m → ltb (length (take m xs)) n ≡ ltb (length xs) n
reader_step_length_test n m xs fits = elim (cases_lt (length xs) n) [
  | inl short ↦ lt-ltb _ n (omega (arith, length-take m xs)) ∙ sym (lt-ltb (length xs) n short)
  | inr long ↦ le-ltb _ n (omega (arith, length-take m xs)) ∙ sym (le-ltb (length xs) n long)
]

reader_step_nonempty_test : (m : ℕ) (xs : List ℕ) → 0 < m → ltb 0 (length (take m xs)) ≡ ltb 0 (length xs)
reader_step_nonempty_test m xs fits = elim (cases_lt 0 (length xs)) [
  | inl some ↦ lt-ltb 0 _ (omega (arith, length-take m xs)) ∙ sym (lt-ltb 0 (length xs) some)
  | inr none ↦ le-ltb 0 _ (omega (arith, length-take m xs)) ∙ sym (le-ltb 0 (length xs) none)
]

-- the first 58 bytes decide how many bytes a frame needs
pub bytes_needed-reader_step_front : (order : FileOrder) (rest : List ℕ) → bytes_needed order (take 58 rest) ≡ bytes_needed order rest
unfolding bytes_needed
bytes_needed-reader_step_front order rest =
    rw (reader_step_length_test 16 58 rest (omega arith), number_in_order-in_file_front order 4 8 58 rest (omega arith)) refl

-- the first 58 bytes show what a rest shows
pub frame_fault-reader_step_front : (order : FileOrder) (count place : ℕ) (rest : List ℕ)
    → frame_fault order count place (take 58 rest) ≡ frame_fault order count place rest
unfolding frame_fault
frame_fault-reader_step_front order count place rest =
    rw (
      reader_step_nonempty_test 58 rest (omega arith),
      reader_step_length_test 16 58 rest (omega arith),
      number_in_order-in_file_front order 4 8 58 rest (omega arith),
    ) refl

-- the first 58 bytes hold what a frame says
pub frame_at-reader_step_front : (order : FileOrder) (rest : List ℕ) → frame_at order (take 58 rest) ≡ frame_at order rest
frame_at-reader_step_front order rest =
    rw (
      number_in_order-in_file_front order 4 8 58 rest (omega arith),
      number_in_order-in_file_front order 4 12 58 rest (omega arith),
      drop-take 16 42 rest,
      reader_step_least_front 42 (number_in_order order 4 8 rest) (drop 16 rest),
    ) refl

-- ---- a rest that shows no fault

-- a rest with a frame header that shows no fault is within the limits on frames and on captured bytes
pub reader_step_at_right_frame : (order : FileOrder) (count place : ℕ) (rest : List ℕ) → frame_fault order count place rest ≡ None
    → 16 ≤ length rest → (count ≡ 16777216 → ⊥) × (number_in_order order 4 8 rest ≤ 262144)
unfolding frame_fault
reader_step_at_right_frame order count place rest none header =
    let some : ltb 0 (length rest) ≡ true = lt-ltb 0 (length rest) (omega arith) in
    let past : ltb (length rest) 16 ≡ false = le-ltb (length rest) 16 header in
    let first = rw some at none in
    elim (cases_Bool (eqb count 16777216)) [
      | inl full ↦ absurd (let wrong = rw full at first in cc)
      | inr room ↦ let second = rw (room, past) at first in elim (cases_Bool (ltb 262144 (number_in_order order 4 8 rest))) [
        | inl long ↦ absurd (let wrong = rw long at second in cc)
        | inr fits ↦ (eqb-false count 16777216 room, ltb-false 262144 _ fits)
      ]
    ]

-- a byte after as many frames as the limit allows is a fault
pub reader_step_past_limit : (order : FileOrder) (count place : ℕ) (rest : List ℕ)
    → frame_fault order count place rest ≡ None → count ≡ 16777216 → 0 < length rest → ⊥
unfolding frame_fault
reader_step_past_limit order count place rest none full some =
    let first = rw (lt-ltb 0 (length rest) some, eq-eqb count 16777216 full) at none in cc

-- the number of bytes that a frame needs is bounded if it shows no fault
pub bytes_needed-reader_step_bound : (order : FileOrder) (count place : ℕ) (rest : List ℕ) → frame_fault order count place rest ≡ None
    → bytes_needed order rest ≤ 262160
bytes_needed-reader_step_bound order count place rest none = elim (cases_lt (length rest) 16) [
  | inl short ↦ omega (arith, bytes_needed-begins_part_of_frame order rest short)
  | inr past ↦ omega (arith, bytes_needed-begins_frame_header order rest past, (reader_step_at_right_frame order count place rest none past).1)
]

-- a frame of which no byte is kept needs its header
pub bytes_needed-empty_reader_step : (order : FileOrder) (rest : List ℕ) → rest ≡ [] → bytes_needed order rest ≡ 16
bytes_needed-empty_reader_step order rest none = bytes_needed-begins_part_of_frame order rest (omega (arith, ap length none))

-- a frame needs no fewer bytes when more of it arrived
pub bytes_needed-reader_step_grows : (order : FileOrder) (kept front now : List ℕ) → now ≡ take 58 (kept ++ front)
    → bytes_needed order kept ≤ bytes_needed order now
bytes_needed-reader_step_grows order kept front now is =
    let same : bytes_needed order now ≡ bytes_needed order (kept ++ front) =
    ap (bytes_needed order) is ∙ bytes_needed-reader_step_front order (kept ++ front) in
    elim (cases_lt (length kept) 16) [
      | inl short ↦ omega (arith, bytes_needed-begins_part_of_frame order kept short, frame_that_begins_needs_header order now)
      | inr past ↦
          let longer : 16 ≤ length (kept ++ front) = omega (arith, length-append kept front) in
          omega (
            arith,
            bytes_needed-begins_frame_header order kept past,
            bytes_needed-begins_frame_header order (kept ++ front) longer,
            number_in_order-in_longer_file order 4 8 kept front (omega arith),
          )
    ]

-- the kept bytes of a whole frame contain its header and its head
pub reader_step_held_frame_fits : (order : FileOrder) (count place came : ℕ) (now : List ℕ) → frame_fault order count place now ≡ None
    → length now ≡ min 58 came → bytes_needed order now ≤ came
    → (16 ≤ length now) × (number_in_order order 4 8 now ≤ 262144) × (16 + min 42 (number_in_order order 4 8 now) ≤ length now)
reader_step_held_frame_fits order count place came now none size whole =
    let past : 16 ≤ length now = omega (arith, frame_that_begins_needs_header order now) in
    let right = reader_step_at_right_frame order count place now none past in
    (past, right.1, omega (arith, bytes_needed-begins_frame_header order now past))

-- no bytes show no fault
pub frame_fault-empty_reader_step : (order : FileOrder) (count place : ℕ) → frame_fault order count place [] ≡ None
unfolding frame_fault
frame_fault-empty_reader_step order count place = refl

-- ---- steps in the file header

-- a new reader represents no bytes
pub reader_before_first_step : Represents (InHeader []) [] []
unfolding header_fault
reader_before_first_step = record { kept_is = refl; short = omega arith; none_shown = refl; no_frame = refl }

-- the front of the header that is kept is all of it
reader_step_keeps_all : (kept front now : List ℕ) → now ≡ take 58 (kept ++ front) → length kept + length front ≤ 24
    → now ≡ kept ++ front
reader_step_keeps_all kept front now is fits = is ∙ take_all 58 (kept ++ front) (omega (arith, length-append kept front))

-- still less than a header
pub reader_step_in_header : (kept front now : List ℕ) → now ≡ take 58 (kept ++ front) → length kept + length front < 24
    → header_fault now ≡ None → Advances Represents (InHeader kept) (InHeader now) front []
reader_step_in_header kept front now is short none =
    let all : now ≡ kept ++ front = reader_step_keeps_all kept front now is (omega arith) in
    record {
      reads = λ before frames stands.
          let whole : now ≡ before ++ front = all ∙ ap (λ l. l ++ front) stands.kept_is in record {
            kept_is = whole;
            short = omega (arith, short, ap length stands.kept_is, length-append before front);
            none_shown = subst (λ l. header_fault l ≡ None) whole none;
            no_frame = append-nil frames ∙ stands.no_frame;
          };
    }

-- the header shows a fault
pub reader_step_to_header_fault : (kept front now : List ℕ) (fault : CaptureFault) → now ≡ take 58 (kept ++ front)
    → length kept + length front ≤ 24 → header_fault now ≡ Some fault
    → Advances Represents (InHeader kept) (AtFault fault) front []
reader_step_to_header_fault kept front now fault is fits shown =
    let all : now ≡ kept ++ front = reader_step_keeps_all kept front now is fits in
    record {
      reads = λ before frames stands. inl (record {
        shown = subst (λ l. header_fault l ≡ Some fault) (all ∙ ap (λ l. l ++ front) stands.kept_is) shown;
        none_before = append-nil frames ∙ stands.no_frame;
      });
    }

-- the place after the header
abbrev pub reader_step_first_place : FileOrder → FramePlace
reader_step_first_place order = record { order = order; count = 0; place = 24; kept = []; came = 0 }

-- the header is whole
pub reader_step_ends_header : (kept front now : List ℕ) (order : FileOrder) → now ≡ take 58 (kept ++ front)
    → length kept + length front ≡ 24 → header_fault now ≡ None → order_of_magic now ≡ Some order
    → Advances Represents (InHeader kept) (InFrames (reader_step_first_place order)) front []
reader_step_ends_header kept front now order is whole none magic =
    let all : now ≡ kept ++ front = reader_step_keeps_all kept front now is (omega arith) in
    record {
      reads = λ before frames stands.
          let same : now ≡ before ++ front = all ∙ ap (λ l. l ++ front) stands.kept_is in
          let size : length (before ++ front) ≡ 24 =
          omega (arith, ap length stands.kept_is, length-append before front) in
          let header : IsHeader order (before ++ front) =
          file_header_of_magic_order order (before ++ front) (omega arith) (subst (λ l. header_fault l ≡ None) same none)
          (subst (λ l. order_of_magic l ≡ Some order) same magic) in
          subst (IsBehind (reader_step_first_place order) (before ++ front)) (sym (append-nil frames ∙ stands.no_frame)) (record {
            rest = [];
            splits = record {
              header = header;
              begins = sym (drop_all 24 (before ++ front) (omega arith));
              limit = omega arith;
            };
            none_shown = frame_fault-empty_reader_step order 0 24;
            cut = omega (arith, frame_that_begins_needs_header order []);
            count_is = refl;
            place_is = omega arith;
            kept_is = refl;
            came_is = refl;
          });
    }

-- ---- steps after some frames

-- the first bytes of the rest, after more of it arrived
reader_step_keeps_more : (at : FramePlace) (before front now : List ℕ) (frames : List FrameValue)
    (stands : IsBehind at before frames) → now ≡ take 58 (at.kept ++ front) → now ≡ take 58 (stands.rest ++ front)
reader_step_keeps_more at before front now frames stands is =
    is ∙ ap (λ l. take 58 (l ++ front)) stands.kept_is ∙ reader_step_front_grows 58 stands.rest front

-- more of a frame arrived, and it isn't whole
reader_step_part_so_far : (at : FramePlace) (front now : List ℕ) → now ≡ take 58 (at.kept ++ front)
    → frame_fault at.order at.count at.place now ≡ None → at.came + length front < bytes_needed at.order now
    → Advances Represents (InFrames at) (InFrames (record at { kept = now; came = at.came + length front })) front []
reader_step_part_so_far at front now is none cut = record {
  reads = λ before frames stands.
      let same : now ≡ take 58 (stands.rest ++ front) = reader_step_keeps_more at before front now frames stands is in
      subst (IsBehind (record at { kept = now; came = at.came + length front }) (before ++ front))
      (sym (append-nil frames)) (record {
        rest = stands.rest ++ front;
        splits = SplitsCapture-longer_file before front at.order frames stands.rest stands.splits;
        none_shown =
            sym (frame_fault-reader_step_front at.order at.count at.place (stands.rest ++ front))
            ∙ sym (ap (frame_fault at.order at.count at.place) same) ∙ none;
        cut =
            omega (
              arith,
              cut,
              ap (bytes_needed at.order) same,
              bytes_needed-reader_step_front at.order (stands.rest ++ front),
              stands.came_is,
              length-append stands.rest front,
            );
        count_is = stands.count_is;
        place_is = omega (arith, stands.place_is, length-append stands.rest front, length-append before front);
        kept_is = same;
        came_is = omega (arith, stands.came_is, length-append stands.rest front);
      });
}

-- the same, by how many bytes came
pub reader_step_in_frame : (at : FramePlace) (front now : List ℕ) (total : ℕ) → now ≡ take 58 (at.kept ++ front)
    → total ≡ at.came + length front → frame_fault at.order at.count at.place now ≡ None
    → total < bytes_needed at.order now
    → Advances Represents (InFrames at) (InFrames (record at { kept = now; came = total })) front []
reader_step_in_frame at front now total is sum none cut =
    subst (λ n. Advances Represents (InFrames at) (InFrames (record at { kept = now; came = n })) front []) (sym sum)
    (reader_step_part_so_far at front now is none (omega arith))

-- the rest shows a fault
pub reader_step_to_frame_fault : (at : FramePlace) (front now : List ℕ) (fault : CaptureFault) → now ≡ take 58 (at.kept ++ front)
    → frame_fault at.order at.count at.place now ≡ Some fault → Advances Represents (InFrames at) (AtFault fault) front []
reader_step_to_frame_fault at front now fault is shown = record {
  reads = λ before frames stands.
      let same : now ≡ take 58 (stands.rest ++ front) = reader_step_keeps_more at before front now frames stands is in
      let place : at.place ≡ length (before ++ front) - length (stands.rest ++ front) =
      omega (arith, stands.place_is, length-append stands.rest front, length-append before front) in
      let here : frame_fault at.order at.count at.place (stands.rest ++ front) ≡ Some fault =
      sym (frame_fault-reader_step_front at.order at.count at.place (stands.rest ++ front))
      ∙ sym (ap (frame_fault at.order at.count at.place) same) ∙ shown in
      subst (λ l. ShowsFault (before ++ front) l fault) (sym (append-nil frames)) (inr (record {
        order = at.order;
        rest = stands.rest ++ front;
        splits = SplitsCapture-longer_file before front at.order frames stands.rest stands.splits;
        shown =
            subst (λ p. frame_fault at.order (length frames) p (stands.rest ++ front) ≡ Some fault) place
            (subst (λ n. frame_fault at.order n at.place (stands.rest ++ front) ≡ Some fault) stands.count_is
            here);
      }));
}

-- the place after one more frame, of this many bytes
abbrev pub reader_step_next_place : FramePlace → ℕ → FramePlace
reader_step_next_place at size = record { order = at.order; count = at.count + 1; place = at.place + size; kept = []; came = 0 }

-- the rest is one frame
reader_step_one_frame : (at : FramePlace) (before front : List ℕ) (frames : List FrameValue)
    (stands : IsBehind at before frames)
    → BeginsWithFrame at.order (stands.rest ++ front) (frame_at at.order (stands.rest ++ front))
    → length (stands.rest ++ front) ≡ 16 + number_in_order at.order 4 8 (stands.rest ++ front) → (at.count ≡ 16777216 → ⊥)
    → IsBehind (reader_step_next_place at (length (stands.rest ++ front))) (before ++ front)
    (frames ++ frame_at at.order (stands.rest ++ front) ∷ [])
reader_step_one_frame at before front frames stands begins size room =
    let rest = stands.rest ++ front in
    let splits = SplitsCapture-longer_file before front at.order frames stands.rest stands.splits in
    let none : drop (16 + number_in_order at.order 4 8 (stands.rest ++ front)) (stands.rest ++ front) ≡ [] =
    drop_all _ (stands.rest ++ front) (omega arith) in record {
      rest = [];
      splits = record {
        header = splits.header;
        begins =
            subst (BeginsWithFrames at.order (drop 24 (before ++ front))
            (frames ++ frame_at at.order (stands.rest ++ front) ∷ [])) none
            (BeginsWithFrames-more at.order (drop 24 (before ++ front)) frames (stands.rest ++ front) _ splits.begins
            begins);
        limit =
            omega (
              arith,
              stands.splits.limit,
              stands.count_is,
              length-append frames (frame_at at.order (stands.rest ++ front) ∷ []),
            );
      };
      none_shown = frame_fault-empty_reader_step at.order _ _;
      cut = omega (arith, frame_that_begins_needs_header at.order []);
      count_is = omega (arith, stands.count_is, length-append frames (frame_at at.order (stands.rest ++ front) ∷ []));
      place_is = omega (arith, stands.place_is, length-append stands.rest front, length-append before front);
      kept_is = refl;
      came_is = refl;
    }

-- the kept frame is whole
reader_step_whole_so_far : (at : FramePlace) (front now : List ℕ) → now ≡ take 58 (at.kept ++ front)
    → frame_fault at.order at.count at.place now ≡ None → 16 ≤ at.came + length front
    → at.came + length front ≡ bytes_needed at.order now
    → Advances Represents (InFrames at) (InFrames (reader_step_next_place at (at.came + length front))) front (frame_at at.order now ∷ [])
reader_step_whole_so_far at front now is none header size = record {
  reads = λ before frames stands.
      let same : now ≡ take 58 (stands.rest ++ front) = reader_step_keeps_more at before front now frames stands is in
      let here : frame_fault at.order at.count at.place (stands.rest ++ front) ≡ None =
      sym (frame_fault-reader_step_front at.order at.count at.place (stands.rest ++ front))
      ∙ sym (ap (frame_fault at.order at.count at.place) same) ∙ none in
      let came : at.came + length front ≡ length (stands.rest ++ front) =
      omega (arith, stands.came_is, length-append stands.rest front) in
      let past : 16 ≤ length (stands.rest ++ front) = omega arith in
      let right = reader_step_at_right_frame at.order at.count at.place (stands.rest ++ front) here past in
      let whole : length (stands.rest ++ front) ≡ 16 + number_in_order at.order 4 8 (stands.rest ++ front) =
      sym came ∙ size ∙ ap (bytes_needed at.order) same ∙ bytes_needed-reader_step_front at.order (stands.rest ++ front)
      ∙ bytes_needed-begins_frame_header at.order (stands.rest ++ front) past in
      let begins : BeginsWithFrame at.order (stands.rest ++ front) (frame_at at.order (stands.rest ++ front)) = record {
        header = past;
        is_frame = refl;
        limit = right.1;
        room = omega (arith, whole);
      } in
      let frame_is : frame_at at.order now ≡ frame_at at.order (stands.rest ++ front) =
      ap (frame_at at.order) same ∙ frame_at-reader_step_front at.order (stands.rest ++ front) in
      subst (λ n. IsBehind (reader_step_next_place at n) (before ++ front) (frames ++ frame_at at.order now ∷ [])) (sym came)
      (subst (λ f. IsBehind (reader_step_next_place at (length (stands.rest ++ front))) (before ++ front) (frames ++ f ∷ []))
      (sym frame_is)
      (reader_step_one_frame at before front frames stands begins whole right.0));
}

-- the same, by how many bytes came
pub reader_step_ends_frame : (at : FramePlace) (front now : List ℕ) (total size : ℕ) → now ≡ take 58 (at.kept ++ front)
    → total ≡ at.came + length front → frame_fault at.order at.count at.place now ≡ None
    → total ≡ bytes_needed at.order now → size ≡ bytes_needed at.order now
    → Advances Represents (InFrames at) (InFrames (reader_step_next_place at size)) front (frame_at at.order now ∷ [])
reader_step_ends_frame at front now total size is sum none whole is_size =
    subst (λ n. Advances Represents (InFrames at) (InFrames (reader_step_next_place at n)) front (frame_at at.order now ∷ []))
    (sym sum ∙ whole ∙ sym is_size)
    (reader_step_whole_so_far at front now is none (omega (arith, frame_that_begins_needs_header at.order now)) (sym sum ∙ whole))

-- the whole frame is in the piece, and no byte of it arrived before
reader_step_frame_in_piece : (at : FramePlace) (front : List ℕ) → at.came ≡ 0 → at.kept ≡ [] → at.count < 16777216
    → 16 ≤ length front → number_in_order at.order 4 8 front ≤ 262144 → length front ≡ 16 + number_in_order at.order 4 8 front
    → Advances Represents (InFrames at) (InFrames (reader_step_next_place at (length front))) front (frame_at at.order front ∷ [])
reader_step_frame_in_piece at front none empty room past fits whole = record {
  reads = λ before frames stands.
      let nothing : stands.rest ≡ [] = nil_from_length stands.rest (sym stands.came_is ∙ none) in
      let same : stands.rest ++ front ≡ front = ap (λ l. l ++ front) nothing in
      let begins : BeginsWithFrame at.order front (frame_at at.order front) = record {
        header = past;
        is_frame = refl;
        limit = fits;
        room = omega (arith, whole);
      } in
      subst (λ l. IsBehind (reader_step_next_place at (length l)) (before ++ front) (frames ++ frame_at at.order l ∷ [])) same
      (reader_step_one_frame at before front frames stands
      (subst (λ l. BeginsWithFrame at.order l (frame_at at.order l)) (sym same) begins)
      (subst (λ l. length l ≡ 16 + number_in_order at.order 4 8 l) (sym same) whole) (λ full. omega arith));
}

-- the same, as a step over the piece
pub reader_step_frame_at_front : (at : FramePlace) (piece rest : List ℕ) (frame : FrameValue) (size : ℕ)
    → SplitsFrame at.order piece rest frame → at.came ≡ 0 → at.kept ≡ [] → at.count < 16777216
    → size ≡ length piece - length rest
    → StepTakes Represents (InFrames at) (InFrames (record at { count = at.count + 1; place = at.place + size })) piece rest
    (frame ∷ [])
reader_step_frame_at_front at piece rest frame size splits none empty room is_size =
    let front_is : length splits.front ≡ size =
    omega (arith, ap length splits.joined, length-append splits.front rest) in
    let step = reader_step_frame_in_piece at splits.front none empty room splits.header splits.limit splits.whole in
    let kept =
    subst (λ l.
    Advances Represents (InFrames at)
    (InFrames (record {
      order = at.order;
      count = at.count + 1;
      place = at.place + length splits.front;
      kept = l;
      came = 0;
    })) splits.front (frame_at at.order splits.front ∷ [])) (sym empty) step in
    let came =
    subst (λ n.
    Advances Represents (InFrames at)
    (InFrames (record {
      order = at.order;
      count = at.count + 1;
      place = at.place + length splits.front;
      kept = at.kept;
      came = n;
    })) splits.front (frame_at at.order splits.front ∷ [])) (sym none) kept in
    let shown = subst (λ f. Advances Represents (InFrames at)
    (InFrames (record at { count = at.count + 1; place = at.place + length splits.front })) splits.front (f ∷ []))
    (sym splits.frame_is) came in record {
      front = splits.front;
      joined = splits.joined;
      some = omega (arith, splits.header);
      advances =
          subst (λ n.
          Advances Represents (InFrames at) (InFrames (record at { count = at.count + 1; place = at.place + n }))
          splits.front (frame ∷ [])) front_is shown;
    }

-- ---- steps of a reader that has stopped

-- a fault stays
pub reader_step_at_fault : (fault : CaptureFault) (front : List ℕ) → Advances Represents (AtFault fault) (AtFault fault) front []
reader_step_at_fault fault front = record {
  reads = λ before frames stands.
      subst (λ l. ShowsFault (before ++ front) l fault) (sym (append-nil frames))
      (ShowsFault-longer_split_file before front frames fault stands);
}

-- a reader without memory represents no bytes
pub reader_step_without_memory : (front : List ℕ) → Advances Represents LacksMemory LacksMemory front []
reader_step_without_memory front = record { reads = λ before frames stands. absurd stands }

-- a reader that has stopped takes all bytes
pub stopped_reader_step_takes_all : (state : ReaderState) (fault : FeedFault) (piece rest : List ℕ) → frame_reader_stop state ≡ Some fault
    → 0 < length piece → rest ≡ [] → StepTakes Represents state state piece rest []
stopped_reader_step_takes_all (InHeader kept) fault piece rest stopped some none = absurd cc
stopped_reader_step_takes_all (InFrames at) fault piece rest stopped some none = absurd cc
stopped_reader_step_takes_all (AtFault shown) fault piece rest stopped some none =
    record {
      front = piece;
      joined = sym (append-nil piece) ∙ ap (λ l. piece ++ l) (sym none);
      some = some;
      advances = reader_step_at_fault shown piece;
    }
stopped_reader_step_takes_all LacksMemory fault piece rest stopped some none =
    record {
      front = piece;
      joined = sym (append-nil piece) ∙ ap (λ l. piece ++ l) (sym none);
      some = some;
      advances = reader_step_without_memory piece;
    }

-- a reader in the stage at a fault or out of memory has stopped
pub reader_step_stage_has_stopped : (now : Stage) (part : FramePart)
    → ((fault : CaptureFault) × (now ≡ stage.AtFault fault)) ⊎ (now ≡ stage.LacksMemory)
    → (fault : FeedFault) × (frame_reader_stop (state_of_part now part) ≡ Some fault)
reader_step_stage_has_stopped now part (inl (fault, is)) =
    (Refused fault, subst (λ s. frame_reader_stop (state_of_part s part) ≡ Some (Refused fault)) (sym is) refl)
reader_step_stage_has_stopped now part (inr is) =
    (OutOfMemory, subst (λ s. frame_reader_stop (state_of_part s part) ≡ Some OutOfMemory) (sym is) refl)
