-- Every file is a capture or has one first fault, and every front of a file completes one list of frames.
use Rattle.std.proofs.Common.{ℕ, zero, suc, ◌≡◌, ◌+◌, ◌-◌, ◌≤◌, ◌<◌, ltb, eqb, cond, Option, Some, None, List, []}
use Rattle.std.proofs.Common.{◌∷◌, ◌++◌, length, take, drop, refl, sym, ap, ◌∙◌, arith, length-append, length-drop}
use Rattle.std.proofs.Common.{subst, inl, inr, ◌⊎◌, append-nil, unwrap_or}
use Rattle.std.proofs.lemmas.Bool.{ltb-true, lt-ltb, eqb-true, cases_Bool, cases_lt}
use Rattle.std.proofs.lemmas.List.{nil_from_length}
use Rattle.pcap_frames.specs.declared.file_order.FileOrder.{FileOrder}
use Rattle.pcap_frames.specs.declared.fault.CaptureFault.{CaptureFault}
use Rattle.pcap_frames.specs.declared.fault.FaultKind.TheVariants.{ShortHeader, CutFrame}
use Rattle.pcap_frames.specs.FileOrder.{number_in_order}
use Rattle.pcap_frames.specs.Frame.{FrameValue}
use Rattle.pcap_frames.specs.Header.{IsHeader, header_fault, header_fault_at}
use Rattle.pcap_frames.specs.Frame.{frame_at, BeginsWithFrame, BeginsWithFrames, bytes_needed, frame_fault}
use Rattle.pcap_frames.specs.Capture.{SplitsCapture, IsCapture}
use Rattle.pcap_frames.specs.CaptureFormat.{classic, HasFault}
use Rattle.pcap_frames.specs.CaptureFault.{ShowsFault, HasFaultAfter}
use Rattle.pcap_frames.specs.FrameReader.{FramePlace, ReaderState, InHeader, InFrames, AtFault, LacksMemory}
use Rattle.pcap_frames.specs.FrameReader.{IsInHeader, IsBehind, Represents, frame_reader_stop}
use Rattle.pcap_frames.proofs.FileHeaderLemmas.{file_header_shows_no_fault, file_header_is_whole}
use Rattle.pcap_frames.proofs.FileHeaderLemmas.{IsHeader-in_longer_file}
use Rattle.pcap_frames.proofs.BeginsFrameLemmas.{bytes_needed-where_frame_begins}
use Rattle.pcap_frames.proofs.BeginsFrameLemmas.{bytes_needed-begins_part_of_frame}
use Rattle.pcap_frames.proofs.BeginsFrameLemmas.{bytes_needed-begins_frame_header, frame_that_begins_needs_header}
use Rattle.pcap_frames.proofs.BeginsFrameLemmas.{BeginsWithFrames-shorter}
use Rattle.pcap_frames.proofs.FileSplitLemmas.{SplitsCapture-longer_file, IsLastFileSplit, last_file_split_begins}
use Rattle.pcap_frames.proofs.FileSplitLemmas.{last_file_split_is_one}
use Rattle.pcap_frames.proofs.ReaderStepLemmas.{frame_fault-empty_reader_step, reader_step_at_right_frame}
use Rattle.pcap_frames.proofs.ReaderStepLemmas.{reader_step_past_limit}

-- ---- where bytes end

-- there is no whole and correct header
pub record NoHeaderAtFirstFault (bytes : List ℕ) (frames : List FrameValue) : Type 0 where
  pub none : (order : FileOrder) → IsHeader order bytes → ⊥
  pub no_frame : frames ≡ []

-- a header and as many frames as there are
pub record FramesToFirstFault (bytes : List ℕ) (frames : List FrameValue) : Type 0 where
  pub order : FileOrder
  pub rest : List ℕ
  pub splits : SplitsCapture bytes order frames rest
  pub is_last : IsLastFileSplit order 16777216 frames rest

abbrev pub ReachesFirstFault : List ℕ → List FrameValue → Type 0
ReachesFirstFault bytes frames = NoHeaderAtFirstFault bytes frames ⊎ FramesToFirstFault bytes frames

-- where a fault is shown no frame begins, or there are as many frames as the limit allows
no_frame_behind_first_fault : (order : FileOrder) (count place : ℕ) (rest : List ℕ) (fault : CaptureFault)
    → frame_fault order count place rest ≡ Some fault
    → ((frame : FrameValue) → BeginsWithFrame order rest frame → ⊥) ⊎ (16777216 ≤ count)
unfolding frame_fault
no_frame_behind_first_fault order count place rest fault shown = elim (cases_Bool (ltb 0 (length rest))) [
  | inr none ↦ absurd (let wrong = rw none at shown in cc)
  | inl some ↦ let first = rw some at shown in elim (cases_Bool (eqb count 16777216)) [
    | inl full ↦ inr (omega (arith, eqb-true count 16777216 full))
    | inr room ↦ let second = rw room at first in elim (cases_Bool (ltb (length rest) 16)) [
      | inl short ↦ absurd (let wrong = rw short at second in cc)
      | inr past ↦ let third = rw past at second in elim (cases_Bool (ltb 262144 (number_in_order order 4 8 rest))) [
        | inr fits ↦ absurd (let wrong = rw fits at third in cc)
        | inl long ↦
            inl (λ frame begins.
            omega (arith, ltb-true 262144 _ long, begins.limit, ap (λ f. f.captured) begins.is_frame))
      ]
    ]
  ]
]

-- no frame begins a rest that needs more bytes
cut_frame_is_first_fault : (order : FileOrder) (rest : List ℕ) → length rest < bytes_needed order rest → (frame : FrameValue)
    → BeginsWithFrame order rest frame → ⊥
cut_frame_is_first_fault order rest cut frame begins = omega (arith, bytes_needed-where_frame_begins order rest frame begins)

-- a header that shows a fault isn't correct
first_fault_refutes_header : (bytes : List ℕ) (fault : CaptureFault) → header_fault bytes ≡ Some fault → (order : FileOrder)
    → IsHeader order bytes → ⊥
first_fault_refutes_header bytes fault shown order header = let right = file_header_shows_no_fault order bytes header in cc

pub shown_reaches_first_fault : (bytes : List ℕ) (frames : List FrameValue) (fault : CaptureFault) → ShowsFault bytes frames fault
    → ReachesFirstFault bytes frames
shown_reaches_first_fault bytes frames fault (inl shows) =
    inl (record { none = first_fault_refutes_header bytes fault shows.shown; no_frame = shows.none_before })
shown_reaches_first_fault bytes frames fault (inr shows) =
    inr (record {
      order = shows.order;
      rest = shows.rest;
      splits = shows.splits;
      is_last = no_frame_behind_first_fault shows.order (length frames) _ shows.rest fault shows.shown;
    })

-- two whole headers of one file have one order
one_order_to_first_fault : (bytes : List ℕ) (order other : FileOrder) → IsHeader order bytes → IsHeader other bytes → other ≡ order
one_order_to_first_fault bytes order other here there = let first = here.magic in let second = there.magic in cc

-- the frames at a front of a file begin those of the file
pub frames_before_first_fault_begin : (front more : List ℕ) (frames others : List FrameValue) → ReachesFirstFault front frames
    → ReachesFirstFault (front ++ more) others → (rest : List FrameValue) × (others ≡ frames ++ rest)
frames_before_first_fault_begin front more frames others (inl none) there = (others, ap (λ l. l ++ others) (sym none.no_frame))
frames_before_first_fault_begin front more frames others (inr here) (inl none) =
    absurd (none.none here.order (IsHeader-in_longer_file here.order front more here.splits.header))
frames_before_first_fault_begin front more frames others (inr here) (inr there) =
    let longer = SplitsCapture-longer_file front more here.order frames here.rest here.splits in
    let same : there.order ≡ here.order =
    one_order_to_first_fault (front ++ more) here.order there.order longer.header there.splits.header in
    let begins = last_file_split_begins here.order (drop 24 (front ++ more)) 16777216 frames others (here.rest ++ more)
    there.rest longer.begins
    (subst (λ order. BeginsWithFrames order (drop 24 (front ++ more)) others there.rest) same there.splits.begins)
    longer.limit
    (subst (λ order. IsLastFileSplit order 16777216 others there.rest) same there.is_last) in
    (begins.0, begins.1)

-- a file ends in one list of frames
pub frames_before_first_fault_agree : (bytes : List ℕ) (frames others : List FrameValue) → ReachesFirstFault bytes frames → ReachesFirstFault bytes others
    → others ≡ frames
frames_before_first_fault_agree bytes frames others here there =
    let more = frames_before_first_fault_begin bytes [] frames others here (subst (λ l. ReachesFirstFault l others) (sym (append-nil bytes)) there) in
    let less = frames_before_first_fault_begin bytes [] others frames there (subst (λ l. ReachesFirstFault l frames) (sym (append-nil bytes)) here) in
    let longer : length others ≡ length frames + length more.0 = ap length more.1 ∙ length-append frames more.0 in
    let shorter : length frames ≡ length others + length less.0 = ap length less.1 ∙ length-append others less.0 in
    let none : more.0 ≡ [] = nil_from_length more.0 (omega arith) in
    more.1 ∙ ap (λ l. frames ++ l) none ∙ append-nil frames

-- ---- the one verdict on a file

first_fault_of_two : Option CaptureFault → Option CaptureFault → Option CaptureFault
first_fault_of_two None other = other
first_fault_of_two (Some fault) other = Some fault

first_fault_of_header : List ℕ → CaptureFault
first_fault_of_header file = unwrap_or (header_fault file) (header_fault_at ShortHeader (length file))

first_fault_of_rest : FileOrder → ℕ → ℕ → List ℕ → Option CaptureFault
first_fault_of_rest order count place rest =
    first_fault_of_two (frame_fault order count place rest) (cond (ltb 0 (length rest)) (Some (header_fault_at CutFrame place)) None)

-- the fault of the file, or none
IsFirstFaultOrNone : List ℕ → List FrameValue → Option CaptureFault → Type 0
IsFirstFaultOrNone file frames verdict =
    (NoHeaderAtFirstFault file frames × (verdict ≡ Some (first_fault_of_header file)))
    ⊎ ((last : FramesToFirstFault file frames)
    × (verdict ≡ first_fault_of_rest last.order (length frames) (length file - length last.rest) last.rest))

capture_first_fault_is_none : (file : List ℕ) (frames : List FrameValue) → IsCapture file frames → IsFirstFaultOrNone file frames None
unfolding IsFirstFaultOrNone first_fault_of_rest first_fault_of_two
capture_first_fault_is_none file frames (order, splits) =
    inr (
      record {
        order = order;
        rest = [];
        splits = splits;
        is_last = inl (λ frame begins. omega (arith, begins.header));
      },
      rw (frame_fault-empty_reader_step order (length frames) (length file - 0)) refl,
    )

faulty_file_has_first_fault : (file : List ℕ) (frames : List FrameValue) (fault : CaptureFault) → HasFaultAfter file frames fault
    → IsFirstFaultOrNone file frames (Some fault)
unfolding IsFirstFaultOrNone first_fault_of_rest first_fault_of_two first_fault_of_header
faulty_file_has_first_fault file frames fault (inl (inl shows)) =
    inl (record { none = first_fault_refutes_header file fault shows.shown; no_frame = shows.none_before }, rw shows.shown refl)
faulty_file_has_first_fault file frames fault (inl (inr shows)) =
    inr (
      record {
        order = shows.order;
        rest = shows.rest;
        splits = shows.splits;
        is_last = no_frame_behind_first_fault shows.order (length frames) _ shows.rest fault shows.shown;
      },
      rw shows.shown refl,
    )
faulty_file_has_first_fault file frames fault (inr (inl ends)) =
    inl (
      record { none = λ order header. omega (arith, ends.short, header.whole); no_frame = ends.none_before },
      rw ends.none_shown (ap Some ends.is_fault),
    )
faulty_file_has_first_fault file frames fault (inr (inr ends)) =
    inr (
      record {
        order = ends.order;
        rest = ends.rest;
        splits = ends.splits;
        is_last = inl (cut_frame_is_first_fault ends.order ends.rest ends.cut);
      },
      rw (ends.none_shown, lt-ltb 0 (length ends.rest) ends.some_left) (ap Some ends.is_fault),
    )

one_rest_at_first_fault : (file : List ℕ) (frames others : List FrameValue) (here : FramesToFirstFault file frames)
    (there : FramesToFirstFault file others) → others ≡ frames → (there.order ≡ here.order) × (there.rest ≡ here.rest)
one_rest_at_first_fault file frames others here there same =
    let order : there.order ≡ here.order =
    one_order_to_first_fault file here.order there.order here.splits.header there.splits.header in
    let one = last_file_split_is_one here.order (drop 24 file) 16777216 frames others here.rest there.rest here.splits.begins
    (subst (λ o. BeginsWithFrames o (drop 24 file) others there.rest) order there.splits.begins) here.splits.limit
    there.splits.limit here.is_last
    (subst (λ o. IsLastFileSplit o 16777216 others there.rest) order there.is_last) in
    (order, one.1)

first_fault_is_reached : (file : List ℕ) (frames : List FrameValue) (verdict : Option CaptureFault)
    → IsFirstFaultOrNone file frames verdict → ReachesFirstFault file frames
unfolding IsFirstFaultOrNone
first_fault_is_reached file frames verdict (inl none) = inl none.0
first_fault_is_reached file frames verdict (inr last) = inr last.0

one_first_fault_or_none : (file : List ℕ) (frames others : List FrameValue) (verdict other : Option CaptureFault)
    → IsFirstFaultOrNone file frames verdict → IsFirstFaultOrNone file others other → other ≡ verdict
unfolding IsFirstFaultOrNone
one_first_fault_or_none file frames others verdict other (inl none) (inl none_too) = none_too.1 ∙ sym none.1
one_first_fault_or_none file frames others verdict other (inl none) (inr last) =
    absurd (none.0.none last.0.order last.0.splits.header)
one_first_fault_or_none file frames others verdict other (inr last) (inl none) =
    absurd (none.0.none last.0.order last.0.splits.header)
one_first_fault_or_none file frames others verdict other (inr last) (inr last_too) =
    let same : others ≡ frames = frames_before_first_fault_agree file frames others (inr last.0) (inr last_too.0) in
    let one = one_rest_at_first_fault file frames others last.0 last_too.0 same in
    last_too.1 ∙ (rw (one.0, one.1, same) refl) ∙ sym last.1

-- less than a header that shows nothing wrong shows no fault
part_shows_no_first_fault : (kept bytes : List ℕ) (frames others : List FrameValue) (fault : CaptureFault)
    → IsInHeader kept bytes frames → ShowsFault bytes others fault → ⊥
part_shows_no_first_fault kept bytes frames others fault stands (inl shows) =
    let none = stands.none_shown in let some = shows.shown in cc
part_shows_no_first_fault kept bytes frames others fault stands (inr shows) =
    let header = shows.splits.header in omega (arith, stands.short, header.whole)

-- less than a frame that shows nothing wrong shows no fault
behind_shows_no_first_fault : (at : FramePlace) (bytes : List ℕ) (frames others : List FrameValue) (fault : CaptureFault)
    → IsBehind at bytes frames → ShowsFault bytes others fault → ⊥
behind_shows_no_first_fault at bytes frames others fault stands (inl shows) =
    first_fault_refutes_header bytes fault shows.shown at.order stands.splits.header
behind_shows_no_first_fault at bytes frames others fault stands (inr shows) =
    let here : FramesToFirstFault bytes frames = record {
      order = at.order;
      rest = stands.rest;
      splits = stands.splits;
      is_last = inl (cut_frame_is_first_fault at.order stands.rest stands.cut);
    } in
    let there : FramesToFirstFault bytes others = record {
      order = shows.order;
      rest = shows.rest;
      splits = shows.splits;
      is_last = no_frame_behind_first_fault shows.order (length others) _ shows.rest fault shows.shown;
    } in
    let same : others ≡ frames = frames_before_first_fault_agree bytes frames others (inr here) (inr there) in
    let one = one_rest_at_first_fault bytes frames others here there same in
    let place : length bytes - length stands.rest ≡ at.place = omega (arith, stands.place_is) in
    let shown = rw (one.0, one.1, same, ← stands.count_is, place) at shows.shown in
    let none = stands.none_shown in cc

-- a reader that goes on represents bytes that show no fault
pub reader_that_goes_on_shows_no_first_fault : (state : ReaderState) (bytes : List ℕ) (frames others : List FrameValue) (fault : CaptureFault)
    → Represents state bytes frames → frame_reader_stop state ≡ None → ShowsFault bytes others fault → ⊥
reader_that_goes_on_shows_no_first_fault (InHeader kept) bytes frames others fault stands goes =
    part_shows_no_first_fault kept bytes frames others fault stands
reader_that_goes_on_shows_no_first_fault (InFrames at) bytes frames others fault stands goes =
    behind_shows_no_first_fault at bytes frames others fault stands
reader_that_goes_on_shows_no_first_fault (AtFault shown) bytes frames others fault stands goes = absurd cc
reader_that_goes_on_shows_no_first_fault LacksMemory bytes frames others fault stands goes = absurd stands

-- ---- existence

-- the whole frames at the front of the bytes, up to a limit
pub record FrontToFirstFault (order : FileOrder) (limit : ℕ) (bytes : List ℕ) : Type 0 where
  pub frames : List FrameValue
  pub rest : List ℕ
  pub begins : BeginsWithFrames order bytes frames rest
  pub within : length frames ≤ limit
  pub stuck : (length rest < bytes_needed order rest)
      ⊎ (((16 ≤ length rest) × (262144 < number_in_order order 4 8 rest)) ⊎ (length frames ≡ limit))

front_to_first_fault_grows : (order : FileOrder) (limit : ℕ) (bytes : List ℕ) → BeginsWithFrame order bytes (frame_at order bytes)
    → FrontToFirstFault order limit (drop (16 + number_in_order order 4 8 bytes) bytes) → FrontToFirstFault order (suc limit) bytes
front_to_first_fault_grows order limit bytes begins behind = record {
  frames = frame_at order bytes ∷ behind.frames;
  rest = behind.rest;
  begins = (begins, behind.begins);
  within = omega (arith, behind.within);
  stuck =
      elim behind.stuck [
        | inl cut ↦ inl cut
        | inr other ↦ elim other [ inl long ↦ inr (inl long) | inr full ↦ inr (inr (ap suc full)) ]
      ];
}

front_reaches_first_fault : (order : FileOrder) (limit : ℕ) (bytes : List ℕ) → FrontToFirstFault order limit bytes
front_reaches_first_fault order zero bytes = record {
  frames = [];
  rest = bytes;
  begins = refl;
  within = omega arith;
  stuck = inr (inr refl);
}
front_reaches_first_fault order (suc limit) bytes = elim (cases_lt (length bytes) (bytes_needed order bytes)) [
  | inl cut ↦ record { frames = []; rest = bytes; begins = refl; within = omega arith; stuck = inl cut }
  | inr whole ↦ elim (cases_lt (length bytes) 16) [
    | inl short ↦ absurd (omega (arith, bytes_needed-begins_part_of_frame order bytes short))
    | inr header ↦ elim (cases_lt 262144 (number_in_order order 4 8 bytes)) [
      | inl long ↦ record {
        frames = [];
        rest = bytes;
        begins = refl;
        within = omega arith;
        stuck = inr (inl (header, long));
      }
      | inr fits ↦
          front_to_first_fault_grows order limit bytes
          (record {
            header = header;
            is_frame = refl;
            limit = fits;
            room = omega (arith, bytes_needed-begins_frame_header order bytes header);
          }) (front_reaches_first_fault order limit (drop (16 + number_in_order order 4 8 bytes) bytes))
    ]
  ]
]

-- a rest after the last frame that shows no fault is less than a frame
no_first_fault_means_cut : (order : FileOrder) (count place : ℕ) (rest : List ℕ) → frame_fault order count place rest ≡ None
    → (length rest < bytes_needed order rest)
    ⊎ (((16 ≤ length rest) × (262144 < number_in_order order 4 8 rest)) ⊎ (count ≡ 16777216))
    → length rest < bytes_needed order rest
no_first_fault_means_cut order count place rest none (inl cut) = cut
no_first_fault_means_cut order count place rest none (inr (inl long)) =
    absurd (omega (arith, long.1, (reader_step_at_right_frame order count place rest none long.0).1))
no_first_fault_means_cut order count place rest none (inr (inr full)) = elim (cases_lt 0 (length rest)) [
  | inl some ↦ absurd (reader_step_past_limit order count place rest none full some)
  | inr empty ↦ omega (arith, frame_that_begins_needs_header order rest)
]

-- some reader represents every front of a file
pub fronts_complete_to_first_fault : (bytes : List ℕ) → (frames : List FrameValue) × ((state : ReaderState) × Represents state bytes frames)
fronts_complete_to_first_fault bytes = by_header (header_fault bytes) refl where
  behind : (order : FileOrder) → IsHeader order bytes
      → (front : FrontToFirstFault order 16777216 (drop 24 bytes)) (found : Option CaptureFault)
      → frame_fault order (length front.frames) (length bytes - length front.rest) front.rest ≡ found
      → (frames : List FrameValue) × ((state : ReaderState) × Represents state bytes frames)
  behind order header front (Some fault) is = (
    front.frames,
    (
      AtFault fault,
      inr (record {
        order = order;
        rest = front.rest;
        splits = record { header = header; begins = front.begins; limit = front.within };
        shown = is;
      }),
    ),
  )
  behind order header front None is =
      let shorter = BeginsWithFrames-shorter order (drop 24 bytes) front.frames front.rest front.begins in (
        front.frames,
        (
          InFrames (record {
            order = order;
            count = length front.frames;
            place = length bytes - length front.rest;
            kept = take 58 front.rest;
            came = length front.rest;
          }),
          record {
            rest = front.rest;
            splits = record { header = header; begins = front.begins; limit = front.within };
            none_shown = is;
            cut = no_first_fault_means_cut order (length front.frames) _ front.rest is front.stuck;
            count_is = refl;
            place_is = omega (arith, shorter, length-drop 24 bytes);
            kept_is = refl;
            came_is = refl;
          },
        ),
      )

  by_header : (found : Option CaptureFault) → header_fault bytes ≡ found
      → (frames : List FrameValue) × ((state : ReaderState) × Represents state bytes frames)
  by_header (Some fault) is = ([], (AtFault fault, inl (record { shown = is; none_before = refl })))
  by_header None is = elim (cases_lt (length bytes) 24) [
    | inl short ↦ ([], (InHeader bytes, record { kept_is = refl; short = short; none_shown = is; no_frame = refl }))
    | inr whole ↦
        let header = file_header_is_whole bytes whole is in
        behind header.0 header.1 (front_reaches_first_fault header.0 16777216 (drop 24 bytes)) _ refl
  ]

-- a file that a reader represents is a capture of the frames, or has a fault after them
pub capture_or_first_fault : (state : ReaderState) (file : List ℕ) (frames : List FrameValue) → Represents state file frames
    → IsCapture file frames ⊎ ((fault : CaptureFault) × HasFaultAfter file frames fault)
capture_or_first_fault (InHeader kept) file frames stands =
    inr (
      header_fault_at ShortHeader (length file),
      inr (inl (record {
        none_shown = stands.none_shown;
        short = stands.short;
        none_before = stands.no_frame;
        is_fault = refl;
      })),
    )
capture_or_first_fault (InFrames at) file frames stands = elim (cases_lt 0 (length stands.rest)) [
  | inr empty ↦
      inl (at.order, subst (SplitsCapture file at.order frames) (nil_from_length stands.rest (omega arith)) stands.splits)
  | inl some ↦
      let place : at.place ≡ length file - length stands.rest = omega (arith, stands.place_is) in
      inr (
        header_fault_at CutFrame (length file - length stands.rest),
        inr (inr (record {
          order = at.order;
          rest = stands.rest;
          splits = stands.splits;
          none_shown =
              subst (λ p. frame_fault at.order (length frames) p stands.rest ≡ None) place
              (subst (λ n. frame_fault at.order n at.place stands.rest ≡ None) stands.count_is stands.none_shown);
          some_left = some;
          cut = stands.cut;
          is_fault = refl;
        })),
      )
]
capture_or_first_fault (AtFault fault) file frames stands = inr (fault, inl stands)
capture_or_first_fault LacksMemory file frames stands = absurd stands

-- ---- the laws

pub capture_reaches_first_fault : (file : List ℕ) (frames : List FrameValue) → IsCapture file frames → ReachesFirstFault file frames
capture_reaches_first_fault file frames capture = first_fault_is_reached file frames None (capture_first_fault_is_none file frames capture)

pub frames_reach_first_fault : (file : List ℕ) (frames : List FrameValue) (fault : CaptureFault) → HasFaultAfter file frames fault
    → ReachesFirstFault file frames
frames_reach_first_fault file frames fault first = first_fault_is_reached file frames (Some fault) (faulty_file_has_first_fault file frames fault first)

-- a capture has no fault
pub capture_has_no_first_fault : (file : List ℕ) (frames : List FrameValue) (fault : CaptureFault) → IsCapture file frames
    → HasFault classic file fault → ⊥
capture_has_no_first_fault file frames fault capture (before, first) =
    let same =
    one_first_fault_or_none file frames before None (Some fault) (capture_first_fault_is_none file frames capture)
    (faulty_file_has_first_fault file before fault first) in
    cc

-- a file has one first fault
pub file_has_one_first_fault : (file : List ℕ) (fault other : CaptureFault) → HasFault classic file fault → HasFault classic file other → other ≡ fault
file_has_one_first_fault file fault other (before, first) (before_too, first_too) =
    let same =
    one_first_fault_or_none file before before_too (Some fault) (Some other) (faulty_file_has_first_fault file before fault first)
    (faulty_file_has_first_fault file before_too other first_too) in
    cc
