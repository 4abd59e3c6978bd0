-- Worked examples of what reading a source returns, and of what its visitor saw: for a capture of one frame, and for
-- the same file without its last byte.
use Rattle.std.proofs.Common.{◌≡◌, [], ◌∷◌, ◌++◌, length, Some, Ok, Err, refl, ap, sym, ◌∙◌, append-nil, arith}
use Rattle.pcap_frames.specs.declared.fault.FaultKind.TheVariants.{CutFrame, LongFrame}
use Rattle.pcap_frames.specs.declared.fault.FeedFault.TheVariants as feed
use Rattle.pcap_frames.specs.declared.fault.ReadRefusal.TheVariants.{Capture, ReadFault, OutOfMemory}
use Rattle.pcap_frames.specs.Header.{header_fault_at}
use Rattle.pcap_frames.specs.CaptureFault.{IsEndFault}
use Rattle.pcap_frames.specs.CaptureFormat.{classic}
use Rattle.pcap_frames.specs.Visitor.{VisitorSees}
use Rattle.pcap_frames.specs.Reading.{refusal_of, ShowsCapture}
use Rattle.pcap_frames.specs.Reading.{ShowsBeforeFault, ShowsFront}
use Rattle.pcap_frames.specs.Reading.{ShowsPart, IsSeen, IsReadingOf}
use Rattle.pcap_frames.proofs.CaptureFileLemmas.{classic_captures_are_decided}
use Rattle.pcap_frames.proofs.Examples.{frame, capture, cut_file, frame_of_three_bytes, header_and_frame}
use Rattle.pcap_frames.proofs.Examples.{fault_of_a_cut_file, cut_file_is_no_capture, capture_has_no_fault}
use Rattle.pcap_frames.proofs.ExamplesOfReaders.{album, cut_file_completes_no_frame, capture_completes_the_frame}

-- the album appended a frame, or nothing
sees_frame : VisitorSees album [] (frame ∷ []) (frame ∷ [])
sees_frame before held = ap (λ frames. frames ++ frame ∷ []) held

sees_nothing : VisitorSees album [] [] []
sees_nothing before held = held ∙ sym (append-nil before)

pub fault_is_passed_on : refusal_of (feed.Refused (header_fault_at CutFrame 24)) ≡ Capture (header_fault_at CutFrame 24)
fault_is_passed_on = refl

pub want_of_memory_is_passed_on : refusal_of feed.OutOfMemory ≡ OutOfMemory
want_of_memory_is_passed_on = refl

pub whole_capture_is_seen : ShowsCapture classic [] album [] (frame ∷ []) (Some capture) (Some []) 1
whole_capture_is_seen = record {
  front = capture;
  frames = frame ∷ [];
  consumed = sym (append-nil capture);
  counted = refl;
  limit = omega arith;
  are_frames = (frame_of_three_bytes, tt);
  sees = sees_frame;
  capture = header_and_frame;
  at_end = refl;
}

-- a capture is not seen before its source is at the end
pub capture_is_seen_at_the_end : ShowsCapture classic [] album [] (frame ∷ []) (Some capture) (Some (9 ∷ [])) 1 → ⊥
capture_is_seen_at_the_end seen = absurd (let none_left : 9 ∷ [] ≡ [] = seen.at_end in cc)

pub nothing_is_seen_of_a_cut_frame : ShowsBeforeFault classic [] album [] [] (Some cut_file) (Some []) (header_fault_at CutFrame 24)
nothing_is_seen_of_a_cut_frame = record {
  front = cut_file;
  frames = [];
  consumed = sym (append-nil cut_file);
  fault_of_front = fault_of_a_cut_file;
  limit = omega arith;
  are_frames = tt;
  sees = sees_nothing;
  fault_of_file = fault_of_a_cut_file;
  at_end = λ ends. refl;
}

-- whether a frame is cut is not known before the source is at its end
pub cut_frame_is_seen_at_the_end : ShowsBeforeFault classic [] album [] [] (Some (cut_file ++ 9 ∷ [])) (Some (9 ∷ []))
    (header_fault_at CutFrame 24) → ⊥
cut_frame_is_seen_at_the_end seen = absurd (let none_left : 9 ∷ [] ≡ [] = seen.at_end tt in cc)

pub only_the_end_cuts_a_frame : IsEndFault CutFrame × (IsEndFault LongFrame → ⊥)
only_the_end_cuts_a_frame = (tt, λ ends. ends)

-- the call after the one that read the cut file failed
pub front_is_seen : ShowsFront classic [] album [] [] (Some capture) (Some (9 ∷ []))
front_is_seen = record {
  front = cut_file;
  frames = [];
  consumed = refl;
  completes = cut_file_completes_no_frame;
  are_frames = tt;
  sees = sees_nothing;
}

-- the whole capture was read, but memory ran out for its frame
pub part_is_seen : ShowsPart classic [] album [] [] (Some capture) (Some [])
part_is_seen = record {
  front = capture;
  all = frame ∷ [];
  frames = [];
  consumed = sym (append-nil capture);
  completes = capture_completes_the_frame;
  begins = (frame ∷ [], refl);
  are_frames = tt;
  sees = sees_nothing;
}

pub seen_at_each_answer : IsSeen classic [] album [] (frame ∷ []) (Some capture) (Some []) (Ok 1)
    × IsSeen classic [] album [] [] (Some cut_file) (Some []) (Err (Capture (header_fault_at CutFrame 24)))
    × IsSeen classic [] album [] [] (Some capture) (Some (9 ∷ [])) (Err ReadFault)
    × IsSeen classic [] album [] [] (Some capture) (Some []) (Err OutOfMemory)
seen_at_each_answer = (whole_capture_is_seen, nothing_is_seen_of_a_cut_frame, front_is_seen, part_is_seen)

pub capture_is_read : IsReadingOf classic capture (Ok 1)
capture_is_read = ((frame ∷ [], header_and_frame, refl), capture_has_no_fault)

pub count_is_of_frames : IsReadingOf classic capture (Ok 2) → ⊥
count_is_of_frames ((frames, is, counted), none) =
    let same : frames ≡ frame ∷ [] = classic_captures_are_decided.one_list capture (frame ∷ []) frames header_and_frame is in
    omega (arith, counted, ap length same)

pub cut_file_is_refused : IsReadingOf classic cut_file (Err (Capture (header_fault_at CutFrame 24)))
cut_file_is_refused = (([], fault_of_a_cut_file), cut_file_is_no_capture)

pub cut_file_is_not_read : IsReadingOf classic cut_file (Ok 0) → ⊥
cut_file_is_not_read (read, none) = none (header_fault_at CutFrame 24) ([], fault_of_a_cut_file)
