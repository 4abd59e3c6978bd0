-- Worked examples of what is kept of the frames of a capture: an IPv4 packet, an ARP frame, and the packet once more.
use Rattle.std.proofs.Common.{ℕ, Bool, ◌≡◌, ◌-◌, ◌^◌, true, false, List, [], ◌∷◌, ◌++◌, take, Some, None, Err, inl, inr, refl}
use Rattle.std.proofs.Common.{arith}
use Rattle.pcap_frames.specs.declared.fault.FaultKind.TheVariants.{ShortHeader, CutFrame, CutBlock, BadTail}
use Rattle.pcap_frames.specs.declared.fault.ReadRefusal.TheVariants.{Capture, ReadFault, OutOfMemory}
use Rattle.pcap_frames.specs.{FrameValue, number_in_order, header_fault, header_fault_at}
use Rattle.frame_records.specs.CaptureFile.{FileHasFrames, is_cut_off, IsFrontOf, FileGives, IsRefusedFile}
use Rattle.frame_records.specs.declared.records.Records.{Records}
use Rattle.frame_records.specs.declared.skip.Skip.TheVariants.{Short, BadHeader}
use Rattle.frame_records.specs.declared.weigh.Weigh.TheVariants.{Bytes, Packets}
use Rattle.frame_records.specs.FrameRecord.{record_of}
use Rattle.frame_records.specs.RecordVisitor.{visitor_weighing, capped, KeepsRecordsOf}
use Rattle.frame_records.specs.RecordVisitor.{with_skip, after_frame}
use Rattle.outside_io.specs.{ReadsFront}
use Rattle.frame_records.specs.Records.{AreRecordsOf, HasRecords, HasRefused}
use Rattle.frame_records.proofs.Examples.{plain, arp, weighing}
use Rattle.pcap_frames.proofs.Examples.{cut_file, fault_of_a_cut_file, cut_file_is_no_capture}
use Rattle.pcapng_frames.proofs.Examples as blocks

abbrev frames : List FrameValue
frames = plain ∷ arp ∷ plain ∷ []

-- what is kept of them, weighed by packets
abbrev records : Records
records = record { list = weighing 1 ∷ weighing 1 ∷ []; frames = 3; not_ipv4 = 1; short = 0; bad_header = 0; cut = None }

pub records_and_counts : AreRecordsOf Packets frames records
records_and_counts = record { list = refl; frames = refl; not_ipv4 = refl; short = refl; bad_header = refl }

-- a frame that is skipped is counted
pub skipped_frame_is_a_frame : AreRecordsOf Packets frames (record records { frames = 2 }) → ⊥
skipped_frame_is_a_frame are = omega (arith, are.frames)

pub records_of_a_capture : (file : List ℕ) → FileHasFrames file frames → HasRecords Packets false (Some file) records
records_of_a_capture file is = record {
  frames = frames;
  few = omega arith;
  told = is;
  whole = λ asked. refl;
  are = records_and_counts;
}

-- a source whose bytes are unknown had some frames
pub records_of_an_untold_capture : HasRecords Packets false None records
records_of_an_untold_capture = record {
  frames = frames;
  few = omega arith;
  told = tt;
  whole = λ asked. refl;
  are = records_and_counts;
}

-- an empty file is refused for its missing header, at its first byte
pub empty_file_has_no_header : IsRefusedFile true [] (header_fault_at ShortHeader 0)
unfolding header_fault number_in_order
empty_file_has_no_header = record {
  first = ([], inr (inl (record { none_shown = refl; short = omega arith; none_before = refl; is_fault = refl })));
  no_front = λ asked (cut : is_cut_off ShortHeader ≡ true). cc;
}

pub empty_file_is_refused : HasRefused true (Some []) 3 3 (Capture (header_fault_at ShortHeader 0))
empty_file_is_refused = empty_file_has_no_header

pub fault_of_the_source_was_counted : HasRefused false None 3 4 ReadFault
fault_of_the_source_was_counted = omega arith

pub fault_without_a_count_is_none : HasRefused false None 3 3 ReadFault → ⊥
fault_without_a_count_is_none rose = omega (arith, rose)

pub want_of_memory_has_no_other_cause : HasRefused false None 3 3 OutOfMemory
want_of_memory_has_no_other_cause = tt

pub two_bytes_were_read : ReadsFront (Some (1 ∷ 2 ∷ 3 ∷ [])) (Some (3 ∷ []))
two_bytes_were_read = (1 ∷ 2 ∷ [], refl)

pub packets_where_the_type_says_so : visitor_weighing true ≡ Packets
packets_where_the_type_says_so = refl

pub bytes_where_it_does_not : visitor_weighing false ≡ Bytes
bytes_where_it_does_not = refl

pub small_count_is_kept : capped 3 ≡ 3
small_count_is_kept = refl

pub count_past_the_greatest_is_capped : capped (2 ^ 64) ≡ 2 ^ 64 - 1
count_past_the_greatest_is_capped = refl

pub visitor_keeps_them : KeepsRecordsOf Packets frames records
visitor_keeps_them = record { list = refl; frames = refl; not_ipv4 = refl; short = refl; bad_header = refl; cut = refl }

pub short_frame_is_counted : with_skip Short records ≡ record records { short = 1 }
short_frame_is_counted = refl

pub after_another_packet : after_frame (record_of Packets plain) records
    ≡ record records { list = weighing 1 ∷ weighing 1 ∷ weighing 1 ∷ []; frames = 4 }
after_another_packet = refl

pub after_a_bad_header : after_frame (Err BadHeader) records ≡ record records { frames = 4; bad_header = 1 }
after_a_bad_header = refl

-- no frames are taken from an empty file
pub empty_file_has_no_frames : (frames : List FrameValue) → FileHasFrames [] frames → ⊥
unfolding number_in_order
empty_file_has_no_frames frames (order, splits) = let header = splits.header in omega (arith, header.whole)

-- ---- kinds of faults that cut a capture

pub capture_is_cut_in_a_frame : is_cut_off CutFrame ≡ true
capture_is_cut_in_a_frame = refl

pub capture_is_cut_in_a_block : is_cut_off CutBlock ≡ true
capture_is_cut_in_a_block = refl

pub other_tail_is_no_cut : is_cut_off BadTail ≡ false
other_tail_is_no_cut = refl

-- ---- a capture of one frame that is cut before the frame's last byte

-- its front has no frame, and the frame that is cut is the one at the end of the file header
pub front_without_a_frame : IsFrontOf cut_file [] 24
unfolding number_in_order
front_without_a_frame = record {
  fault = header_fault_at CutFrame 24;
  first = fault_of_a_cut_file;
  cut = refl;
  place_is = refl;
}

pub front_of_a_cut_capture : FileGives true cut_file [] (Some 24)
front_of_a_cut_capture = (refl, front_without_a_frame)

pub no_front_unless_asked_for : FileGives false cut_file [] (Some 24) → ⊥
no_front_unless_asked_for gives = let asked : false ≡ true = gives.0 in cc

-- the front isn't taken for a whole capture
pub cut_capture_is_not_whole : (front : Bool) (frames : List FrameValue) → FileGives front cut_file frames None → ⊥
unfolding number_in_order
cut_capture_is_not_whole front frames = cut_file_is_no_capture frames

pub cut_is_refused_unless_asked_for : IsRefusedFile false cut_file (header_fault_at CutFrame 24)
unfolding number_in_order
cut_is_refused_unless_asked_for = record { first = ([], fault_of_a_cut_file); no_front = λ (asked : false ≡ true) cut. cc }

pub cut_is_not_refused_where_asked_for : IsRefusedFile true cut_file (header_fault_at CutFrame 24) → ⊥
cut_is_not_refused_where_asked_for refused = refused.no_front refl refl

pub records_of_a_front : HasRecords Packets true (Some cut_file)
    (record { list = []; frames = 0; not_ipv4 = 0; short = 0; bad_header = 0; cut = Some 24 })
records_of_a_front = record {
  frames = [];
  few = omega arith;
  told = front_of_a_cut_capture;
  whole = λ (asked : true ≡ false). cc;
  are = record { list = refl; frames = refl; not_ipv4 = refl; short = refl; bad_header = refl };
}

-- ---- a pcapng capture of one packet, and the same cut in its packet

pub frame_of_a_pcapng_capture : FileHasFrames blocks.ng_capture (blocks.packet ∷ [])
unfolding number_in_order
frame_of_a_pcapng_capture = blocks.capture_of_a_packet

-- the block that is cut is the third, at byte 48
pub front_before_a_cut_block : FileGives true (blocks.header_block ++ (blocks.interface_block ++ take 52 blocks.packet_block)) [] (Some 48)
unfolding number_in_order
front_before_a_cut_block = (
  refl,
  record {
    fault = header_fault_at CutBlock 48;
    first = inr blocks.ends_in_the_packet;
    cut = refl;
    place_is = refl;
  },
)
