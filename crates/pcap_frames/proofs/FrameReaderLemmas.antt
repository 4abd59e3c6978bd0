-- What the reader of libpcap's format represents.
use Rattle.std.proofs.Common.{ℕ, ◌≡◌, ◌≤◌, List, ◌++◌, length, Some, None, ap, subst, arith}
use Rattle.std.proofs.Common.{length-drop, drop}
use Rattle.pcap_frames.specs.declared.fault.CaptureFault.{CaptureFault}
use Rattle.pcap_frames.specs.declared.fault.FeedFault.{FeedFault}
use Rattle.pcap_frames.specs.declared.fault.FeedFault.TheVariants.{Refused}
use Rattle.pcap_frames.specs.Frame.{FrameValue}
use Rattle.pcap_frames.specs.CaptureFault.{ShowsFault}
use Rattle.pcap_frames.specs.CaptureFormat.{classic}
use Rattle.pcap_frames.specs.FrameReader.{ReaderState, InHeader, InFrames, AtFault, LacksMemory, Represents}
use Rattle.pcap_frames.specs.FrameReader.{frame_reader_stop, frame_reader_extent}
use Rattle.pcap_frames.specs.Feeding.{ReadsFormat, fed_limit}
use Rattle.pcap_frames.proofs.BeginsFrameLemmas.{BeginsWithFrames-length}
use Rattle.pcap_frames.proofs.FileSplitLemmas.{ShowsFault-longer_split_file}
use Rattle.pcap_frames.proofs.FirstFaultLemmas.{reader_that_goes_on_shows_no_first_fault, capture_or_first_fault}
use Rattle.pcap_frames.proofs.ReaderStepLemmas.{bytes_needed-reader_step_bound}

frame_reader_counts : (state : ReaderState) (bytes : List ℕ) (frames : List FrameValue)
    → Represents state bytes frames → frame_reader_stop state ≡ None → frame_reader_extent state ≡ length bytes
frame_reader_counts (InHeader kept) bytes frames stands goes = ap length stands.kept_is
frame_reader_counts (InFrames at) bytes frames stands goes = omega (arith, stands.place_is, stands.came_is)
frame_reader_counts (AtFault fault) bytes frames stands goes = absurd cc
frame_reader_counts LacksMemory bytes frames stands goes = absurd stands

-- no reader that goes on was fed more bytes than the limits on frames allow
frame_reader_is_bounded : (state : ReaderState) (bytes : List ℕ) (frames : List FrameValue)
    → Represents state bytes frames → frame_reader_stop state ≡ None → length bytes ≤ fed_limit
frame_reader_is_bounded (InHeader kept) bytes frames stands goes = omega (arith, stands.short)
frame_reader_is_bounded (InFrames at) bytes frames stands goes =
    let splits = stands.splits in
    let header = splits.header in
    let sizes = BeginsWithFrames-length at.order (drop 24 bytes) frames stands.rest splits.begins in
    omega (
      arith,
      sizes,
      splits.limit,
      stands.cut,
      bytes_needed-reader_step_bound at.order at.count at.place stands.rest stands.none_shown,
      length-drop 24 bytes,
      header.whole,
    )
frame_reader_is_bounded (AtFault fault) bytes frames stands goes = absurd cc
frame_reader_is_bounded LacksMemory bytes frames stands goes = absurd stands

frame_reader_shows_fault : (state : ReaderState) (bytes : List ℕ) (frames : List FrameValue) (fault : CaptureFault)
    → Represents state bytes frames → frame_reader_stop state ≡ Some (Refused fault) → ShowsFault bytes frames fault
frame_reader_shows_fault (InHeader kept) bytes frames fault stands stopped = absurd cc
frame_reader_shows_fault (InFrames at) bytes frames fault stands stopped = absurd cc
frame_reader_shows_fault (AtFault shown) bytes frames fault stands stopped =
    subst (ShowsFault bytes frames) (let same : shown ≡ fault = cc in same) stands
frame_reader_shows_fault LacksMemory bytes frames fault stands stopped = absurd stands

frame_reader_stays : (state : ReaderState) (bytes more : List ℕ) (frames : List FrameValue) (fault : FeedFault)
    → Represents state bytes frames → frame_reader_stop state ≡ Some fault → Represents state (bytes ++ more) frames
frame_reader_stays (InHeader kept) bytes more frames fault stands stopped = absurd cc
frame_reader_stays (InFrames at) bytes more frames fault stands stopped = absurd cc
frame_reader_stays (AtFault shown) bytes more frames fault stands stopped = ShowsFault-longer_split_file bytes more frames shown stands
frame_reader_stays LacksMemory bytes more frames fault stands stopped = absurd stands

pub frame_reader_reads_format : ReadsFormat classic Represents frame_reader_stop frame_reader_extent
frame_reader_reads_format = record {
  completes = capture_or_first_fault;
  refused = frame_reader_shows_fault;
  unrefused = reader_that_goes_on_shows_no_first_fault;
  stays = frame_reader_stays;
  counts = frame_reader_counts;
  limited = frame_reader_is_bounded;
}
