use Rattle.pcap_frames.proofs.FrameReaderLemmas.{frame_reader_reads_format}
use Rattle.pcap_frames.proofs.reader.FrameReaderCaptureReader.laws.Goals as goal

pub returns-clause-reads : goal.returns-clause-reads
returns-clause-reads c = frame_reader_reads_format
