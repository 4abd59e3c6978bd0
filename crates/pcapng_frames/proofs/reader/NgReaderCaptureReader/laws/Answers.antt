use Rattle.pcapng_frames.proofs.NgReaderLemmas.{ng_reader_reads_format}
use Rattle.pcapng_frames.proofs.reader.NgReaderCaptureReader.laws.Goals as goal

pub returns-clause-reads : goal.returns-clause-reads
returns-clause-reads c = ng_reader_reads_format
