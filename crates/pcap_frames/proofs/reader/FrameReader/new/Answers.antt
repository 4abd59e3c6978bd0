use Rattle.std.proofs.Common.{[], ap, sym, subst}
use Rattle.pcap_frames.specs.FrameReader.{IsInHeader}
use Rattle.pcap_frames.proofs.ReaderStepLemmas.{reader_before_first_step}
use Rattle.pcap_frames.proofs.reader.FrameReader.new.Goals as goal

pub returns-clause-stands : goal.returns-clause-stands
returns-clause-stands c = subst (λ kept. IsInHeader kept [] []) (sym (ap (λ k. k.first) c.new.ensures)) reader_before_first_step
