use Rattle.std.proofs.Common.{◌≡◌, ◌-◌}
use Rattle.pcap_frames.specs.Feeding.{fed_limit}
use Rattle.pcap_frames.proofs.SourceReadLemmas.{HasReadSource}
use Rattle.pcap_frames.proofs.reading.read_with.Given as goal

-- the reader represents what was read, and no call of the source failed
abbrev pub invariant-loop-reader : goal.invariant-loop-reader
invariant-loop-reader g l = record {
  read : HasReadSource g.R.CaptureReader.format l.first g.R.CaptureReader.represents g.R.CaptureReader.stop g.V.FrameVisitor.represents l.fn.visitor
      l.visitor (g.S.Source.left l.fn.source) (g.S.Source.left l.source) l.reader;
  kept : g.S.Source.faults l.source ≡ g.S.Source.faults l.fn.source;
}

abbrev pub decreases-loop-reader : goal.decreases-loop-reader
decreases-loop-reader g l = fed_limit - g.R.CaptureReader.extent l.reader
