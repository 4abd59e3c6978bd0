use Rattle.std.proofs.Common.{length}
use Rattle.pcap_frames.proofs.FedPieceLemmas.{IsFedPiece}
use Rattle.pcap_frames.proofs.capture_reader.show_all.Given as goal

-- a front of the piece is fed
abbrev pub invariant-loop-rest : goal.invariant-loop-rest
invariant-loop-rest g l = IsFedPiece g.R.CaptureReader.represents g.V.FrameVisitor.represents l.fn.visitor l.visitor l.fn.reader l.reader l.piece l.rest

abbrev pub decreases-loop-rest : goal.decreases-loop-rest
decreases-loop-rest g l = length l.rest
