use Rattle.std.specs.Prelude.{⊤}
use Rattle.std.proofs.Common.{sym, ◌∙◌}
use Rattle.pcap_frames.proofs.FedPieceLemmas.{piece_fed_to_stopped_reader, stopped_reader_passes_fed_piece}
use Rattle.pcap_frames.proofs.FedPieceLemmas.{piece_fed_with_memory, fed_piece_is_answered_exactly}
use Rattle.pcap_frames.proofs.capture_reader.CaptureReader.feed.Goals as goal

pub returns-in-Some-clause-fed : goal.returns-in-Some-clause-fed
returns-in-Some-clause-fed g c =
    piece_fed_to_stopped_reader _ _ _ _ g.V.FrameVisitor.represents c.laws.ensures.reads ⊤ _ _ _ _ (sym c.stopped.ensures ∙ c.in-Some.is)

pub returns-in-Some-clause-exact : goal.returns-in-Some-clause-exact
returns-in-Some-clause-exact g c =
    stopped_reader_passes_fed_piece _ _ _ _ g.V.FrameVisitor.represents c.laws.ensures.reads ⊤ _ _ _ (sym c.stopped.ensures ∙ c.in-Some.is)

pub returns-in-Some-stopped-clause-fed : goal.returns-in-Some-stopped-clause-fed
returns-in-Some-stopped-clause-fed g c =
    piece_fed_with_memory _ _ _ _ g.V.FrameVisitor.represents c.laws.ensures.reads ⊤ _ _ _ _ _ _ c.laws.ensures.decided
    c.in-Ok.ensures.ok

pub returns-in-Some-stopped-clause-exact : goal.returns-in-Some-stopped-clause-exact
returns-in-Some-stopped-clause-exact g c =
    fed_piece_is_answered_exactly _ _ _ _ g.V.FrameVisitor.represents c.laws.ensures.reads ⊤ _ _ _ _ _ _
    c.in-Ok.ensures.ok (sym c.stopped-2.ensures ∙ c.in-Some-stopped.is)
