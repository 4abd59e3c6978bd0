use Rattle.std.proofs.lemmas.Result.{err_from_is_err_and}
use Rattle.pcap_frames.proofs.FedPieceLemmas.{more_of_piece_is_fed, fed_piece_lacks_room}
use Rattle.pcap_frames.proofs.capture_reader.show_all.Goals as goal

pub returns-in_err-rest-clause-err : goal.returns-in_err-rest-clause-err
returns-in_err-rest-clause-err g c =
    let p = err_from_is_err_and c.from_residual.result c.from_residual.ensures.1 in
    rw (p.1)
    (fed_piece_lacks_room _ _ _ _ g.V.FrameVisitor.represents c.laws.ensures.reads _ _ _ _ _ _ _ c.laws.ensures.decided
    c.loop-rest.invariant c.in_err-rest.ensures.err)

pub loop-rest-preserved : goal.loop-rest-preserved
loop-rest-preserved g c =
    more_of_piece_is_fed g.R.CaptureReader.represents g.V.FrameVisitor.represents _ _ _ _ _ _ _ _ _ c.loop-rest.invariant
    c.in_ok-rest.ensures.ok
