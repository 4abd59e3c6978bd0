use Rattle.std.proofs.Common.{ap, ◌∙◌}
use Rattle.pcap_frames.specs.{frame_content}
use Rattle.frame_records.specs.FrameRecord.{record_of}
use Rattle.frame_records.specs.RecordVisitor.{after_frame}
use Rattle.frame_records.proofs.RecordVisitorLemmas.{visitor_keeps_next_record, OnOk-record_visitor_implies}
use Rattle.frame_records.proofs.record_visitor.RecordVisitorFrameVisitor.frame.Goals as goal

pub returns-clause-seen : goal.returns-clause-seen
returns-clause-seen g c =
    let frame = frame_content c.args.frame.now in
    let records = c.args.self.now.records in
    OnOk-record_visitor_implies c.take.result _ _ (λ taken. λ before kept. visitor_keeps_next_record _ before frame records c.take.new.self kept
    (taken ∙ ap (λ o. after_frame o records) (c.record_of.ensures ∙ ap (λ w. record_of w frame) c.weigh.ensures)))
    c.take.ensures.taken
