use Rattle.std.proofs.Common.{◌≤◌, [], sym, subst}
use Rattle.frame_records.proofs.FrontLemmas.{front_records_of_whole_capture, front_records_up_to_cut, front_records_are_few}
use Rattle.frame_records.proofs.FrontLemmas.{front_seen_before_fault}
use Rattle.frame_records.proofs.RecordVisitorLemmas.{visitor_records_are_few}
use Rattle.frame_records.proofs.reading.read_weighed.Goals as goal

pub returns-in-Ok-clause-records : goal.returns-in-Ok-clause-records
returns-in-Ok-clause-records g c =
    let read = c.in-Ok.ensures.seen in
    front_records_of_whole_capture _ c.args.front _ read.frames _ (subst (λ n. n ≤ 16777216) (sym read.counted) read.limit)
    (read.sees [] c.new-visitor.ensures) read.capture

pub returns-in-Ok-clause-few : goal.returns-in-Ok-clause-few
returns-in-Ok-clause-few g c =
    let read = c.in-Ok.ensures.seen in
    visitor_records_are_few _ read.frames c.read_any.new.visitor.records
    (subst (λ n. n ≤ 16777216) (sym read.counted) read.limit) (read.sees [] c.new-visitor.ensures)

pub returns-in-Ok-clause-front : goal.returns-in-Ok-clause-front
returns-in-Ok-clause-front g c = (c.in-Ok.ensures.seen.front, c.in-Ok.ensures.seen.consumed)

pub returns-in-Err-Capture-clause-records : goal.returns-in-Err-Capture-clause-records
returns-in-Err-Capture-clause-records g c =
    let read = front_seen_before_fault _ c.new-visitor.result c.read_any.new.visitor (g.S.Source.left c.args.source.now)
    (g.S.Source.left c.read_any.new.source) c.in-Err-Capture.field-0 c.in-Err-Capture.fault c.in-Err-Capture.field-0-is
    c.in-Err-Capture.ensures.seen in
    front_records_up_to_cut _ c.args.front _ read.frames c.in-Err-Capture.fault _ c.up_to_cut.result read.limit
    (read.sees [] c.new-visitor.ensures) read.fault_of_file c.up_to_cut.ensures.taken c.up_to_cut.ensures.asked c.up_to_cut.ensures.cut

pub returns-in-Err-Capture-clause-few : goal.returns-in-Err-Capture-clause-few
returns-in-Err-Capture-clause-few g c =
    let read = front_seen_before_fault _ c.new-visitor.result c.read_any.new.visitor (g.S.Source.left c.args.source.now)
    (g.S.Source.left c.read_any.new.source) c.in-Err-Capture.field-0 c.in-Err-Capture.fault c.in-Err-Capture.field-0-is
    c.in-Err-Capture.ensures.seen in
    front_records_are_few _ read.frames c.in-Err-Capture.fault.place _ c.up_to_cut.result read.limit
    (read.sees [] c.new-visitor.ensures) c.up_to_cut.ensures.taken
