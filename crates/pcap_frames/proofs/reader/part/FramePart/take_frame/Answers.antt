use Rattle.std.proofs.Common.{◌≡◌, ap, ◌∙◌, arith}
use Rattle.pcap_frames.specs.Frame.{bytes_needed}
use Rattle.pcap_frames.proofs.ReaderStepLemmas.{bytes_needed-reader_step_grows}
use Rattle.pcap_frames.proofs.reader.part.FramePart.take_frame.Goals as goal

pub leave_frame-stage-requires-clause-came : goal.leave_frame-stage-requires-clause-came
leave_frame-stage-requires-clause-came c =
    let before : c.needed.result ≡ bytes_needed c.args.self.now.order c.args.self.now.kept.first =
    c.needed.ensures ∙ ap (bytes_needed c.args.self.now.order) c.first.ensures.bytes in
    let more =
    bytes_needed-reader_step_grows c.args.self.now.order c.args.self.now.kept.first c.split_at.result.0.now c.add.new.self.first
    c.add.ensures.first in
    omega arith
