use Rattle.std.proofs.Common.{arith, take-append-drop}
use Rattle.pcap_frames.proofs.reader.part.FramePart.take_header.Goals as goal

pub returns-clause-takes : goal.returns-clause-takes
returns-clause-takes c = record {
  front = c.split_at.result.0.now;
  joined = grind (arith, take-append-drop);
  some = omega arith;
  advances =
      c.leave_header-stage.ensures.advances c.args.self.now.kept.first c.split_at.result.0.now c.add.ensures.first
      (omega arith);
}
