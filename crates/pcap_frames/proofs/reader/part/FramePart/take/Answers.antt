use Rattle.pcap_frames.proofs.ReaderStepLemmas.{stopped_reader_step_takes_all, reader_step_stage_has_stopped}
use Rattle.pcap_frames.proofs.reader.part.FramePart.take.Goals as goal

pub returns-in-AtFault-clause-takes : goal.returns-in-AtFault-clause-takes
returns-in-AtFault-clause-takes c =
    let stopped = reader_step_stage_has_stopped c.args.stage c.args.self.now c.in-AtFault.is in
    rw (c.pass_over.ensures.stage, c.pass_over.ensures.nothing)
    (stopped_reader_step_takes_all _ stopped.0 c.args.piece.now _ stopped.1 c.requires.has_bytes c.pass_over.ensures.rest)
