use Rattle.pcapng_frames.proofs.NgReaderLemmas.{stopped_ng_reader_takes_all, ng_reader_stage_has_stopped, ng_reader_stage_keeps_part}
use Rattle.pcapng_frames.proofs.reader.part.BlockPart.take.Goals as goal

pub returns-in-AtFault : goal.returns-in-AtFault
returns-in-AtFault c =
    let stopped = ng_reader_stage_has_stopped c.args.stage c.args.self.now c.in-AtFault.is in
    rw (c.pass_over.ensures.stage, c.pass_over.ensures.nothing) (record {
      sound = ng_reader_stage_keeps_part c.args.stage c.args.self.now c.in-AtFault.is;
      takes = stopped_ng_reader_takes_all _ stopped.0 c.args.piece.now _ stopped.1 c.requires.has_bytes c.pass_over.ensures.rest;
    })
