use Rattle.std.proofs.Common.{arith}
use Rattle.pcapng_frames.specs.NgPart.{place_of_part}
use Rattle.pcapng_frames.proofs.PacketBlockLemmas.{block_length-of_packet_block}
use Rattle.pcapng_frames.proofs.NgStepLemmas.{ng_step_block_in_piece}
use Rattle.pcapng_frames.proofs.reader.part.BlockPart.packet_in.Goals as goal

pub returns-clause-takes : goal.returns-clause-takes
returns-clause-takes c =
    let packet = c.in_ok-block.ensures.packet in
    let size = block_length-of_packet_block c.args.self.now.section.order c.args.order c.in_ok-block.block.now c.requires.order packet in
    ng_step_block_in_piece (place_of_part c.args.self.now) (place_of_part c.pass_packet-frame.new.self) c.args.piece.now
    c.in_ok-block.block.now c.in_ok-block.rest.now _ c.in_ok-block.ensures.joined (omega (arith, packet.least)) (omega (arith, size))
    c.requires.none (c.is_whole_packet.ensures c.if-not-is_whole_packet.false) c.pass_packet-frame.ensures.place
    c.pass_packet-frame.ensures.gives
