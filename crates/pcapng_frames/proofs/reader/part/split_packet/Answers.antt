use Rattle.std.proofs.Common.{sym, ◌∙◌, arith}
use Rattle.pcapng_frames.proofs.PacketBlockLemmas.{packet_block_joins, packet_block_at_front}
use Rattle.pcapng_frames.proofs.reader.part.split_packet.Goals as goal

pub returns-clause-joined : goal.returns-clause-joined
returns-clause-joined c =
    packet_block_joins c.args.piece.now c.split_at.result.0.now c.split_at.result.1.now c.u32_at-size.result c.split_at.ensures.front
    c.split_at.ensures.back

pub returns-clause-packet : goal.returns-clause-packet
returns-clause-packet c =
    packet_block_at_front c.args.order c.args.piece.now c.split_at.result.0.now c.u32_at-size.result
    (sym c.u32_at.ensures ∙ c.if-u32_at-ne-ENHANCED_PACKET.false) (sym c.u32_at-size.ensures) (omega arith) (omega arith)
    c.split_at.ensures.front
