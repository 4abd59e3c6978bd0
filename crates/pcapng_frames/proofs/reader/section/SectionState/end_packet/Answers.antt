use Rattle.std.proofs.Common.{ap, sym, arith}
use Rattle.pcapng_frames.specs.Section.{after_block}
use Rattle.pcapng_frames.specs.NgPart.{section_place}
use Rattle.pcapng_frames.proofs.BlockNumberLemmas.{number_in_order-of_four_block_bytes}
use Rattle.pcapng_frames.proofs.PacketBlockLemmas.{block_at-of_packet_block}
use Rattle.pcapng_frames.proofs.reader.section.SectionState.end_packet.Goals as goal

pub returns-clause-within : goal.returns-clause-within
returns-clause-within c =
    let fits = number_in_order-of_four_block_bytes c.args.order 4 c.args.block.now in
    record { count = omega arith; place = omega (arith, fits, c.requires.packet.size, c.requires.within.place) }

pub returns-clause-after : goal.returns-clause-after
returns-clause-after c =
    ap (after_block (section_place c.args.self.now))
    (sym (block_at-of_packet_block c.args.self.now.order c.args.order c.args.block.now c.requires.order c.requires.packet))
