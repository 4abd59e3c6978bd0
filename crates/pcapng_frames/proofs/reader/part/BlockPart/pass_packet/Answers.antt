use Rattle.std.proofs.Common.{◌-◌, ap, arith, drop, length}
use Rattle.pcapng_frames.specs.Block.{block_length}
use Rattle.pcapng_frames.specs.Section.{SectionPlace}
use Rattle.pcapng_frames.specs.NgPart.{section_place}
use Rattle.pcapng_frames.proofs.KeptVerdictLemmas.{kept_verdict_has_room}
use Rattle.pcapng_frames.proofs.PacketBlockLemmas.{packet_block_tells}
use Rattle.pcapng_frames.proofs.NgStepLemmas.{ng_step_between_blocks}
use Rattle.pcapng_frames.proofs.reader.part.BlockPart.pass_packet.Goals as goal

pub end_packet-requires-clause-room : goal.end_packet-requires-clause-room
end_packet-requires-clause-room c =
    let block = c.args.block.now in
    let section = section_place c.args.self.now.section in
    kept_verdict_has_room section (length block) block (drop (block_length section.order block - 4) block) c.requires.whole
    c.requires.within.section.count

pub end_packet-requires-clause-named : goal.end_packet-requires-clause-named
end_packet-requires-clause-named c =
    let tells = packet_block_tells (section_place c.args.self.now.section) c.args.order c.args.block.now c.requires.order
    c.requires.packet c.requires.whole in
    tells.named

pub returns-then-not-end_packet-clause-within : goal.returns-then-not-end_packet-clause-within
returns-then-not-end_packet-clause-within c =
    let count = ap (λ (s : SectionPlace). s.count) c.end_packet.ensures.after in
    record {
      section = c.end_packet.ensures.within;
      frames = omega (arith, count, c.requires.within.frames);
      waits = ng_step_between_blocks (section_place c.end_packet.new.self) c.args.self.now.kept c.requires.none;
    }

pub frame_at-requires-clause-header : goal.frame_at-requires-clause-header
frame_at-requires-clause-header c = omega (arith, c.requires.packet.least)

pub frame_at-requires-clause-limit : goal.frame_at-requires-clause-limit
frame_at-requires-clause-limit c =
    let tells = packet_block_tells (section_place c.args.self.now.section) c.args.order c.args.block.now c.requires.order
    c.requires.packet c.requires.whole in
    tells.limit

pub frame_at-requires-clause-head : goal.frame_at-requires-clause-head
frame_at-requires-clause-head c =
    let tells = packet_block_tells (section_place c.args.self.now.section) c.args.order c.args.block.now c.requires.order
    c.requires.packet c.requires.whole in
    omega (arith, tells.room)

pub returns-clause-within : goal.returns-clause-within
returns-clause-within c =
    let count = ap (λ (s : SectionPlace). s.count) c.end_packet.ensures.after in
    record {
      section = c.end_packet.ensures.within;
      frames = omega (arith, count, c.requires.within.frames);
      waits = ng_step_between_blocks (section_place c.end_packet.new.self) c.args.self.now.kept c.requires.none;
    }
