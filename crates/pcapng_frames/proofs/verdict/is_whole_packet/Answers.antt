use Rattle.std.proofs.Common.{◌≡◌, sym, subst, ◌∙◌, length, arith}
use Rattle.pcap_frames.specs.{number_in_order}
use Rattle.pcapng_frames.specs.declared.verdict.Verdict.TheVariants.{IsWhole}
use Rattle.pcapng_frames.specs.NgPart.{section_place}
use Rattle.pcapng_frames.specs.Verdict.{packet_verdict}
use Rattle.pcapng_frames.proofs.PacketBlockLemmas.{packet_block_is_whole}
use Rattle.pcapng_frames.proofs.verdict.is_whole_packet.Goals as goal

pub returns-in-IsWhole : goal.returns-in-IsWhole
returns-in-IsWhole c = λ yes.
    let block = c.args.block.now in
    let interfaces = c.args.section.now.interfaces in
    let count : c.len.result ≡ length interfaces.items = omega (arith, c.len.ensures, interfaces.ok.0) in
    packet_block_is_whole (section_place c.args.section.now) c.args.order block c.split_at.result.1.now c.requires.order
    c.requires.packet c.if-section-eq0.false c.if-section-eq-MOST_BLOCKS.false c.split_at.ensures.back
    (subst (λ n.
    packet_verdict c.args.order (number_in_order c.args.order 4 4 block) n (length block) block c.split_at.result.1.now ≡ IsWhole)
    count (sym c.packet_verdict-verdict.ensures ∙ c.in-IsWhole.is))
