-- An enhanced packet that is as long as its length says, in a section of its byte order.
use Rattle.std.proofs.Common.{ℕ, ◌≡◌, ◌-◌, ◌≤◌, List, ◌++◌, length, take, drop, length-take, sym, ap, subst, ◌∙◌, arith}
use Rattle.std.proofs.lemmas.Bool.{le-ltb, ne_eqb}
use Rattle.std.proofs.lemmas.List.{take-append-drop}
use Rattle.pcap_frames.specs.{number_in_order}
use Rattle.pcap_frames.specs.declared.file_order.FileOrder.{FileOrder}
use Rattle.pcapng_frames.specs.declared.block.BlockKind.TheVariants.{EnhancedPacket}
use Rattle.pcapng_frames.specs.declared.verdict.Verdict.TheVariants.{IsWhole}
use Rattle.pcapng_frames.specs.Block.{BlockValue, Packet, kind_of_type, block_kind, block_order, block_content, block_length, block_at}
use Rattle.pcapng_frames.specs.Block.{packet_frame, IsPacketBlock}
use Rattle.pcapng_frames.specs.Section.{SectionPlace}
use Rattle.pcapng_frames.specs.Verdict.{packet_verdict, kind_verdict, block_verdict, verdict_of}
use Rattle.pcapng_frames.proofs.BlockNumberLemmas.{number_in_order-of_block_front}
use Rattle.pcapng_frames.proofs.VerdictLemmas.{VerdictTells, PacketVerdictTells, verdict_tells}

-- the kind in the byte order of the section
packet_block_kind : (own order : FileOrder) (bytes : List ℕ) → own ≡ order → IsPacketBlock order bytes → block_kind own bytes ≡ EnhancedPacket
packet_block_kind own order bytes same is = ap (λ o. block_kind o bytes) same ∙ is.kind

-- what the block says
pub block_at-of_packet_block : (own order : FileOrder) (bytes : List ℕ) → own ≡ order → IsPacketBlock order bytes
    → block_at own bytes ≡ record {
      size = length bytes;
      content = Packet (number_in_order order 4 8 bytes) (packet_frame order bytes);
    }
block_at-of_packet_block own order bytes same is =
    ap (λ o. block_at o bytes) same
    ∙ ap (λ k. let b : BlockValue = record {
      size = number_in_order (block_order k order bytes) 4 4 bytes;
      content = block_content k order bytes;
    } in b) is.kind
    ∙ ap (λ n. let b : BlockValue = record {
      size = n;
      content = Packet (number_in_order order 4 8 bytes) (packet_frame order bytes);
    } in b) (sym is.size)

-- its length
pub block_length-of_packet_block : (own order : FileOrder) (bytes : List ℕ) → own ≡ order → IsPacketBlock order bytes
    → block_length own bytes ≡ length bytes
block_length-of_packet_block own order bytes same is =
    ap (λ (b : BlockValue). b.size) (block_at-of_packet_block own order bytes same is)

-- the front of a piece is one, by its type and its length
pub packet_block_at_front : (order : FileOrder) (piece block : List ℕ) (size : ℕ) → number_in_order order 4 0 piece ≡ 6
    → number_in_order order 4 4 piece ≡ size → 32 ≤ size → size ≤ length piece → block ≡ take size piece
    → IsPacketBlock order block
packet_block_at_front order piece block size type_is size_is least there is =
    let front : IsPacketBlock order (take size piece) = record {
      kind = ap kind_of_type (number_in_order-of_block_front order 4 0 size piece (omega arith) ∙ type_is);
      least = omega (arith, length-take size piece);
      size =
          (let all : length (take size piece) ≡ size = omega (arith, length-take size piece) in all)
          ∙ sym (number_in_order-of_block_front order 4 4 size piece (omega arith) ∙ size_is);
    } in
    subst (IsPacketBlock order) (sym is) front

-- the tests of a packet are all that there are, but for those of the number of blocks
pub packet_block_is_whole : (at : SectionPlace) (order : FileOrder) (block last : List ℕ) → at.order ≡ order
    → IsPacketBlock order block → (at.count ≡ 0 → ⊥) → (at.count ≡ 16777216 → ⊥) → last ≡ drop (length block - 4) block
    → packet_verdict order (number_in_order order 4 4 block) (length at.interfaces) (length block) block last ≡ IsWhole
    → block_verdict at block ≡ IsWhole
unfolding verdict_of
packet_block_is_whole at order block last same is some few end whole =
    let long : 32 ≤ length block = is.least in
    let tail : last ≡ drop (number_in_order order 4 4 block - 4) block = end ∙ ap (λ n. drop (n - 4) block) is.size in
    let found : packet_verdict order (number_in_order order 4 4 block) (length at.interfaces) (length block) block
    (drop (number_in_order order 4 4 block - 4) block) ≡ IsWhole =
    subst (λ l.
    packet_verdict order (number_in_order order 4 4 block) (length at.interfaces) (length block) block l ≡ IsWhole) tail whole in
    let own : packet_verdict at.order (number_in_order at.order 4 4 block) (length at.interfaces) (length block) block
    (drop (number_in_order at.order 4 4 block - 4) block) ≡ IsWhole =
    subst (λ o.
    packet_verdict o (number_in_order o 4 4 block) (length at.interfaces) (length block) block
    (drop (number_in_order o 4 4 block - 4) block) ≡ IsWhole) (sym same) found in
    let all : kind_verdict (block_kind at.order block) (block_order (block_kind at.order block) at.order block)
    (block_length at.order block) (length at.interfaces) (length block) block (drop (block_length at.order block - 4) block)
    ≡ IsWhole =
    subst (λ k.
    kind_verdict k (block_order k at.order block) (number_in_order (block_order k at.order block) 4 4 block)
    (length at.interfaces) (length block) block
    (drop (number_in_order (block_order k at.order block) 4 4 block - 4) block) ≡ IsWhole)
    (sym (packet_block_kind at.order order block same is)) own in
    rw (
      le-ltb (length block) 1 (omega arith),
      ne_eqb at.count 16777216 few,
      le-ltb (length block) 4 (omega arith),
      ne_eqb at.count 0 some,
    ) all

-- what the tests tell
pub packet_block_tells : (at : SectionPlace) (order : FileOrder) (block : List ℕ) → at.order ≡ order → IsPacketBlock order block
    → block_verdict at block ≡ IsWhole → PacketVerdictTells order (length block) (length at.interfaces) block
packet_block_tells at order block same is whole =
    let tells = verdict_tells at (length block) block _ whole in
    let told : PacketVerdictTells at.order (number_in_order at.order 4 4 block) (length at.interfaces) block =
    subst (λ k.
    VerdictTells k (block_order k at.order block) (number_in_order (block_order k at.order block) 4 4 block)
    (length at.interfaces) block) (packet_block_kind at.order order block same is) tells in
    let ordered : PacketVerdictTells order (number_in_order order 4 4 block) (length at.interfaces) block =
    subst (λ o. PacketVerdictTells o (number_in_order o 4 4 block) (length at.interfaces) block) same told in
    subst (λ n. PacketVerdictTells order n (length at.interfaces) block) (sym is.size) ordered

-- a packet that is split off is the front of the piece
pub packet_block_joins : (piece block rest : List ℕ) (size : ℕ) → block ≡ take size piece → rest ≡ drop size piece → piece ≡ block ++ rest
packet_block_joins piece block rest size block_is rest_is =
    sym (take-append-drop size piece) ∙ ap (λ l. l ++ drop size piece) (sym block_is) ∙ ap (λ l. block ++ l) (sym rest_is)
