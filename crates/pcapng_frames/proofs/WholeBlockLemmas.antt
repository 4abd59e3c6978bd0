-- What a whole block says, in the bytes at its front and when more bytes follow.
use Rattle.std.proofs.Common.{ℕ, ◌≡◌, ◌+◌, ◌≤◌, ◌<◌, ◌^◌, List, ◌++◌, length, take, drop, refl, sym, ap, ◌∙◌, arith}
use Rattle.std.proofs.Common.{length-take, length-drop, get_or, inl, inr}
use Rattle.std.proofs.lemmas.Bool.{cases_lt}
use Rattle.std.proofs.lemmas.List.{take_all, take-take, take-append-le, drop-append-le, drop-take, get_or-take, get_or-drop, get_or_past}
use Rattle.pcap_frames.specs.{number_in_order, IsFrame}
use Rattle.pcap_frames.specs.declared.file_order.FileOrder.{FileOrder}
use Rattle.pcapng_frames.specs.declared.block.BlockKind.{BlockKind}
use Rattle.pcapng_frames.specs.declared.block.BlockKind.TheVariants.{SectionHeader, InterfaceDescription, EnhancedPacket, Other}
use Rattle.pcapng_frames.specs.declared.verdict.Verdict.TheVariants.{IsWhole}
use Rattle.pcapng_frames.specs.Block.{least_length, block_kind, block_order, packet_frame}
use Rattle.pcapng_frames.specs.Block.{block_content, block_at}
use Rattle.pcapng_frames.specs.Section.{SectionPlace}
use Rattle.pcapng_frames.specs.Verdict.{block_verdict}
use Rattle.pcapng_frames.proofs.BlockNumberLemmas.{number_in_order-of_longer_block, order_of_section-of_longer_block}
use Rattle.pcapng_frames.proofs.BlockNumberLemmas.{number_in_order-of_four_block_bytes}
use Rattle.pcapng_frames.proofs.BlockNumberLemmas.{number_in_order-of_block_front, order_of_section-of_block_front}
use Rattle.pcapng_frames.proofs.VerdictLemmas.{VerdictFits, VerdictTells, PacketVerdictTells, verdict_size, verdict_fits, verdict_tells}

-- ---- when more bytes follow

packet_frame-of_longer_whole_block : (order : FileOrder) (size interfaces : ℕ) (bytes more : List ℕ)
    → VerdictFits EnhancedPacket size (length bytes) → PacketVerdictTells order size interfaces bytes
    → packet_frame order (bytes ++ more) ≡ packet_frame order bytes
packet_frame-of_longer_whole_block order size interfaces bytes more fits tells =
    let long : 32 ≤ length bytes = omega (arith, fits.least, fits.there) in
    rw (
      number_in_order-of_longer_block order 4 20 bytes more (omega arith),
      number_in_order-of_longer_block order 4 24 bytes more (omega arith),
      drop-append-le 28 bytes more (omega arith),
      take-append-le (number_in_order order 4 20 bytes) (drop 28 bytes) more
          (omega (arith, length-drop 28 bytes, tells.room, fits.there)),
    ) refl

block_content-of_longer_whole_block : (kind : BlockKind) (order : FileOrder) (size interfaces : ℕ) (bytes more : List ℕ)
    → VerdictFits kind size (length bytes) → VerdictTells kind (block_order kind order bytes) size interfaces bytes
    → block_content kind order (bytes ++ more) ≡ block_content kind order bytes
block_content-of_longer_whole_block SectionHeader order size interfaces bytes more fits tells =
    rw (order_of_section-of_longer_block bytes more (omega (arith, fits.least, fits.there))) refl
block_content-of_longer_whole_block InterfaceDescription order size interfaces bytes more fits tells =
    rw (number_in_order-of_longer_block order 2 8 bytes more (omega (arith, fits.least, fits.there))) refl
block_content-of_longer_whole_block EnhancedPacket order size interfaces bytes more fits tells =
    rw (
      number_in_order-of_longer_block order 4 8 bytes more (omega (arith, fits.least, fits.there)),
      packet_frame-of_longer_whole_block order size interfaces bytes more fits tells,
    ) refl
block_content-of_longer_whole_block Other order size interfaces bytes more fits tells = refl

pub block_order-of_longer_whole_block : (kind : BlockKind) (order : FileOrder) (bytes more : List ℕ) → 12 ≤ length bytes
    → block_order kind order (bytes ++ more) ≡ block_order kind order bytes
block_order-of_longer_whole_block SectionHeader order bytes more long = rw (order_of_section-of_longer_block bytes more long) refl
block_order-of_longer_whole_block InterfaceDescription order bytes more long = refl
block_order-of_longer_whole_block EnhancedPacket order bytes more long = refl
block_order-of_longer_whole_block Other order bytes more long = refl

-- each kind of block has at least 12 bytes
pub whole_block_is_long : (kind : BlockKind) → 12 ≤ least_length kind
whole_block_is_long SectionHeader = omega arith
whole_block_is_long InterfaceDescription = omega arith
whole_block_is_long EnhancedPacket = omega arith
whole_block_is_long Other = omega arith

-- a whole block is the same when more bytes follow
pub block_at-of_longer_whole_block : (at : SectionPlace) (bytes more : List ℕ) → block_verdict at bytes ≡ IsWhole
    → block_at at.order (bytes ++ more) ≡ block_at at.order bytes
block_at-of_longer_whole_block at bytes more whole =
    let kind = block_kind at.order bytes in
    let fits = verdict_fits at (length bytes) bytes _ whole in
    let tells = verdict_tells at (length bytes) bytes _ whole in
    let long : 12 ≤ length bytes = omega (arith, fits.least, fits.there, whole_block_is_long kind) in
    let same : block_order kind at.order (bytes ++ more) ≡ block_order kind at.order bytes =
    block_order-of_longer_whole_block kind at.order bytes more long in
    let content : block_content kind at.order (bytes ++ more) ≡ block_content kind at.order bytes =
    block_content-of_longer_whole_block kind at.order _ _ bytes more fits tells in
    let size : verdict_size kind at.order (bytes ++ more) ≡ verdict_size kind at.order bytes =
    ap (λ order. number_in_order order 4 4 (bytes ++ more)) same
    ∙ number_in_order-of_longer_block (block_order kind at.order bytes) 4 4 bytes more (omega arith) in
    rw (number_in_order-of_longer_block at.order 4 0 bytes more (omega arith)) (rw (size, content) refl)

-- ---- in the bytes at its front

-- the least of two fronts
whole_block_least_front : (n m : ℕ) (xs : List ℕ) → take n (take m (take n xs)) ≡ take n (take m xs)
whole_block_least_front n m xs = elim (cases_lt n m) [
  | inl longer ↦
      ap (take n) (take_all m (take n xs) (omega (arith, length-take n xs))) ∙ take-take n n xs (omega arith)
      ∙ sym (take-take n m xs (omega arith))
  | inr short ↦ ap (take n) (take-take m n xs short)
]

packet_frame-of_whole_block_front : (order : FileOrder) (bytes : List ℕ) → packet_frame order (take 70 bytes) ≡ packet_frame order bytes
packet_frame-of_whole_block_front order bytes =
    rw (
      number_in_order-of_block_front order 4 20 70 bytes (omega arith),
      number_in_order-of_block_front order 4 24 70 bytes (omega arith),
      drop-take 28 42 bytes,
      whole_block_least_front 42 (number_in_order order 4 20 bytes) (drop 28 bytes),
    ) refl

pub block_order-of_whole_block_front : (kind : BlockKind) (order : FileOrder) (bytes : List ℕ)
    → block_order kind order (take 70 bytes) ≡ block_order kind order bytes
block_order-of_whole_block_front SectionHeader order bytes = rw (order_of_section-of_block_front 70 bytes (omega arith)) refl
block_order-of_whole_block_front InterfaceDescription order bytes = refl
block_order-of_whole_block_front EnhancedPacket order bytes = refl
block_order-of_whole_block_front Other order bytes = refl

block_content-of_whole_block_front : (kind : BlockKind) (order : FileOrder) (bytes : List ℕ)
    → block_content kind order (take 70 bytes) ≡ block_content kind order bytes
block_content-of_whole_block_front SectionHeader order bytes = rw (order_of_section-of_block_front 70 bytes (omega arith)) refl
block_content-of_whole_block_front InterfaceDescription order bytes =
    rw (number_in_order-of_block_front order 2 8 70 bytes (omega arith)) refl
block_content-of_whole_block_front EnhancedPacket order bytes =
    rw (number_in_order-of_block_front order 4 8 70 bytes (omega arith), packet_frame-of_whole_block_front order bytes) refl
block_content-of_whole_block_front Other order bytes = refl

-- the first 70 bytes hold what a block says
pub block_at-of_whole_block_front : (order : FileOrder) (bytes : List ℕ) → block_at order (take 70 bytes) ≡ block_at order bytes
block_at-of_whole_block_front order bytes =
    let kind = block_kind order bytes in
    let size : verdict_size kind order (take 70 bytes) ≡ verdict_size kind order bytes =
    ap (λ own. number_in_order own 4 4 (take 70 bytes)) (block_order-of_whole_block_front kind order bytes)
    ∙ number_in_order-of_block_front (block_order kind order bytes) 4 4 70 bytes (omega arith) in
    rw (number_in_order-of_block_front order 4 0 70 bytes (omega arith))
    (rw (size, block_content-of_whole_block_front kind order bytes) refl)

-- ---- the frame of a packet

-- numbers below 256
abbrev pub AreWholeBlockBytes : List ℕ → Type 0
AreWholeBlockBytes xs = (place : ℕ) → get_or xs place 0 < 256

AreWholeBlockBytes-take : (n : ℕ) (xs : List ℕ) → AreWholeBlockBytes xs → AreWholeBlockBytes (take n xs)
AreWholeBlockBytes-take n xs bytes place = elim (cases_lt place n) [
  | inl below ↦ rw (get_or-take n xs place 0 below) (bytes place)
  | inr past ↦ rw (get_or_past (take n xs) place 0 (omega (arith, length-take n xs))) (omega arith)
]

pub AreWholeBlockBytes-drop : (n : ℕ) (xs : List ℕ) → AreWholeBlockBytes xs → AreWholeBlockBytes (drop n xs)
AreWholeBlockBytes-drop n xs bytes place = rw (get_or-drop n xs place 0) (bytes (n + place))

-- the frame of a packet of bytes is a frame of a capture
pub IsFrame-in_whole_block : (order : FileOrder) (size interfaces : ℕ) (bytes : List ℕ) → AreWholeBlockBytes bytes
    → size ≤ length bytes → PacketVerdictTells order size interfaces bytes → IsFrame (packet_frame order bytes)
IsFrame-in_whole_block order size interfaces bytes are there tells =
    let fits : number_in_order order 4 24 bytes < 256 ^ 4 = number_in_order-of_four_block_bytes order 24 bytes in record {
      captured = tells.limit;
      original = omega (arith, fits);
      head =
          omega (
            arith,
            length-take 42 (take (number_in_order order 4 20 bytes) (drop 28 bytes)),
            length-take (number_in_order order 4 20 bytes) (drop 28 bytes),
            length-drop 28 bytes,
            tells.room,
          );
      head_bytes =
          AreWholeBlockBytes-take 42 _
          (AreWholeBlockBytes-take (number_in_order order 4 20 bytes) _ (AreWholeBlockBytes-drop 28 bytes are));
    }
