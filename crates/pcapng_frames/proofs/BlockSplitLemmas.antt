-- Splits of bytes into blocks: when more bytes follow, one block more, and that there is one.
use Rattle.std.proofs.Common.{ℕ, zero, suc, ◌≡◌, ◌+◌, ◌≤◌, List, [], ◌∷◌, ◌++◌, length, drop, refl, sym, ap, ◌∙◌, arith}
use Rattle.std.proofs.Common.{length-drop, subst, inl, inr, append-nil, append_assoc}
use Rattle.std.proofs.lemmas.List.{drop-append-le}
use Rattle.pcap_frames.specs.{FrameValue}
use Rattle.pcapng_frames.specs.declared.verdict.Verdict.TheVariants.{IsWhole}
use Rattle.pcapng_frames.specs.Block.{BlockValue, block_kind, block_at, block_length}
use Rattle.pcapng_frames.specs.Section.{SectionPlace, before_blocks, after_block, after_blocks, frames_of_blocks, frames_of_content}
use Rattle.pcapng_frames.specs.Verdict.{block_verdict}
use Rattle.pcapng_frames.specs.NgCapture.{BeginsWithBlock, BeginsWithBlocks, SplitsBlocks}
use Rattle.pcapng_frames.proofs.VerdictLemmas.{verdict_stays, verdict_fits, verdict_waits_or_is_whole, verdict_is_wrong_or_whole, verdict_is_one}
use Rattle.pcapng_frames.proofs.WholeBlockLemmas.{whole_block_is_long, block_at-of_longer_whole_block}

-- ---- one block

-- a whole block has a length, and no more bytes than there are
pub record SplitBlockFits (bytes : List ℕ) (block : BlockValue) : Type 0 where
  pub some : 12 ≤ block.size
  pub there : block.size ≤ length bytes

pub split_block_fits : (at : SectionPlace) (bytes : List ℕ) (block : BlockValue) → BeginsWithBlock at bytes block
    → SplitBlockFits bytes block
split_block_fits at bytes block begins =
    let fits = verdict_fits at (length bytes) bytes _ begins.whole in
    let long = whole_block_is_long (block_kind at.order bytes) in
    let size : block.size ≡ block_length at.order bytes = ap (λ b. b.size) begins.is_block in
    record { some = omega (arith, fits.least); there = omega (arith, fits.there) }

-- a whole block at the front stays there when more bytes follow
pub split_block_stays : (at : SectionPlace) (bytes more : List ℕ) (block : BlockValue) → BeginsWithBlock at bytes block
    → BeginsWithBlock at (bytes ++ more) block
split_block_stays at bytes more block begins = record {
  whole =
      verdict_stays at bytes more (λ waits. verdict_waits_or_is_whole (block_verdict at bytes) waits begins.whole)
      ∙ begins.whole;
  is_block = begins.is_block ∙ sym (block_at-of_longer_whole_block at bytes more begins.whole);
}

-- ---- blocks

-- blocks at the front stay there when more bytes follow
pub split_blocks_stay : (at : SectionPlace) (bytes more : List ℕ) (blocks : List BlockValue) (rest : List ℕ)
    → BeginsWithBlocks at bytes blocks rest → BeginsWithBlocks at (bytes ++ more) blocks (rest ++ more)
split_blocks_stay at bytes more [] rest begins = ap (λ l. l ++ more) begins
split_blocks_stay at bytes more (block ∷ blocks) rest begins =
    let fits = split_block_fits at bytes block begins.0 in (
      split_block_stays at bytes more block begins.0,
      rw (drop-append-le block.size bytes more fits.there)
          (split_blocks_stay (after_block at block) (drop block.size bytes) more blocks rest begins.1),
    )

-- one block more
pub split_blocks_and_one : (at : SectionPlace) (bytes : List ℕ) (blocks : List BlockValue) (rest : List ℕ) (block : BlockValue)
    → BeginsWithBlocks at bytes blocks rest → BeginsWithBlock (after_blocks at blocks) rest block
    → BeginsWithBlocks at bytes (blocks ++ block ∷ []) (drop block.size rest)
split_blocks_and_one at bytes [] rest block begins next =
    (subst (λ l. BeginsWithBlock at l block) begins next, ap (drop block.size) begins)
split_blocks_and_one at bytes (first ∷ blocks) rest block begins next = (
  begins.0,
  split_blocks_and_one (after_block at first) (drop first.size bytes) blocks rest block begins.1 next,
)

-- more blocks
pub split_blocks_then : (at : SectionPlace) (bytes : List ℕ) (blocks : List BlockValue) (rest : List ℕ) (more : List BlockValue) (last : List ℕ)
    → BeginsWithBlocks at bytes blocks rest → BeginsWithBlocks (after_blocks at blocks) rest more last
    → BeginsWithBlocks at bytes (blocks ++ more) last
split_blocks_then at bytes [] rest more last begins next = subst (λ l. BeginsWithBlocks at l more last) begins next
split_blocks_then at bytes (first ∷ blocks) rest more last begins next =
    (begins.0, split_blocks_then (after_block at first) (drop first.size bytes) blocks rest more last begins.1 next)

pub after_split_blocks : (at : SectionPlace) (blocks more : List BlockValue)
    → after_blocks at (blocks ++ more) ≡ after_blocks (after_blocks at blocks) more
after_split_blocks at [] more = refl
after_split_blocks at (block ∷ blocks) more = after_split_blocks (after_block at block) blocks more

pub frames_of_split_blocks : (at : SectionPlace) (blocks more : List BlockValue)
    → frames_of_blocks at (blocks ++ more) ≡ frames_of_blocks at blocks ++ frames_of_blocks (after_blocks at blocks) more
frames_of_split_blocks at [] more = refl
frames_of_split_blocks at (block ∷ blocks) more =
    let own = frames_of_content at.interfaces block.content in
    ap (λ l. own ++ l) (frames_of_split_blocks (after_block at block) blocks more)
    ∙ sym (append_assoc own (frames_of_blocks (after_block at block) blocks) (frames_of_blocks (after_blocks (after_block at block) blocks) more))

-- the number of the blocks
pub split_blocks_count : (at : SectionPlace) (blocks : List BlockValue) → SectionPlace.count (after_blocks at blocks) ≡ at.count + length blocks
split_blocks_count at [] = omega arith
split_blocks_count at (block ∷ blocks) = omega (arith, split_blocks_count (after_block at block) blocks)

-- the bytes of the blocks and of the rest
pub split_blocks_place : (at : SectionPlace) (bytes : List ℕ) (blocks : List BlockValue) (rest : List ℕ)
    → BeginsWithBlocks at bytes blocks rest → SectionPlace.place (after_blocks at blocks) + length rest ≡ at.place + length bytes
split_blocks_place at bytes [] rest begins = omega (arith, ap length begins)
split_blocks_place at bytes (block ∷ blocks) rest begins =
    let fits = split_block_fits at bytes block begins.0 in
    let behind = split_blocks_place (after_block at block) (drop block.size bytes) blocks rest begins.1 in
    omega (arith, behind, fits.there, length-drop block.size bytes)

-- ---- each split is the same up to where it ends

-- blocks that begin the bytes begin each list of blocks that no block can follow
pub last_block_split_begins : (at : SectionPlace) (bytes more : List ℕ) (blocks others : List BlockValue) (rest last : List ℕ)
    → BeginsWithBlocks at bytes blocks rest → BeginsWithBlocks at (bytes ++ more) others last
    → (block_verdict (after_blocks at others) last ≡ IsWhole → ⊥)
    → (behind : List BlockValue) × (others ≡ blocks ++ behind) × BeginsWithBlocks (after_blocks at blocks) (rest ++ more) behind last
last_block_split_begins at bytes more [] others rest last here there no_more =
    (others, refl, subst (λ l. BeginsWithBlocks at (l ++ more) others last) (sym here) there)
last_block_split_begins at bytes more (block ∷ blocks) [] rest last here there no_more =
    let still = split_block_stays at bytes more block here.0 in
    absurd (no_more (subst (λ l. block_verdict at l ≡ IsWhole) (sym there) still.whole))
last_block_split_begins at bytes more (block ∷ blocks) (other ∷ others) rest last here there no_more =
    let still = split_block_stays at bytes more block here.0 in
    let same : other ≡ block = there.0.is_block ∙ sym still.is_block in
    let fits = split_block_fits at bytes block here.0 in
    let next : BeginsWithBlocks (after_block at block) (drop block.size bytes ++ more) others last =
    subst (λ l. BeginsWithBlocks (after_block at block) l others last) (drop-append-le block.size bytes more fits.there)
    (subst (λ (b : BlockValue). BeginsWithBlocks (after_block at b) (drop b.size (bytes ++ more)) others last) same there.1) in
    let ends : block_verdict (after_blocks (after_block at block) others) last ≡ IsWhole → ⊥ =
    subst (λ (b : BlockValue). block_verdict (after_blocks (after_block at b) others) last ≡ IsWhole → ⊥) same no_more in
    let behind = last_block_split_begins (after_block at block) (drop block.size bytes) more blocks others rest last here.1 next ends in
    let joined : other ∷ others ≡ (block ∷ blocks) ++ behind.0 =
    ap (λ b. b ∷ others) same ∙ ap (λ l. block ∷ l) behind.1 in
    (behind.0, joined, behind.2)

block_split_ends_here : (at : SectionPlace) (blocks others : List BlockValue) (rest last : List ℕ) (behind : List BlockValue)
    → others ≡ blocks ++ behind → BeginsWithBlocks (after_blocks at blocks) rest behind last
    → (block_verdict (after_blocks at blocks) rest ≡ IsWhole → ⊥) → (others ≡ blocks) × (last ≡ rest)
block_split_ends_here at blocks others rest last [] joined begins ends = (joined ∙ append-nil blocks, begins)
block_split_ends_here at blocks others rest last (block ∷ behind) joined begins ends = absurd (ends begins.0.whole)

-- two lists of blocks of the same bytes that no block can follow are the same, and so are their rests
pub last_block_split_is_one : (at : SectionPlace) (bytes : List ℕ) (blocks others : List BlockValue) (rest last : List ℕ)
    → BeginsWithBlocks at bytes blocks rest → BeginsWithBlocks at bytes others last
    → (block_verdict (after_blocks at blocks) rest ≡ IsWhole → ⊥) → (block_verdict (after_blocks at others) last ≡ IsWhole → ⊥)
    → (others ≡ blocks) × (last ≡ rest)
last_block_split_is_one at bytes blocks others rest last here there ends ends_too =
    let found = last_block_split_begins at bytes [] blocks others rest last here
    (subst (λ l. BeginsWithBlocks at l others last) (sym (append-nil bytes)) there) ends_too in
    block_split_ends_here at blocks others rest last found.0 found.1
    (subst (λ l. BeginsWithBlocks (after_blocks at blocks) l found.0 last) (append-nil rest) found.2) ends

-- ---- there is one

-- the blocks at the front of these bytes, as far as they are whole
pub record LastBlockSplit (at : SectionPlace) (bytes : List ℕ) : Type 0 where
  pub blocks : List BlockValue
  pub rest : List ℕ
  pub begins : BeginsWithBlocks at bytes blocks rest
  pub no_more : block_verdict (after_blocks at blocks) rest ≡ IsWhole → ⊥

-- the same from the first block of a file on, with the frames of the blocks
pub record SplitsAllBlocks (bytes : List ℕ) (frames : List FrameValue) : Type 0 where
  pub blocks : List BlockValue
  pub rest : List ℕ
  pub splits : SplitsBlocks bytes blocks rest frames
  pub no_more : block_verdict (after_blocks before_blocks blocks) rest ≡ IsWhole → ⊥

no_block_split : (at : SectionPlace) (bytes : List ℕ) → (block_verdict at bytes ≡ IsWhole → ⊥) → LastBlockSplit at bytes
no_block_split at bytes none = record { blocks = []; rest = bytes; begins = refl; no_more = none }

last_block_split_within : (bound : ℕ) (at : SectionPlace) (bytes : List ℕ) → length bytes ≤ bound → LastBlockSplit at bytes
last_block_split_within zero at bytes short = elim (verdict_is_one (block_verdict at bytes)) [
  | inl waits ↦ no_block_split at bytes (verdict_waits_or_is_whole (block_verdict at bytes) waits)
  | inr (inl wrong) ↦ no_block_split at bytes (verdict_is_wrong_or_whole (block_verdict at bytes) wrong.0 wrong.1)
  | inr (inr whole) ↦
      let fits = split_block_fits at bytes (block_at at.order bytes) (record { whole = whole; is_block = refl }) in
      absurd (omega (arith, fits.some, fits.there))
]
last_block_split_within (suc bound) at bytes short = elim (verdict_is_one (block_verdict at bytes)) [
  | inl waits ↦ no_block_split at bytes (verdict_waits_or_is_whole (block_verdict at bytes) waits)
  | inr (inl wrong) ↦ no_block_split at bytes (verdict_is_wrong_or_whole (block_verdict at bytes) wrong.0 wrong.1)
  | inr (inr whole) ↦
      let block = block_at at.order bytes in
      let first : BeginsWithBlock at bytes block = record { whole = whole; is_block = refl } in
      let fits = split_block_fits at bytes block first in
      let behind = last_block_split_within bound (after_block at block) (drop block.size bytes)
      (omega (arith, length-drop block.size bytes, fits.some, fits.there)) in
      record { blocks = block ∷ behind.blocks; rest = behind.rest; begins = (first, behind.begins); no_more = behind.no_more }
]

pub last_block_split : (at : SectionPlace) (bytes : List ℕ) → LastBlockSplit at bytes
last_block_split at bytes = last_block_split_within (length bytes) at bytes (omega arith)
