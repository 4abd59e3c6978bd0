-- The limits of pcapng captures: on blocks, frames and places, and what fewer than four bytes show.
use Rattle.std.proofs.Common.{ℕ, refl, ◌≡◌, ◌+◌, ◌*◌, ◌^◌, ◌≤◌, ◌<◌, Bool, true, false, List, [], ◌∷◌, length, drop, ap, arith, inl, inr, subst}
use Rattle.std.proofs.Common.{length-append}
use Rattle.std.specs.Prelude.{⊤, if◌then◌else◌, nat_lt, not, is_none, ◌==◌, ◌%◌, ◌&&◌}
use Rattle.std.proofs.lemmas.Bool.{lt-ltb, le-ltb, cases_Bool, cases_lt}
use Rattle.pcap_frames.specs.{FrameValue, IsEndFault, frame_count_limit, number_in_order, fed_limit}
use Rattle.pcap_frames.specs.declared.file_order.FileOrder.{FileOrder}
use Rattle.pcap_frames.specs.declared.fault.CaptureFault.{CaptureFault}
use Rattle.pcap_frames.specs.declared.fault.FaultKind.{FaultKind}
use Rattle.pcap_frames.specs.declared.fault.FaultKind.TheVariants.{NotCapture, Version, LongFrame, ByteOrder, BadBlock, BadTail, BadInterface, TooManyBlocks}
use Rattle.pcapng_frames.specs.declared.block.BlockKind.{BlockKind}
use Rattle.pcapng_frames.specs.declared.block.BlockKind.TheVariants.{SectionHeader, InterfaceDescription, EnhancedPacket, Other}
use Rattle.pcapng_frames.specs.declared.verdict.Verdict.{Verdict}
use Rattle.pcapng_frames.specs.declared.verdict.Verdict.TheVariants.{Waits, IsWrong, IsWhole}
use Rattle.pcapng_frames.specs.Block.{BlockContent, Section, Interface, Packet, Nothing, BlockValue, block_kind, block_order, block_length, order_of_section}
use Rattle.pcapng_frames.specs.Section.{SectionPlace, before_blocks, after_block, after_blocks, frames_of_blocks, frames_of_content, is_ethernet}
use Rattle.pcapng_frames.specs.Verdict.{tested, length_tested, tail_tested, kind_verdict, is_no_section, verdict_of, block_verdict}
use Rattle.pcapng_frames.specs.NgCapture.{BeginsWithBlocks, ShowsNgFault, HasNgFaultAfter}
use Rattle.pcapng_frames.specs.NgPart.{block_needs}
use Rattle.pcapng_frames.proofs.BlockNumberLemmas.{number_in_order-of_four_block_bytes}
use Rattle.pcapng_frames.proofs.KeptVerdictLemmas.{kept_verdict_has_room, kept_verdict_needs_more}
use Rattle.pcapng_frames.proofs.BlockSplitLemmas.{SplitsAllBlocks, split_block_fits, split_blocks_count, split_blocks_place}

-- ---- a fault that is shown is not one of the end of a file

abbrev IsNoEndLimit : Verdict → Type 0
IsNoEndLimit Waits = ⊤
IsNoEndLimit (IsWrong kind) = IsEndFault kind → ⊥
IsNoEndLimit IsWhole = ⊤

record ShowsNoEndLimit (verdict : Verdict) : Type 0 where
  pub shown : IsNoEndLimit verdict

either_shows_no_end_limit : (test : Bool) (one other : Verdict) → ShowsNoEndLimit one → ShowsNoEndLimit other
    → ShowsNoEndLimit (if test then one else other)
either_shows_no_end_limit true one other shows other_shows = shows
either_shows_no_end_limit false one other shows other_shows = other_shows

test_shows_no_end_limit : (came needed : ℕ) (fails : Bool) (kind : FaultKind) (next : Verdict) → (IsEndFault kind → ⊥)
    → ShowsNoEndLimit next → ShowsNoEndLimit (tested came needed fails kind next)
test_shows_no_end_limit came needed fails kind next no_end behind =
    either_shows_no_end_limit (nat_lt came needed) Waits (if fails then IsWrong kind else next) (record { shown = tt })
    (either_shows_no_end_limit fails (IsWrong kind) next (record { shown = no_end }) behind)

length_shows_no_end_limit : (came needed least size : ℕ) (next : Verdict) → ShowsNoEndLimit next
    → ShowsNoEndLimit (length_tested came needed least size next)
length_shows_no_end_limit came needed least size next behind =
    test_shows_no_end_limit came needed (nat_lt size least) BadBlock _ (λ ends. ends)
    (test_shows_no_end_limit came needed (not (size % 4 == 0)) BadBlock next (λ ends. ends) behind)

tail_shows_no_end_limit : (came : ℕ) (order : FileOrder) (size : ℕ) (last : List ℕ) → ShowsNoEndLimit (tail_tested came order size last)
tail_shows_no_end_limit came order size last =
    test_shows_no_end_limit came size (not (number_in_order order 4 0 last == size)) BadTail IsWhole (λ ends. ends) (record { shown = tt })

kind_shows_no_end_limit : (kind : BlockKind) (order : FileOrder) (size interfaces came : ℕ) (bytes last : List ℕ)
    → ShowsNoEndLimit (kind_verdict kind order size interfaces came bytes last)
kind_shows_no_end_limit SectionHeader order size interfaces came bytes last =
    test_shows_no_end_limit came 12 (is_none (order_of_section bytes)) ByteOrder _ (λ ends. ends)
    (length_shows_no_end_limit came 12 28 size _
    (test_shows_no_end_limit came 14 (not (number_in_order order 2 12 bytes == 1)) Version _ (λ ends. ends)
    (tail_shows_no_end_limit came order size last)))
kind_shows_no_end_limit InterfaceDescription order size interfaces came bytes last =
    length_shows_no_end_limit came 8 20 size _ (tail_shows_no_end_limit came order size last)
kind_shows_no_end_limit EnhancedPacket order size interfaces came bytes last =
    length_shows_no_end_limit came 8 32 size _
    (test_shows_no_end_limit came 12 (not (nat_lt (number_in_order order 4 8 bytes) interfaces)) BadInterface _ (λ ends. ends)
    (test_shows_no_end_limit came 24 (nat_lt 262144 (number_in_order order 4 20 bytes)) LongFrame _ (λ ends. ends)
    (test_shows_no_end_limit came 24 (nat_lt size (number_in_order order 4 20 bytes + 32)) BadBlock _ (λ ends. ends)
    (tail_shows_no_end_limit came order size last))))
kind_shows_no_end_limit Other order size interfaces came bytes last =
    length_shows_no_end_limit came 8 12 size _ (tail_shows_no_end_limit came order size last)

verdict_shows_no_end_limit : (at : SectionPlace) (came : ℕ) (bytes last : List ℕ) → ShowsNoEndLimit (verdict_of at came bytes last)
unfolding verdict_of
verdict_shows_no_end_limit at came bytes last =
    test_shows_no_end_limit came 1 (at.count == 16777216) TooManyBlocks _ (λ ends. ends)
    (test_shows_no_end_limit came 4 (at.count == 0 && is_no_section (block_kind at.order bytes)) NotCapture _ (λ ends. ends)
    (kind_shows_no_end_limit (block_kind at.order bytes) _ _ _ came bytes last))

wrong_is_no_end_limit : (verdict : Verdict) (kind : FaultKind) → ShowsNoEndLimit verdict → verdict ≡ IsWrong kind → IsEndFault kind → ⊥
wrong_is_no_end_limit verdict kind shows is = subst IsNoEndLimit is shows.shown

pub blocks_show_no_end_limit : (front : List ℕ) (frames : List FrameValue) (fault : CaptureFault) → ShowsNgFault front frames fault
    → IsEndFault fault.kind → ⊥
blocks_show_no_end_limit front frames fault shows =
    wrong_is_no_end_limit _ fault.kind (verdict_shows_no_end_limit (after_blocks before_blocks shows.blocks) _ shows.rest _) shows.shown

-- ---- how many blocks, frames and bytes

-- at most 16,777,216 blocks
limit_of_blocks : (at : SectionPlace) (bytes : List ℕ) (blocks : List BlockValue) (rest : List ℕ) → BeginsWithBlocks at bytes blocks rest
    → at.count ≤ 16777216 → SectionPlace.count (after_blocks at blocks) ≤ 16777216
limit_of_blocks at bytes [] rest begins fits = fits
limit_of_blocks at bytes (block ∷ blocks) rest begins fits =
    let room = kept_verdict_has_room at (length bytes) bytes _ begins.0.whole fits in
    limit_of_blocks (after_block at block) (drop block.size bytes) blocks rest begins.1 (omega (arith, room))

-- a block gives at most one frame
limit_of_content_frames : (interfaces : List Bool) (content : BlockContent) → length (frames_of_content interfaces content) ≤ 1
limit_of_content_frames interfaces (Section own) = omega arith
limit_of_content_frames interfaces (Interface ethernet) = omega arith
limit_of_content_frames interfaces (Packet interface frame) = elim (cases_Bool (is_ethernet interfaces interface)) [
  | inl shown ↦ rw shown (omega arith)
  | inr passed ↦ rw passed (omega arith)
]
limit_of_content_frames interfaces Nothing = omega arith

limit_of_block_frames : (at : SectionPlace) (blocks : List BlockValue) → length (frames_of_blocks at blocks) ≤ length blocks
limit_of_block_frames at [] = omega arith
limit_of_block_frames at (block ∷ blocks) =
    omega (
      arith,
      limit_of_content_frames at.interfaces block.content,
      limit_of_block_frames (after_block at block) blocks,
      length-append (frames_of_content at.interfaces block.content) (frames_of_blocks (after_block at block) blocks),
    )

pub ng_frames_are_limited : (front : List ℕ) (frames : List FrameValue) → SplitsAllBlocks front frames → length frames ≤ frame_count_limit
ng_frames_are_limited front frames here =
    omega (
      arith,
      ap length here.splits.frames_are,
      limit_of_block_frames before_blocks here.blocks,
      split_blocks_count before_blocks here.blocks,
      limit_of_blocks before_blocks front here.blocks here.rest here.splits.begins (omega arith),
    )

-- a block has fewer than 2^32 bytes
limit_of_block_places : (at : SectionPlace) (bytes : List ℕ) (blocks : List BlockValue) (rest : List ℕ) → BeginsWithBlocks at bytes blocks rest
    → at.place ≤ 2 ^ 32 * at.count
    → SectionPlace.place (after_blocks at blocks) ≤ 2 ^ 32 * SectionPlace.count (after_blocks at blocks)
limit_of_block_places at bytes [] rest begins fits = fits
limit_of_block_places at bytes (block ∷ blocks) rest begins fits =
    let size : block.size ≡ block_length at.order bytes = ap (λ (b : BlockValue). b.size) begins.0.is_block in
    let bound = number_in_order-of_four_block_bytes (block_order (block_kind at.order bytes) at.order bytes) 4 bytes in
    limit_of_block_places (after_block at block) (drop block.size bytes) blocks rest begins.1 (omega (arith, size, bound, fits))

limit_of_place_after_blocks : (bytes : List ℕ) (blocks : List BlockValue) (rest : List ℕ) → BeginsWithBlocks before_blocks bytes blocks rest
    → SectionPlace.place (after_blocks before_blocks blocks) ≤ 2 ^ 56
limit_of_place_after_blocks bytes blocks rest begins =
    omega (
      arith,
      limit_of_block_places before_blocks bytes blocks rest begins (omega arith),
      limit_of_blocks before_blocks bytes blocks rest begins (omega arith),
    )

pub ng_fault_place_is_limited : (file : List ℕ) (frames : List FrameValue) (fault : CaptureFault) → HasNgFaultAfter file frames fault
    → fault.place < 2 ^ 64
ng_fault_place_is_limited file frames fault (inl shows) =
    let splits = shows.splits in
    omega (arith, shows.place_is, limit_of_place_after_blocks file shows.blocks shows.rest splits.begins)
ng_fault_place_is_limited file frames fault (inr ends) =
    let splits = ends.splits in
    let at : fault.place ≡ SectionPlace.place (after_blocks before_blocks ends.blocks) =
    ap (λ (f : CaptureFault). f.place) ends.is_fault in
    omega (arith, at, limit_of_place_after_blocks file ends.blocks ends.rest splits.begins)

-- a block needs fewer than 2^32 bytes
limit_of_block_needs : (order : FileOrder) (came : ℕ) (bytes : List ℕ) → block_needs order came bytes < 2 ^ 32
unfolding block_needs
limit_of_block_needs order came bytes = elim (cases_lt came 12) [
  | inl short ↦ rw (lt-ltb came 12 short) (omega arith)
  | inr there ↦ rw (le-ltb came 12 there) (number_in_order-of_four_block_bytes (block_order (block_kind order bytes) order bytes) 4 bytes)
]

-- the bytes of blocks and of a rest that waits
pub limit_of_waiting_bytes : (bytes : List ℕ) (blocks : List BlockValue) (rest : List ℕ) → BeginsWithBlocks before_blocks bytes blocks rest
    → block_verdict (after_blocks before_blocks blocks) rest ≡ Waits → length bytes ≤ fed_limit
limit_of_waiting_bytes bytes blocks rest begins waits =
    let at = after_blocks before_blocks blocks in
    omega (
      arith,
      split_blocks_place before_blocks bytes blocks rest begins,
      limit_of_place_after_blocks bytes blocks rest begins,
      kept_verdict_needs_more at (length rest) rest _ waits,
      limit_of_block_needs (SectionPlace.order at) (length rest) rest,
    )

-- ---- fewer than four bytes

pub short_limit_has_no_frame : (front : List ℕ) (blocks : List BlockValue) (rest : List ℕ) → length front < 4
    → BeginsWithBlocks before_blocks front blocks rest → blocks ≡ []
short_limit_has_no_frame front [] rest short begins = refl
short_limit_has_no_frame front (block ∷ blocks) rest short begins =
    let fits = split_block_fits before_blocks front block begins.0 in
    absurd (omega (arith, short, fits.some, fits.there))

short_limit_waits : (rest : List ℕ) → length rest < 4 → block_verdict before_blocks rest ≡ Waits
unfolding verdict_of
short_limit_waits rest short = elim (cases_lt (length rest) 1) [
  | inl none ↦ rw (lt-ltb (length rest) 1 none) refl
  | inr some ↦ rw (le-ltb (length rest) 1 some, lt-ltb (length rest) 4 short) refl
]

pub ng_front_begins_without_frame : (front : List ℕ) (frames : List FrameValue) → length front < 4 → SplitsAllBlocks front frames → frames ≡ []
ng_front_begins_without_frame front frames short here =
    let none = short_limit_has_no_frame front here.blocks here.rest short here.splits.begins in
    subst (λ (b : List BlockValue). frames ≡ frames_of_blocks before_blocks b) none here.splits.frames_are

pub ng_front_begins_without_fault : (front : List ℕ) (frames : List FrameValue) (fault : CaptureFault) → length front < 4
    → ShowsNgFault front frames fault → ⊥
ng_front_begins_without_fault front frames fault short shows =
    let none = short_limit_has_no_frame front shows.blocks shows.rest short shows.splits.begins in
    let begins : shows.rest ≡ front =
    subst (λ (b : List BlockValue). BeginsWithBlocks before_blocks front b shows.rest) none shows.splits.begins in
    let shown : block_verdict before_blocks shows.rest ≡ IsWrong fault.kind =
    subst (λ (b : List BlockValue). block_verdict (after_blocks before_blocks b) shows.rest ≡ IsWrong fault.kind) none shows.shown in
    let waits = short_limit_waits shows.rest (omega (arith, ap length begins, short)) in
    cc
