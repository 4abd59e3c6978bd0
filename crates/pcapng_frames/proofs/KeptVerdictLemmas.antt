-- The verdict on what is kept of a block is that on all of its bytes.
use Rattle.std.proofs.Common.{ℕ, suc, ◌≡◌, ◌+◌, ◌-◌, ◌%◌, ◌≤◌, ◌<◌, Bool, false, not, ◌&&◌, ltb, eqb, is_none, List, ◌∷◌, ◌++◌, length, take, drop}
use Rattle.std.proofs.Common.{refl, sym, ap, ◌∙◌, arith, length-append, length-take, inl, inr}
use Rattle.std.proofs.lemmas.Bool.{ltb-false, eqb-false, lt-ltb, le-ltb, cases_Bool, cases_lt}
use Rattle.std.proofs.lemmas.List.{drop-append-le, take_all, take-take, take-append-le}
use Rattle.std.proofs.Math.Seq.{drop-drop}
use Rattle.pcap_frames.specs.{number_in_order}
use Rattle.pcap_frames.specs.declared.file_order.FileOrder.{FileOrder}
use Rattle.pcap_frames.specs.declared.fault.FaultKind.{FaultKind}
use Rattle.pcap_frames.specs.declared.fault.FaultKind.TheVariants.{NotCapture, Version, LongFrame, ByteOrder, BadBlock, BadTail, BadInterface, TooManyBlocks}
use Rattle.pcapng_frames.specs.declared.block.BlockKind.{BlockKind}
use Rattle.pcapng_frames.specs.declared.block.BlockKind.TheVariants.{SectionHeader, InterfaceDescription, EnhancedPacket, Other}
use Rattle.pcapng_frames.specs.declared.verdict.Verdict.{Verdict}
use Rattle.pcapng_frames.specs.declared.verdict.Verdict.TheVariants.{Waits, IsWhole}
use Rattle.pcapng_frames.specs.Block.{order_of_section, kind_of_type, block_kind, block_order, block_length}
use Rattle.pcapng_frames.specs.Section.{SectionPlace}
use Rattle.pcapng_frames.specs.Verdict.{tested, length_tested, tail_tested, section_verdict, packet_verdict, kind_verdict}
use Rattle.pcapng_frames.specs.Verdict.{verdict_of, block_verdict, is_no_section}
use Rattle.pcapng_frames.specs.Kept.{KeptValue, kept_of, kept_and, kept_verdict}
use Rattle.pcapng_frames.specs.NgPart.{block_needs}
use Rattle.pcapng_frames.proofs.BlockNumberLemmas.{number_in_order-of_block_front, order_of_section-of_block_front}
use Rattle.pcapng_frames.proofs.BlockNumberLemmas.{number_in_order-of_longer_block}
use Rattle.pcapng_frames.proofs.VerdictLemmas.{verdict_size, verdict_passed, verdict_waited}
use Rattle.pcapng_frames.proofs.WholeBlockLemmas.{block_order-of_whole_block_front, block_order-of_longer_whole_block}

-- ---- the same tests

-- two verdicts are the same
record SameKeptVerdict (now next : Verdict) : Type 0 where
  pub same : now ≡ next

same_kept_verdict_tested : (came needed : ℕ) (fails : Bool) (kind : FaultKind) (next now : Verdict)
    → (needed ≤ came → fails ≡ false → SameKeptVerdict now next)
    → SameKeptVerdict (tested came needed fails kind now) (tested came needed fails kind next)
same_kept_verdict_tested came needed fails kind next now same = elim (cases_lt came needed) [
  | inl short ↦ rw (lt-ltb came needed short) (record { same = refl })
  | inr there ↦ rw (le-ltb came needed there) (elim (cases_Bool fails) [
    | inl wrong ↦ rw wrong (record { same = refl })
    | inr right ↦ rw right (same there right)
  ])
]

same_kept_verdict_length : (came needed least size : ℕ) (next now : Verdict) → (least ≤ size → SameKeptVerdict now next)
    → SameKeptVerdict (length_tested came needed least size now) (length_tested came needed least size next)
same_kept_verdict_length came needed least size next now same =
    same_kept_verdict_tested came needed (ltb size least) BadBlock _ _
    (λ there long.
    same_kept_verdict_tested came needed (not (eqb (size % 4) 0)) BadBlock next now
    (λ still fits. same (ltb-false size least long)))

same_kept_verdict_tail : (order : FileOrder) (size : ℕ) (bytes : List ℕ) → 12 ≤ size → length bytes ≤ size
    → SameKeptVerdict (tail_tested (length bytes) order size (drop (length bytes) (0 ∷ 0 ∷ 0 ∷ 0 ∷ bytes)))
    (tail_tested (length bytes) order size (drop (size - 4) bytes))
same_kept_verdict_tail order size bytes long fits = elim (cases_lt (length bytes) size) [
  | inl short ↦ rw (lt-ltb (length bytes) size short) (record { same = refl })
  | inr there ↦
      let count : length bytes ≡ suc (suc (suc (suc (size - 4)))) = omega arith in
      let last : drop (length bytes) (0 ∷ 0 ∷ 0 ∷ 0 ∷ bytes) ≡ drop (size - 4) bytes =
      ap (λ n. drop n (0 ∷ 0 ∷ 0 ∷ 0 ∷ bytes)) count in
      record { same = ap (λ l. tail_tested (length bytes) order size l) last }
]

same_kept_verdict_section : (order : FileOrder) (size : ℕ) (bytes : List ℕ) → (12 ≤ size → length bytes ≤ size)
    → SameKeptVerdict
    (section_verdict order size (length bytes) (take 70 bytes) (drop (length bytes) (0 ∷ 0 ∷ 0 ∷ 0 ∷ bytes)))
    (section_verdict order size (length bytes) bytes (drop (size - 4) bytes))
same_kept_verdict_section order size bytes fits =
    rw (order_of_section-of_block_front 70 bytes (omega arith), number_in_order-of_block_front order 2 12 70 bytes (omega arith))
    (same_kept_verdict_tested (length bytes) 12 (is_none (order_of_section bytes)) ByteOrder _ _
    (λ there shown. same_kept_verdict_length (length bytes) 12 28 size _ _
    (λ long. same_kept_verdict_tested (length bytes) 14 (not (eqb (number_in_order order 2 12 bytes) 1)) Version _ _
    (λ still right. same_kept_verdict_tail order size bytes (omega arith) (fits (omega arith))))))

same_kept_verdict_packet : (order : FileOrder) (size interfaces : ℕ) (bytes : List ℕ) → (12 ≤ size → length bytes ≤ size)
    → SameKeptVerdict
    (packet_verdict order size interfaces (length bytes) (take 70 bytes) (drop (length bytes) (0 ∷ 0 ∷ 0 ∷ 0 ∷ bytes)))
    (packet_verdict order size interfaces (length bytes) bytes (drop (size - 4) bytes))
same_kept_verdict_packet order size interfaces bytes fits =
    rw (
      number_in_order-of_block_front order 4 8 70 bytes (omega arith),
      number_in_order-of_block_front order 4 20 70 bytes (omega arith),
    )
    (same_kept_verdict_length (length bytes) 8 32 size _ _
    (λ long. same_kept_verdict_tested (length bytes) 12 (not (ltb (number_in_order order 4 8 bytes) interfaces)) BadInterface _ _
    (λ there named. same_kept_verdict_tested (length bytes) 24 (ltb 262144 (number_in_order order 4 20 bytes)) LongFrame _ _
    (λ still short. same_kept_verdict_tested (length bytes) 24 (ltb size (number_in_order order 4 20 bytes + 32)) BadBlock _ _
    (λ again room. same_kept_verdict_tail order size bytes (omega arith) (fits (omega arith)))))))

same_kept_verdict_plain : (order : FileOrder) (least size : ℕ) (bytes : List ℕ) → 12 ≤ least → (12 ≤ size → length bytes ≤ size)
    → SameKeptVerdict
    (length_tested (length bytes) 8 least size (tail_tested (length bytes) order size (drop (length bytes) (0 ∷ 0 ∷ 0 ∷ 0 ∷ bytes))))
    (length_tested (length bytes) 8 least size (tail_tested (length bytes) order size (drop (size - 4) bytes)))
same_kept_verdict_plain order least size bytes some fits =
    same_kept_verdict_length (length bytes) 8 least size _ _
    (λ long. same_kept_verdict_tail order size bytes (omega arith) (fits (omega arith)))

same_kept_verdict_kind : (kind : BlockKind) (order : FileOrder) (size interfaces : ℕ) (bytes : List ℕ)
    → (12 ≤ size → length bytes ≤ size)
    → SameKeptVerdict
    (kind_verdict kind order size interfaces (length bytes) (take 70 bytes) (drop (length bytes) (0 ∷ 0 ∷ 0 ∷ 0 ∷ bytes)))
    (kind_verdict kind order size interfaces (length bytes) bytes (drop (size - 4) bytes))
same_kept_verdict_kind SectionHeader order size interfaces bytes fits = same_kept_verdict_section order size bytes fits
same_kept_verdict_kind InterfaceDescription order size interfaces bytes fits = same_kept_verdict_plain order 20 size bytes (omega arith) fits
same_kept_verdict_kind EnhancedPacket order size interfaces bytes fits = same_kept_verdict_packet order size interfaces bytes fits
same_kept_verdict_kind Other order size interfaces bytes fits = same_kept_verdict_plain order 12 size bytes (omega arith) fits

-- the length of a block by the bytes at its front
pub block_length-of_kept_verdict : (order : FileOrder) (bytes : List ℕ) → block_length order (take 70 bytes) ≡ block_length order bytes
block_length-of_kept_verdict order bytes =
    let kind = block_kind order bytes in
    let size : verdict_size kind order (take 70 bytes) ≡ verdict_size kind order bytes =
    ap (λ own. number_in_order own 4 4 (take 70 bytes)) (block_order-of_whole_block_front kind order bytes)
    ∙ number_in_order-of_block_front (block_order kind order bytes) 4 4 70 bytes (omega arith) in
    rw (number_in_order-of_block_front order 4 0 70 bytes (omega arith)) size

-- the length of a block stays when more bytes follow
pub block_length-of_longer_kept_verdict : (order : FileOrder) (bytes more : List ℕ) → 12 ≤ length bytes
    → block_length order (bytes ++ more) ≡ block_length order bytes
block_length-of_longer_kept_verdict order bytes more long =
    let kind = block_kind order bytes in
    let size : verdict_size kind order (bytes ++ more) ≡ verdict_size kind order bytes =
    ap (λ own. number_in_order own 4 4 (bytes ++ more)) (block_order-of_longer_whole_block kind order bytes more long)
    ∙ number_in_order-of_longer_block (block_order kind order bytes) 4 4 bytes more (omega arith) in
    rw (number_in_order-of_longer_block order 4 0 bytes more (omega arith)) size

-- what is kept shows what the bytes show, unless they go past the block
pub kept_verdict_is : (at : SectionPlace) (bytes : List ℕ)
    → (12 ≤ block_length at.order bytes → length bytes ≤ block_length at.order bytes)
    → kept_verdict at (kept_of bytes) ≡ block_verdict at bytes
unfolding verdict_of
kept_verdict_is at bytes fits =
    let kind = block_kind at.order bytes in
    let order = block_order-of_whole_block_front kind at.order bytes in
    let size : verdict_size kind at.order (take 70 bytes) ≡ verdict_size kind at.order bytes =
    ap (λ own. number_in_order own 4 4 (take 70 bytes)) order
    ∙ number_in_order-of_block_front (block_order kind at.order bytes) 4 4 70 bytes (omega arith) in
    let inner : SameKeptVerdict
    (kind_verdict kind (block_order kind at.order (take 70 bytes)) (verdict_size kind at.order (take 70 bytes))
    (length at.interfaces) (length bytes) (take 70 bytes) (drop (length bytes) (0 ∷ 0 ∷ 0 ∷ 0 ∷ bytes)))
    (kind_verdict kind (block_order kind at.order bytes) (verdict_size kind at.order bytes) (length at.interfaces) (length bytes)
    bytes (drop (verdict_size kind at.order bytes - 4) bytes)) =
    rw size (rw order (same_kept_verdict_kind kind (block_order kind at.order bytes) (verdict_size kind at.order bytes) (length at.interfaces) bytes fits)) in
    let all : SameKeptVerdict (kept_verdict at (kept_of bytes)) (block_verdict at bytes) =
    rw (number_in_order-of_block_front at.order 4 0 70 bytes (omega arith)) (
    same_kept_verdict_tested (length bytes) 1 (eqb at.count 16777216) TooManyBlocks _ _
    (λ first few. same_kept_verdict_tested (length bytes) 4 (eqb at.count 0 && is_no_section kind) NotCapture _ _
    (λ there section. inner))) in
    all.same

-- ---- a block that waits

kept_verdict_waits_length : (came needed least size : ℕ) (next : Verdict) → length_tested came needed least size next ≡ Waits
    → needed ≤ came → (least ≤ size) × (next ≡ Waits)
kept_verdict_waits_length came needed least size next waits there =
    elim (verdict_waited came needed (ltb size least) BadBlock _ waits) [
      | inl short ↦ absurd (omega arith)
      | inr first ↦ elim (verdict_waited came needed (not (eqb (size % 4) 0)) BadBlock next first.2) [
        | inl short ↦ absurd (omega arith)
        | inr second ↦ (ltb-false size least first.1, second.2)
      ]
    ]

kept_verdict_waits_tail : (came : ℕ) (order : FileOrder) (size : ℕ) (last : List ℕ) → tail_tested came order size last ≡ Waits → came < size
kept_verdict_waits_tail came order size last waits = elim (verdict_waited came size _ BadTail IsWhole waits) [
  | inl short ↦ short
  | inr never ↦ absurd (let wrong : IsWhole ≡ Waits = never.2 in cc)
]

-- what is behind the tests of a section header and of a packet
abbrev section_kept_verdict : ℕ → FileOrder → ℕ → List ℕ → List ℕ → Verdict
section_kept_verdict came order size bytes last =
    tested came 14 (not (eqb (number_in_order order 2 12 bytes) 1)) Version (tail_tested came order size last)

abbrev room_kept_verdict : ℕ → FileOrder → ℕ → List ℕ → List ℕ → Verdict
room_kept_verdict came order size bytes last =
    tested came 24 (ltb size (number_in_order order 4 20 bytes + 32)) BadBlock (tail_tested came order size last)

abbrev captured_kept_verdict : ℕ → FileOrder → ℕ → List ℕ → List ℕ → Verdict
captured_kept_verdict came order size bytes last =
    tested came 24 (ltb 262144 (number_in_order order 4 20 bytes)) LongFrame (room_kept_verdict came order size bytes last)

abbrev named_kept_verdict : ℕ → ℕ → FileOrder → ℕ → List ℕ → List ℕ → Verdict
named_kept_verdict interfaces came order size bytes last =
    tested came 12 (not (ltb (number_in_order order 4 8 bytes) interfaces)) BadInterface (captured_kept_verdict came order size bytes last)

kept_verdict_waits_kind : (kind : BlockKind) (order : FileOrder) (size interfaces came : ℕ) (bytes last : List ℕ)
    → kind_verdict kind order size interfaces came bytes last ≡ Waits → 12 ≤ came → came < size
kept_verdict_waits_kind SectionHeader order size interfaces came bytes last waits there =
    let behind = section_kept_verdict came order size bytes last in
    elim (verdict_waited came 12 (is_none (order_of_section bytes)) ByteOrder (length_tested came 12 28 size behind) waits) [
      | inl short ↦ absurd (omega arith)
      | inr magic ↦
          let long = kept_verdict_waits_length came 12 28 size behind magic.2 there in
          elim (verdict_waited came 14 (not (eqb (number_in_order order 2 12 bytes) 1)) Version (tail_tested came order size last) long.1) [
            | inl short ↦ omega (arith, long.0)
            | inr version ↦ kept_verdict_waits_tail came order size last version.2
          ]
    ]
kept_verdict_waits_kind InterfaceDescription order size interfaces came bytes last waits there =
    let long = kept_verdict_waits_length came 8 20 size (tail_tested came order size last) waits (omega arith) in
    kept_verdict_waits_tail came order size last long.1
kept_verdict_waits_kind EnhancedPacket order size interfaces came bytes last waits there =
    let long = kept_verdict_waits_length came 8 32 size (named_kept_verdict interfaces came order size bytes last) waits (omega arith) in
    elim (verdict_waited came 12 (not (ltb (number_in_order order 4 8 bytes) interfaces)) BadInterface
    (captured_kept_verdict came order size bytes last) long.1) [
      | inl short ↦ absurd (omega arith)
      | inr named ↦ elim (verdict_waited came 24 (ltb 262144 (number_in_order order 4 20 bytes)) LongFrame
          (room_kept_verdict came order size bytes last) named.2) [
            | inl short ↦ omega (arith, long.0)
            | inr captured ↦ elim (verdict_waited came 24 (ltb size (number_in_order order 4 20 bytes + 32)) BadBlock
                (tail_tested came order size last) captured.2) [
                  | inl short ↦ omega (arith, long.0)
                  | inr room ↦ kept_verdict_waits_tail came order size last room.2
                ]
          ]
    ]
kept_verdict_waits_kind Other order size interfaces came bytes last waits there =
    let long = kept_verdict_waits_length came 8 12 size (tail_tested came order size last) waits (omega arith) in
    kept_verdict_waits_tail came order size last long.1

-- what is behind the first tests of each block
abbrev kind_kept_verdict : SectionPlace → ℕ → List ℕ → List ℕ → Verdict
kind_kept_verdict at came bytes last =
    kind_verdict (block_kind at.order bytes) (block_order (block_kind at.order bytes) at.order bytes) (block_length at.order bytes)
    (length at.interfaces) came bytes last

-- a block that waits needs more bytes
pub kept_verdict_needs_more : (at : SectionPlace) (came : ℕ) (bytes last : List ℕ) → verdict_of at came bytes last ≡ Waits
    → came < block_needs at.order came bytes
unfolding verdict_of block_needs
kept_verdict_needs_more at came bytes last waits = elim (cases_lt came 12) [
  | inl short ↦ rw (lt-ltb came 12 short) short
  | inr there ↦
      let no_section = eqb at.count 0 && is_no_section (block_kind at.order bytes) in
      let behind = kind_kept_verdict at came bytes last in
      rw (le-ltb came 12 there) (elim (verdict_waited came 1 (eqb at.count 16777216) TooManyBlocks (tested came 4 no_section NotCapture behind) waits) [
        | inl none ↦ absurd (omega arith)
        | inr few ↦ elim (verdict_waited came 4 no_section NotCapture behind few.2) [
          | inl none ↦ absurd (omega arith)
          | inr section ↦ kept_verdict_waits_kind (block_kind at.order bytes) _ _ _ came bytes last section.2 there
        ]
      ])
]

-- a whole block is not past the limit
pub kept_verdict_has_room : (at : SectionPlace) (came : ℕ) (bytes last : List ℕ) → verdict_of at came bytes last ≡ IsWhole
    → at.count ≤ 16777216 → at.count < 16777216
unfolding verdict_of
kept_verdict_has_room at came bytes last whole fits =
    let first = verdict_passed came 1 (eqb at.count 16777216) TooManyBlocks _ whole in
    omega (arith, eqb-false at.count 16777216 first.1)

-- ---- what is kept after more bytes

kept_verdict_front_grows : (n : ℕ) (xs ys : List ℕ) → take n (take n xs ++ ys) ≡ take n (xs ++ ys)
kept_verdict_front_grows n xs ys = elim (cases_lt n (length xs)) [
  | inl longer ↦
      let room : length (take n xs) ≡ n = omega (arith, length-take n xs) in
      take-append-le n (take n xs) ys (omega arith) ∙ take-take n n xs (omega arith)
      ∙ sym (take-append-le n xs ys (omega arith))
  | inr short ↦ ap (λ l. take n (l ++ ys)) (take_all n xs short)
]

kept_verdict_last_grows : (xs ys : List ℕ)
    → drop (length ys) (drop (length xs) (0 ∷ 0 ∷ 0 ∷ 0 ∷ xs) ++ ys) ≡ drop (length (xs ++ ys)) (0 ∷ 0 ∷ 0 ∷ 0 ∷ (xs ++ ys))
kept_verdict_last_grows xs ys =
    let four : length xs ≤ length (0 ∷ 0 ∷ 0 ∷ 0 ∷ xs) = omega arith in
    ap (drop (length ys)) (sym (drop-append-le (length xs) (0 ∷ 0 ∷ 0 ∷ 0 ∷ xs) ys four))
    ∙ drop-drop (length ys) (length xs) (0 ∷ 0 ∷ 0 ∷ 0 ∷ (xs ++ ys))
    ∙ ap (λ n. drop n (0 ∷ 0 ∷ 0 ∷ 0 ∷ (xs ++ ys))) (sym (length-append xs ys))

kept_verdict_value : (kept other : KeptValue) → kept.first ≡ other.first → kept.last ≡ other.last → kept.came ≡ other.came → kept ≡ other
kept_verdict_value kept other first last came =
    ap (λ l. let k : KeptValue = record { first = l; last = kept.last; came = kept.came } in k) first
    ∙ ap (λ l. let k : KeptValue = record { first = other.first; last = l; came = kept.came } in k) last
    ∙ ap (λ n. let k : KeptValue = record { first = other.first; last = other.last; came = n } in k) came

-- what is kept after more bytes is what is kept of them all
pub kept_of-in_longer_kept_verdict : (bytes more : List ℕ) → kept_and (kept_of bytes) more ≡ kept_of (bytes ++ more)
kept_of-in_longer_kept_verdict bytes more =
    kept_verdict_value (kept_and (kept_of bytes) more) (kept_of (bytes ++ more)) (kept_verdict_front_grows 70 bytes more)
    (kept_verdict_last_grows bytes more) (sym (length-append bytes more))

-- the parts of what is kept after more bytes
pub kept_and-of_kept_verdict_parts : (kept now : KeptValue) (more : List ℕ) → now.first ≡ take 70 (kept.first ++ more)
    → now.last ≡ drop (length more) (kept.last ++ more) → now.came ≡ kept.came + length more → now ≡ kept_and kept more
kept_and-of_kept_verdict_parts kept now more first last came = kept_verdict_value now (kept_and kept more) first last came

-- ---- how many bytes a block needs

pub block_needs-of_short_kept_verdict : (order : FileOrder) (came : ℕ) (first : List ℕ) → came < 12 → block_needs order came first ≡ 12
unfolding block_needs
block_needs-of_short_kept_verdict order came first short = rw (lt-ltb came 12 short) refl

-- the number that is read from the bytes
pub block_needs-of_kept_verdict : (order : FileOrder) (came : ℕ) (first bytes : List ℕ) (number : ℕ) (kind : BlockKind)
    (own : FileOrder) (size : ℕ) → 12 ≤ came → bytes ≡ first → number ≡ number_in_order order 4 0 bytes → kind ≡ kind_of_type number
    → own ≡ block_order kind order bytes → size ≡ number_in_order own 4 4 bytes → size ≡ block_needs order came first
unfolding block_needs
block_needs-of_kept_verdict order came first bytes number kind own size there is type_is kind_is own_is size_is =
    let kinds : kind ≡ block_kind order first = kind_is ∙ ap kind_of_type (type_is ∙ ap (number_in_order order 4 0) is) in
    let owns : own ≡ block_order (block_kind order first) order first =
    own_is ∙ ap (λ l. block_order kind order l) is ∙ ap (λ k. block_order k order first) kinds in
    rw (le-ltb came 12 there) (size_is ∙ ap (number_in_order own 4 4) is ∙ ap (λ o. number_in_order o 4 4 first) owns)
