-- What a verdict tells, and verdicts when more bytes follow.
use Rattle.std.proofs.Common.{ℕ, ◌≡◌, ◌+◌, ◌-◌, ◌%◌, ◌≤◌, ◌<◌, Bool, true, false, not, ltb, eqb, is_none, List, [], ◌++◌, length, drop}
use Rattle.std.specs.Prelude.{⊤}
use Rattle.std.proofs.Common.{refl, sym, ap, ◌∙◌, arith, length-append, length-drop, ◌⊎◌, inl, inr}
use Rattle.std.proofs.lemmas.Bool.{ltb-true, ltb-false, lt-ltb, le-ltb, cases_Bool, cases_lt}
use Rattle.std.proofs.lemmas.List.{drop-append-le}
use Rattle.pcap_frames.specs.{number_in_order}
use Rattle.pcap_frames.specs.declared.file_order.FileOrder.{FileOrder}
use Rattle.pcap_frames.specs.declared.fault.FaultKind.{FaultKind}
use Rattle.pcap_frames.specs.declared.fault.FaultKind.TheVariants.{NotCapture, Version, LongFrame, ByteOrder, BadBlock, BadTail, BadInterface, TooManyBlocks}
use Rattle.pcapng_frames.specs.declared.block.BlockKind.{BlockKind}
use Rattle.pcapng_frames.specs.declared.block.BlockKind.TheVariants.{SectionHeader, InterfaceDescription, EnhancedPacket, Other}
use Rattle.pcapng_frames.specs.declared.verdict.Verdict.{Verdict}
use Rattle.pcapng_frames.specs.declared.verdict.Verdict.TheVariants.{Waits, IsWrong, IsWhole}
use Rattle.pcapng_frames.specs.Block.{least_length, order_of_section, block_kind, block_order, block_length}
use Rattle.pcapng_frames.specs.Section.{SectionPlace}
use Rattle.pcapng_frames.specs.Verdict.{tested, length_tested, tail_tested, section_verdict, packet_verdict, kind_verdict}
use Rattle.pcapng_frames.specs.Verdict.{verdict_of, block_verdict}
use Rattle.pcapng_frames.proofs.BlockNumberLemmas.{number_in_order-of_longer_block, order_of_section-of_longer_block}

-- ---- one test

-- a verdict that is given stays
pub record VerdictStays (old new : Verdict) : Type 0 where
  pub stays : (old ≡ Waits → ⊥) → new ≡ old

verdict_stays_itself : (old : Verdict) → VerdictStays old old
verdict_stays_itself old = record { stays = λ given. refl }

verdict_stays_tested : (came later needed : ℕ) (fails failed : Bool) (kind : FaultKind) (next now : Verdict) → came ≤ later
    → (needed ≤ came → failed ≡ fails) → (needed ≤ came → VerdictStays next now)
    → VerdictStays (tested came needed fails kind next) (tested later needed failed kind now)
verdict_stays_tested came later needed fails failed kind next now fits same behind = elim (cases_lt came needed) [
  | inl short ↦ rw (lt-ltb came needed short) (record { stays = λ given. absurd (given refl) })
  | inr there ↦ rw (le-ltb came needed there, le-ltb later needed (omega arith), same there) (elim (cases_Bool fails) [
    | inl wrong ↦ rw wrong (record { stays = λ given. refl })
    | inr right ↦ rw right (behind there)
  ])
]

verdict_stays_length : (came later needed least size : ℕ) (next now : Verdict) → came ≤ later
    → (needed ≤ came → VerdictStays next now)
    → VerdictStays (length_tested came needed least size next) (length_tested later needed least size now)
verdict_stays_length came later needed least size next now fits behind =
    verdict_stays_tested came later needed (ltb size least) (ltb size least) BadBlock _ _ fits (λ there. refl)
    (λ there.
    verdict_stays_tested came later needed (not (eqb (size % 4) 0)) (not (eqb (size % 4) 0)) BadBlock next now fits
    (λ still. refl) behind)

verdict_stays_tail : (order : FileOrder) (size : ℕ) (bytes more : List ℕ) → 4 ≤ length bytes
    → VerdictStays (tail_tested (length bytes) order size (drop (size - 4) bytes))
    (tail_tested (length (bytes ++ more)) order size (drop (size - 4) (bytes ++ more)))
verdict_stays_tail order size bytes more some =
    verdict_stays_tested (length bytes) (length (bytes ++ more)) size _ _ BadTail IsWhole IsWhole
    (omega (arith, length-append bytes more))
    (λ there.
    rw (
      drop-append-le (size - 4) bytes more (omega arith),
      number_in_order-of_longer_block order 4 0 (drop (size - 4) bytes) more (omega (arith, length-drop (size - 4) bytes)),
    ) refl)
    (λ there. verdict_stays_itself IsWhole)

verdict_not_false : (test : Bool) → not test ≡ false → test ≡ true
verdict_not_false true is = refl
verdict_not_false false is = absurd (let wrong : true ≡ false = is in cc)

-- ---- a block when more bytes follow

-- the length of a block of this kind
abbrev pub verdict_size : BlockKind → FileOrder → List ℕ → ℕ
verdict_size kind order bytes = number_in_order (block_order kind order bytes) 4 4 bytes

verdict_stays_plain : (order : FileOrder) (least : ℕ) (bytes more : List ℕ) → 4 ≤ length bytes
    → VerdictStays
    (length_tested (length bytes) 8 least (number_in_order order 4 4 bytes)
    (tail_tested (length bytes) order (number_in_order order 4 4 bytes) (drop (number_in_order order 4 4 bytes - 4) bytes)))
    (length_tested (length (bytes ++ more)) 8 least (number_in_order order 4 4 (bytes ++ more))
    (tail_tested (length (bytes ++ more)) order (number_in_order order 4 4 (bytes ++ more))
    (drop (number_in_order order 4 4 (bytes ++ more) - 4) (bytes ++ more))))
verdict_stays_plain order least bytes more some = elim (cases_lt (length bytes) 8) [
  | inl short ↦ rw (lt-ltb (length bytes) 8 short) (record { stays = λ given. absurd (given refl) })
  | inr there ↦ rw (number_in_order-of_longer_block order 4 4 bytes more there)
      (verdict_stays_length (length bytes) (length (bytes ++ more)) 8 least (number_in_order order 4 4 bytes) _ _
      (omega (arith, length-append bytes more))
      (λ still. verdict_stays_tail order (number_in_order order 4 4 bytes) bytes more some))
]

verdict_stays_section : (order : FileOrder) (bytes more : List ℕ) → 4 ≤ length bytes
    → VerdictStays
    (section_verdict (block_order SectionHeader order bytes) (verdict_size SectionHeader order bytes) (length bytes) bytes
    (drop (verdict_size SectionHeader order bytes - 4) bytes))
    (section_verdict (block_order SectionHeader order (bytes ++ more)) (verdict_size SectionHeader order (bytes ++ more))
    (length (bytes ++ more)) (bytes ++ more) (drop (verdict_size SectionHeader order (bytes ++ more) - 4) (bytes ++ more)))
verdict_stays_section order bytes more some = elim (cases_lt (length bytes) 12) [
  | inl short ↦ rw (lt-ltb (length bytes) 12 short) (record { stays = λ given. absurd (given refl) })
  | inr there ↦
      let own = block_order SectionHeader order bytes in
      let size = number_in_order own 4 4 bytes in
      let fits : length bytes ≤ length (bytes ++ more) = omega (arith, length-append bytes more) in
      rw (order_of_section-of_longer_block bytes more there, number_in_order-of_longer_block own 4 4 bytes more (omega arith))
      (verdict_stays_tested (length bytes) (length (bytes ++ more)) 12 (is_none (order_of_section bytes)) (is_none (order_of_section bytes))
      ByteOrder _ _ fits (λ still. refl)
      (λ still. verdict_stays_length (length bytes) (length (bytes ++ more)) 12 28 size _ _ fits
      (λ again. verdict_stays_tested (length bytes) (length (bytes ++ more)) 14 _ _ Version _ _ fits
      (λ longer. ap (λ n. not (eqb n 1)) (number_in_order-of_longer_block own 2 12 bytes more (omega arith)))
      (λ longer. verdict_stays_tail own size bytes more some))))
]

verdict_stays_packet : (order : FileOrder) (interfaces : ℕ) (bytes more : List ℕ) → 4 ≤ length bytes
    → VerdictStays
    (packet_verdict order (number_in_order order 4 4 bytes) interfaces (length bytes) bytes
    (drop (number_in_order order 4 4 bytes - 4) bytes))
    (packet_verdict order (number_in_order order 4 4 (bytes ++ more)) interfaces (length (bytes ++ more)) (bytes ++ more)
    (drop (number_in_order order 4 4 (bytes ++ more) - 4) (bytes ++ more)))
verdict_stays_packet order interfaces bytes more some = elim (cases_lt (length bytes) 8) [
  | inl short ↦ rw (lt-ltb (length bytes) 8 short) (record { stays = λ given. absurd (given refl) })
  | inr there ↦
      let size = number_in_order order 4 4 bytes in
      let fits : length bytes ≤ length (bytes ++ more) = omega (arith, length-append bytes more) in
      rw (number_in_order-of_longer_block order 4 4 bytes more there)
      (verdict_stays_length (length bytes) (length (bytes ++ more)) 8 32 size _ _ fits
      (λ again. verdict_stays_tested (length bytes) (length (bytes ++ more)) 12 _ _ BadInterface _ _ fits
      (λ named. ap (λ n. not (ltb n interfaces)) (number_in_order-of_longer_block order 4 8 bytes more named))
      (λ named. verdict_stays_tested (length bytes) (length (bytes ++ more)) 24 _ _ LongFrame _ _ fits
      (λ captured. ap (λ n. ltb 262144 n) (number_in_order-of_longer_block order 4 20 bytes more captured))
      (λ captured. verdict_stays_tested (length bytes) (length (bytes ++ more)) 24 _ _ BadBlock _ _ fits
      (λ still. ap (λ n. ltb size (n + 32)) (number_in_order-of_longer_block order 4 20 bytes more still))
      (λ still. verdict_stays_tail order size bytes more some)))))
]

verdict_stays_kind : (kind : BlockKind) (order : FileOrder) (interfaces : ℕ) (bytes more : List ℕ) → 4 ≤ length bytes
    → VerdictStays
    (kind_verdict kind (block_order kind order bytes) (verdict_size kind order bytes) interfaces (length bytes) bytes
    (drop (verdict_size kind order bytes - 4) bytes))
    (kind_verdict kind (block_order kind order (bytes ++ more)) (verdict_size kind order (bytes ++ more)) interfaces
    (length (bytes ++ more)) (bytes ++ more) (drop (verdict_size kind order (bytes ++ more) - 4) (bytes ++ more)))
verdict_stays_kind SectionHeader order interfaces bytes more some = verdict_stays_section order bytes more some
verdict_stays_kind InterfaceDescription order interfaces bytes more some = verdict_stays_plain order 20 bytes more some
verdict_stays_kind EnhancedPacket order interfaces bytes more some = verdict_stays_packet order interfaces bytes more some
verdict_stays_kind Other order interfaces bytes more some = verdict_stays_plain order 12 bytes more some

-- a verdict on a block stays when more bytes follow
pub verdict_stays : (at : SectionPlace) (bytes more : List ℕ) → (block_verdict at bytes ≡ Waits → ⊥)
    → block_verdict at (bytes ++ more) ≡ block_verdict at bytes
unfolding verdict_of
verdict_stays at bytes more given =
    let fits : length bytes ≤ length (bytes ++ more) = omega (arith, length-append bytes more) in
    let all : VerdictStays (block_verdict at bytes) (block_verdict at (bytes ++ more)) =
    verdict_stays_tested (length bytes) (length (bytes ++ more)) 1 (eqb at.count 16777216) (eqb at.count 16777216) TooManyBlocks _ _ fits
    (λ first. refl)
    (λ first. elim (cases_lt (length bytes) 4) [
      | inl short ↦ rw (lt-ltb (length bytes) 4 short) (record { stays = λ wrong. absurd (wrong refl) })
      | inr there ↦ rw (number_in_order-of_longer_block at.order 4 0 bytes more there)
          (verdict_stays_tested (length bytes) (length (bytes ++ more)) 4 _ _ NotCapture _ _ fits (λ still. refl)
          (λ still. verdict_stays_kind (block_kind at.order bytes) at.order (length at.interfaces) bytes more there))
    ]) in
    all.stays given

-- ---- what a verdict tells of its tests

-- a whole block passed this test
pub verdict_passed : (came needed : ℕ) (fails : Bool) (kind : FaultKind) (next : Verdict) → tested came needed fails kind next ≡ IsWhole
    → (needed ≤ came) × (fails ≡ false) × (next ≡ IsWhole)
verdict_passed came needed fails kind next whole = elim (cases_lt came needed) [
  | inl short ↦ absurd (let wrong = rw (lt-ltb came needed short) at whole in cc)
  | inr there ↦ let found = rw (le-ltb came needed there) at whole in elim (cases_Bool fails) [
    | inl wrong ↦ absurd (let never = rw wrong at found in cc)
    | inr right ↦ (there, right, rw right at found)
  ]
]

-- a block that waits for more bytes waits at this test, or passed it
pub verdict_waited : (came needed : ℕ) (fails : Bool) (kind : FaultKind) (next : Verdict) → tested came needed fails kind next ≡ Waits
    → (came < needed) ⊎ ((needed ≤ came) × (fails ≡ false) × (next ≡ Waits))
verdict_waited came needed fails kind next waits = elim (cases_lt came needed) [
  | inl short ↦ inl short
  | inr there ↦ let found = rw (le-ltb came needed there) at waits in elim (cases_Bool fails) [
    | inl wrong ↦ absurd (let never = rw wrong at found in cc)
    | inr right ↦ inr (there, right, rw right at found)
  ]
]

-- a whole block of this kind, of which so many bytes came, is no shorter than the least, and all of it came
pub record VerdictFits (kind : BlockKind) (size came : ℕ) : Type 0 where
  pub least : least_length kind ≤ size
  pub there : size ≤ came

verdict_fits_length : (kind : BlockKind) (came needed size : ℕ) (next : Verdict) (order : FileOrder) (last : List ℕ)
    → length_tested came needed (least_length kind) size next ≡ IsWhole → (next ≡ IsWhole → size ≤ came)
    → VerdictFits kind size came
verdict_fits_length kind came needed size next order last whole behind =
    let first = verdict_passed came needed (ltb size (least_length kind)) BadBlock _ whole in
    let second = verdict_passed came needed _ BadBlock next first.2 in
    record { least = ltb-false size (least_length kind) first.1; there = behind second.2 }

verdict_fits_kind : (kind : BlockKind) (order : FileOrder) (size interfaces came : ℕ) (bytes last : List ℕ)
    → kind_verdict kind order size interfaces came bytes last ≡ IsWhole → VerdictFits kind size came
verdict_fits_kind SectionHeader order size interfaces came bytes last whole =
    let magic = verdict_passed came 12 _ ByteOrder _ whole in
    verdict_fits_length SectionHeader came 12 size _ order last magic.2
    (λ next. let version = verdict_passed came 14 _ Version _ next in
    (verdict_passed came size _ BadTail IsWhole version.2).0)
verdict_fits_kind InterfaceDescription order size interfaces came bytes last whole =
    verdict_fits_length InterfaceDescription came 8 size _ order last whole
    (λ next. (verdict_passed came size _ BadTail IsWhole next).0)
verdict_fits_kind EnhancedPacket order size interfaces came bytes last whole =
    verdict_fits_length EnhancedPacket came 8 size _ order last whole
    (λ next. let named = verdict_passed came 12 _ BadInterface _ next in
    let captured = verdict_passed came 24 _ LongFrame _ named.2 in
    let room = verdict_passed came 24 _ BadBlock _ captured.2 in
    (verdict_passed came size _ BadTail IsWhole room.2).0)
verdict_fits_kind Other order size interfaces came bytes last whole =
    verdict_fits_length Other came 8 size _ order last whole
    (λ next. (verdict_passed came size _ BadTail IsWhole next).0)

-- the kind and the length of a whole block fit the bytes
pub verdict_fits : (at : SectionPlace) (came : ℕ) (bytes last : List ℕ) → verdict_of at came bytes last ≡ IsWhole
    → VerdictFits (block_kind at.order bytes) (block_length at.order bytes) came
unfolding verdict_of
verdict_fits at came bytes last whole =
    let first = verdict_passed came 1 _ TooManyBlocks _ whole in
    let second = verdict_passed came 4 _ NotCapture _ first.2 in
    verdict_fits_kind (block_kind at.order bytes) _ _ _ came bytes last second.2

-- what the tests of a whole enhanced packet tell
pub record PacketVerdictTells (order : FileOrder) (size interfaces : ℕ) (bytes : List ℕ) : Type 0 where
  pub named : number_in_order order 4 8 bytes < interfaces
  pub limit : number_in_order order 4 20 bytes ≤ 262144
  pub room : number_in_order order 4 20 bytes + 32 ≤ size

verdict_tells_of_packet : (order : FileOrder) (size interfaces came : ℕ) (bytes last : List ℕ)
    → packet_verdict order size interfaces came bytes last ≡ IsWhole → PacketVerdictTells order size interfaces bytes
verdict_tells_of_packet order size interfaces came bytes last whole =
    let first = verdict_passed came 8 (ltb size 32) BadBlock _ whole in
    let second = verdict_passed came 8 (not (eqb (size % 4) 0)) BadBlock _ first.2 in
    let named = verdict_passed came 12 (not (ltb (number_in_order order 4 8 bytes) interfaces)) BadInterface _ second.2 in
    let captured = verdict_passed came 24 (ltb 262144 (number_in_order order 4 20 bytes)) LongFrame _ named.2 in
    let room = verdict_passed came 24 (ltb size (number_in_order order 4 20 bytes + 32)) BadBlock _ captured.2 in
    record {
      named = ltb-true (number_in_order order 4 8 bytes) interfaces (verdict_not_false _ named.1);
      limit = ltb-false 262144 (number_in_order order 4 20 bytes) captured.1;
      room = ltb-false size (number_in_order order 4 20 bytes + 32) room.1;
    }

-- what a whole block of this kind tells besides
abbrev pub VerdictTells : BlockKind → FileOrder → ℕ → ℕ → List ℕ → Type 0
VerdictTells SectionHeader order size interfaces bytes = ⊤
VerdictTells InterfaceDescription order size interfaces bytes = ⊤
VerdictTells EnhancedPacket order size interfaces bytes = PacketVerdictTells order size interfaces bytes
VerdictTells Other order size interfaces bytes = ⊤

verdict_tells_of_kind : (kind : BlockKind) (order : FileOrder) (size interfaces came : ℕ) (bytes last : List ℕ)
    → kind_verdict kind order size interfaces came bytes last ≡ IsWhole → VerdictTells kind order size interfaces bytes
verdict_tells_of_kind SectionHeader order size interfaces came bytes last whole = tt
verdict_tells_of_kind InterfaceDescription order size interfaces came bytes last whole = tt
verdict_tells_of_kind EnhancedPacket order size interfaces came bytes last whole =
    verdict_tells_of_packet order size interfaces came bytes last whole
verdict_tells_of_kind Other order size interfaces came bytes last whole = tt

pub verdict_tells : (at : SectionPlace) (came : ℕ) (bytes last : List ℕ) → verdict_of at came bytes last ≡ IsWhole
    → VerdictTells (block_kind at.order bytes) (block_order (block_kind at.order bytes) at.order bytes)
    (block_length at.order bytes) (length at.interfaces) bytes
unfolding verdict_of
verdict_tells at came bytes last whole =
    let first = verdict_passed came 1 _ TooManyBlocks _ whole in
    let second = verdict_passed came 4 _ NotCapture _ first.2 in
    verdict_tells_of_kind (block_kind at.order bytes) _ _ _ came bytes last second.2

-- no bytes wait
pub verdict_on_nothing : (at : SectionPlace) (last : List ℕ) → verdict_of at 0 [] last ≡ Waits
unfolding verdict_of
verdict_on_nothing at last = refl

-- a whole block is not one that waits, and not one with a fault
pub verdict_waits_or_is_whole : (verdict : Verdict) → verdict ≡ Waits → verdict ≡ IsWhole → ⊥
verdict_waits_or_is_whole verdict waits whole = absurd (let wrong : Waits ≡ IsWhole = sym waits ∙ whole in cc)

pub verdict_is_wrong_or_whole : (verdict : Verdict) (kind : FaultKind) → verdict ≡ IsWrong kind → verdict ≡ IsWhole → ⊥
verdict_is_wrong_or_whole verdict kind wrong whole = absurd (let never : IsWrong kind ≡ IsWhole = sym wrong ∙ whole in cc)

pub verdict_is_wrong_or_waits : (verdict : Verdict) (kind : FaultKind) → verdict ≡ IsWrong kind → verdict ≡ Waits → ⊥
verdict_is_wrong_or_waits verdict kind wrong waits = absurd (let never : IsWrong kind ≡ Waits = sym wrong ∙ waits in cc)

pub verdict_is_one_kind : (kind other : FaultKind) → IsWrong kind ≡ IsWrong other → other ≡ kind
verdict_is_one_kind kind other same = cc

-- a verdict is one of three
pub verdict_is_one : (verdict : Verdict)
    → (verdict ≡ Waits) ⊎ (((kind : FaultKind) × (verdict ≡ IsWrong kind)) ⊎ (verdict ≡ IsWhole))
verdict_is_one Waits = inl refl
verdict_is_one (IsWrong kind) = inr (inl (kind, refl))
verdict_is_one IsWhole = inr (inr refl)
