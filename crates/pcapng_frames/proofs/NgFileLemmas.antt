-- The laws of pcapng captures and first faults.
use Rattle.std.proofs.Common.{ℕ, ◌≡◌, ◌≤◌, Bool, List, [], ◌∷◌, ◌++◌, length, drop, refl, sym, ap, ◌∙◌, arith, subst, inl, inr, ◌⊎◌}
use Rattle.std.proofs.lemmas.Bool.{cases_Bool, cases_lt}
use Rattle.std.proofs.lemmas.List.{nil_from_length}
use Rattle.outside_io.specs.{IsBeginning}
use Rattle.pcap_frames.specs.{number_in_order, FrameValue, AreFrames, header_fault_at, IsDecided, Completes}
use Rattle.pcap_frames.specs.declared.fault.CaptureFault.{CaptureFault}
use Rattle.pcap_frames.specs.declared.fault.FaultKind.TheVariants.{CutBlock}
use Rattle.pcapng_frames.specs.declared.block.BlockKind.{BlockKind}
use Rattle.pcapng_frames.specs.declared.block.BlockKind.TheVariants.{SectionHeader, InterfaceDescription, EnhancedPacket, Other}
use Rattle.pcapng_frames.specs.declared.verdict.Verdict.TheVariants.{Waits, IsWrong, IsWhole}
use Rattle.pcap_frames.specs.declared.file_order.FileOrder.{FileOrder}
use Rattle.pcapng_frames.specs.Block.{BlockValue, block_kind, block_order, block_length, block_content}
use Rattle.pcapng_frames.specs.Section.{SectionPlace, before_blocks, after_block, after_blocks, frames_of_blocks, frames_of_content, is_ethernet}
use Rattle.pcapng_frames.specs.Verdict.{block_verdict}
use Rattle.pcapng_frames.specs.NgCapture.{BeginsWithBlocks, SplitsBlocks, IsNgCapture, ShowsNgFault, EndsInBlock}
use Rattle.pcapng_frames.specs.NgCapture.{HasNgFaultAfter, pcapng}
use Rattle.pcapng_frames.proofs.VerdictLemmas.{VerdictTells, verdict_stays, verdict_fits, verdict_tells, verdict_on_nothing}
use Rattle.pcapng_frames.proofs.VerdictLemmas.{verdict_waits_or_is_whole, verdict_is_wrong_or_whole, verdict_is_wrong_or_waits, verdict_is_one_kind}
use Rattle.pcapng_frames.proofs.VerdictLemmas.{verdict_is_one}
use Rattle.pcapng_frames.proofs.WholeBlockLemmas.{AreWholeBlockBytes, AreWholeBlockBytes-drop, IsFrame-in_whole_block}
use Rattle.pcapng_frames.proofs.BlockSplitLemmas.{SplitsAllBlocks, split_blocks_stay, frames_of_split_blocks}
use Rattle.pcapng_frames.proofs.BlockSplitLemmas.{last_block_split_begins, last_block_split_is_one, last_block_split}
use Rattle.pcapng_frames.proofs.NgLimitLemmas.{blocks_show_no_end_limit, ng_front_begins_without_frame, ng_front_begins_without_fault}
use Rattle.pcapng_frames.proofs.NgLimitLemmas.{ng_frames_are_limited, ng_fault_place_is_limited}

-- ---- all whole blocks at the front of a file

ng_file_has_front : (front : List ℕ) → (frames : List FrameValue) × SplitsAllBlocks front frames
ng_file_has_front front =
    let split = last_block_split before_blocks front in (
      frames_of_blocks before_blocks split.blocks,
      record {
        blocks = split.blocks;
        rest = split.rest;
        splits = record { begins = split.begins; frames_are = refl };
        no_more = split.no_more;
      },
    )

-- two splits that no block can follow have the same blocks
pub record AreSameNgFileSplit (blocks others : List BlockValue) (rest last : List ℕ) (frames more : List FrameValue) : Type 0 where
  pub blocks_are : others ≡ blocks
  pub rest_is : last ≡ rest
  pub frames_are : more ≡ frames

ng_file_splits_once : (bytes : List ℕ) (blocks others : List BlockValue) (rest last : List ℕ) (frames more : List FrameValue)
    → SplitsBlocks bytes blocks rest frames → SplitsBlocks bytes others last more
    → (block_verdict (after_blocks before_blocks blocks) rest ≡ IsWhole → ⊥)
    → (block_verdict (after_blocks before_blocks others) last ≡ IsWhole → ⊥)
    → AreSameNgFileSplit blocks others rest last frames more
ng_file_splits_once bytes blocks others rest last frames more here there ends ends_too =
    let one = last_block_split_is_one before_blocks bytes blocks others rest last here.begins there.begins ends ends_too in
    record {
      blocks_are = one.0;
      rest_is = one.1;
      frames_are = there.frames_are ∙ ap (frames_of_blocks before_blocks) one.0 ∙ sym here.frames_are;
    }

ng_file_front_is_one : (front : List ℕ) (frames others : List FrameValue) → SplitsAllBlocks front frames
    → SplitsAllBlocks front others → others ≡ frames
ng_file_front_is_one front frames others here there =
    let one = ng_file_splits_once front here.blocks there.blocks here.rest there.rest frames others here.splits there.splits
    here.no_more there.no_more in
    one.frames_are

ng_file_front_begins : (front more : List ℕ) (frames others : List FrameValue) → SplitsAllBlocks front frames
    → SplitsAllBlocks (front ++ more) others → IsBeginning frames others
ng_file_front_begins front more frames others here there =
    let found = last_block_split_begins before_blocks front more here.blocks there.blocks here.rest there.rest
    here.splits.begins there.splits.begins there.no_more in
    let all : others ≡ frames_of_blocks before_blocks here.blocks
    ++ frames_of_blocks (after_blocks before_blocks here.blocks) found.0 =
    there.splits.frames_are ∙ ap (frames_of_blocks before_blocks) found.1
    ∙ frames_of_split_blocks before_blocks here.blocks found.0 in (
      frames_of_blocks (after_blocks before_blocks here.blocks) found.0,
      all ∙ ap (λ l. l ++ frames_of_blocks (after_blocks before_blocks here.blocks) found.0) (sym here.splits.frames_are),
    )

-- ---- captures and faults are of files that no block can follow

ng_file_of_capture : (file : List ℕ) (frames : List FrameValue) → IsNgCapture file frames → SplitsAllBlocks file frames
ng_file_of_capture file frames is = record {
  blocks = is.blocks;
  rest = [];
  splits = is.splits;
  no_more = verdict_waits_or_is_whole _ (verdict_on_nothing (after_blocks before_blocks is.blocks) _);
}

ng_file_of_shown_fault : (file : List ℕ) (frames : List FrameValue) (fault : CaptureFault) → ShowsNgFault file frames fault
    → SplitsAllBlocks file frames
ng_file_of_shown_fault file frames fault shows = record {
  blocks = shows.blocks;
  rest = shows.rest;
  splits = shows.splits;
  no_more = verdict_is_wrong_or_whole _ fault.kind shows.shown;
}

ng_file_of_cut_block : (file : List ℕ) (frames : List FrameValue) (fault : CaptureFault) → EndsInBlock file frames fault
    → SplitsAllBlocks file frames
ng_file_of_cut_block file frames fault ends = record {
  blocks = ends.blocks;
  rest = ends.rest;
  splits = ends.splits;
  no_more = verdict_waits_or_is_whole _ ends.none_shown;
}

ng_file_of_fault : (file : List ℕ) (frames : List FrameValue) (fault : CaptureFault) → HasNgFaultAfter file frames fault
    → SplitsAllBlocks file frames
ng_file_of_fault file frames fault (inl shows) = ng_file_of_shown_fault file frames fault shows
ng_file_of_fault file frames fault (inr ends) = ng_file_of_cut_block file frames fault ends

-- a fault that is shown stays when more bytes follow
pub ng_file_shows_still : (front more : List ℕ) (frames : List FrameValue) (fault : CaptureFault)
    → ShowsNgFault front frames fault → ShowsNgFault (front ++ more) frames fault
ng_file_shows_still front more frames fault shows =
    let at = after_blocks before_blocks shows.blocks in record {
      blocks = shows.blocks;
      rest = shows.rest ++ more;
      splits = record {
        begins = split_blocks_stay before_blocks front more shows.blocks shows.rest shows.splits.begins;
        frames_are = shows.splits.frames_are;
      };
      shown =
          verdict_stays at shows.rest more (verdict_is_wrong_or_waits (block_verdict at shows.rest) fault.kind shows.shown)
          ∙ shows.shown;
      place_is = shows.place_is;
    }

-- ---- never both

-- a fault that is shown, and a rest that waits
pub ng_file_shows_or_waits : (file : List ℕ) (frames others : List FrameValue) (fault : CaptureFault) (blocks : List BlockValue)
    (rest : List ℕ) → SplitsBlocks file blocks rest others → block_verdict (after_blocks before_blocks blocks) rest ≡ Waits
    → ShowsNgFault file frames fault → ⊥
ng_file_shows_or_waits file frames others fault blocks rest splits waits shows =
    let one = ng_file_splits_once file shows.blocks blocks shows.rest rest frames others shows.splits splits
    (verdict_is_wrong_or_whole _ fault.kind shows.shown) (verdict_waits_or_is_whole _ waits) in
    let at = after_blocks before_blocks blocks in
    let shown : block_verdict at rest ≡ IsWrong fault.kind =
    subst (λ (bs : List BlockValue). block_verdict (after_blocks before_blocks bs) rest ≡ IsWrong fault.kind) (sym one.blocks_are)
    (subst (λ (l : List ℕ). block_verdict (after_blocks before_blocks shows.blocks) l ≡ IsWrong fault.kind) (sym one.rest_is) shows.shown) in
    verdict_is_wrong_or_waits (block_verdict at rest) fault.kind shown waits

ng_file_shows_or_ends : (file : List ℕ) (frames others : List FrameValue) (fault other : CaptureFault)
    → ShowsNgFault file frames fault → EndsInBlock file others other → ⊥
ng_file_shows_or_ends file frames others fault other shows ends =
    ng_file_shows_or_waits file frames others fault ends.blocks ends.rest ends.splits ends.none_shown shows

ng_file_never_both : (file : List ℕ) (frames others : List FrameValue) (fault : CaptureFault) → IsNgCapture file frames
    → HasNgFaultAfter file others fault → ⊥
ng_file_never_both file frames others fault is (inl shows) =
    let ended = verdict_waits_or_is_whole _ (verdict_on_nothing (after_blocks before_blocks is.blocks) _) in
    let one = ng_file_splits_once file shows.blocks is.blocks shows.rest [] others frames shows.splits is.splits
    (verdict_is_wrong_or_whole _ fault.kind shows.shown) ended in
    let at = after_blocks before_blocks shows.blocks in
    let shown : block_verdict at [] ≡ IsWrong fault.kind =
    subst (λ (l : List ℕ). block_verdict at l ≡ IsWrong fault.kind) (sym one.rest_is) shows.shown in
    verdict_is_wrong_or_waits (block_verdict at []) fault.kind shown (verdict_on_nothing at _)
ng_file_never_both file frames others fault is (inr ends) =
    let ended = verdict_waits_or_is_whole _ (verdict_on_nothing (after_blocks before_blocks is.blocks) _) in
    let one = ng_file_splits_once file ends.blocks is.blocks ends.rest [] others frames ends.splits is.splits
    (verdict_waits_or_is_whole _ ends.none_shown) ended in
    elim ends.is_cut [
      | inl left ↦ omega (arith, left, ap length one.rest_is)
      | inr none ↦ omega (arith, is.some, ap length (one.blocks_are ∙ none))
    ]

-- ---- one fault

ng_file_fault_is : (fault other : CaptureFault) → other.kind ≡ fault.kind → other.place ≡ fault.place → other ≡ fault
ng_file_fault_is fault other kind place = ap (λ k. header_fault_at k other.place) kind ∙ ap (header_fault_at fault.kind) place

ng_file_has_one_fault : (file : List ℕ) (frames others : List FrameValue) (fault other : CaptureFault)
    → HasNgFaultAfter file frames fault → HasNgFaultAfter file others other → other ≡ fault
ng_file_has_one_fault file frames others fault other (inl shows) (inl shows_too) =
    let one = ng_file_splits_once file shows.blocks shows_too.blocks shows.rest shows_too.rest frames others shows.splits shows_too.splits
    (verdict_is_wrong_or_whole _ fault.kind shows.shown) (verdict_is_wrong_or_whole _ other.kind shows_too.shown) in
    let shown : block_verdict (after_blocks before_blocks shows.blocks) shows.rest ≡ IsWrong other.kind =
    subst (λ (bs : List BlockValue). block_verdict (after_blocks before_blocks bs) shows.rest ≡ IsWrong other.kind) one.blocks_are
    (subst (λ (l : List ℕ). block_verdict (after_blocks before_blocks shows_too.blocks) l ≡ IsWrong other.kind) one.rest_is shows_too.shown) in
    let kind = verdict_is_one_kind fault.kind other.kind (sym shows.shown ∙ shown) in
    let place : other.place ≡ fault.place =
    shows_too.place_is ∙ ap (λ (bs : List BlockValue). SectionPlace.place (after_blocks before_blocks bs)) one.blocks_are ∙ sym shows.place_is in
    ng_file_fault_is fault other kind place
ng_file_has_one_fault file frames others fault other (inl shows) (inr ends) =
    absurd (ng_file_shows_or_ends file frames others fault other shows ends)
ng_file_has_one_fault file frames others fault other (inr ends) (inl shows) =
    absurd (ng_file_shows_or_ends file others frames other fault shows ends)
ng_file_has_one_fault file frames others fault other (inr ends) (inr ends_too) =
    let one = ng_file_splits_once file ends.blocks ends_too.blocks ends.rest ends_too.rest frames others ends.splits ends_too.splits
    (verdict_waits_or_is_whole _ ends.none_shown) (verdict_waits_or_is_whole _ ends_too.none_shown) in
    ends_too.is_fault
    ∙ ap (λ (bs : List BlockValue). header_fault_at CutBlock (SectionPlace.place (after_blocks before_blocks bs))) one.blocks_are
    ∙ sym ends.is_fault

-- ---- either

-- the end of a file whose blocks are known: it is there, or inside a block
pub ng_file_ends : (file : List ℕ) (frames : List FrameValue) (blocks : List BlockValue) (rest : List ℕ)
    → SplitsBlocks file blocks rest frames → block_verdict (after_blocks before_blocks blocks) rest ≡ Waits
    → IsNgCapture file frames ⊎ ((fault : CaptureFault) × HasNgFaultAfter file frames fault)
ng_file_ends file frames [] rest splits waits =
    inr (
      header_fault_at CutBlock 0,
      inr (record {
        blocks = [];
        rest = rest;
        splits = splits;
        none_shown = waits;
        is_cut = inr refl;
        is_fault = refl;
      }),
    )
ng_file_ends file frames (block ∷ blocks) rest splits waits = elim (cases_lt 0 (length rest)) [
  | inl left ↦ inr (
    header_fault_at CutBlock (SectionPlace.place (after_blocks before_blocks (block ∷ blocks))),
    inr (record {
      blocks = block ∷ blocks;
      rest = rest;
      splits = splits;
      none_shown = waits;
      is_cut = inl left;
      is_fault = refl;
    }),
  )
  | inr none ↦
      let empty : rest ≡ [] = nil_from_length rest (omega arith) in inl (record {
        blocks = block ∷ blocks;
        splits = subst (λ (l : List ℕ). SplitsBlocks file (block ∷ blocks) l frames) empty splits;
        some = omega arith;
      })
]

ng_file_is_decided : (file : List ℕ) (frames : List FrameValue) → SplitsAllBlocks file frames
    → IsNgCapture file frames ⊎ ((fault : CaptureFault) × HasNgFaultAfter file frames fault)
ng_file_is_decided file frames here =
    let at = after_blocks before_blocks here.blocks in
    elim (verdict_is_one (block_verdict at here.rest)) [
      | inl waits ↦ ng_file_ends file frames here.blocks here.rest here.splits waits
      | inr (inl wrong) ↦ inr (
        header_fault_at wrong.0 (SectionPlace.place at),
        inl (record {
          blocks = here.blocks;
          rest = here.rest;
          splits = here.splits;
          shown = wrong.1;
          place_is = refl;
        }),
      )
      | inr (inr whole) ↦ absurd (here.no_more whole)
    ]

-- ---- the frames of a file of bytes

AreFrames-of_ng_file_block : (kind : BlockKind) (order : FileOrder) (size : ℕ) (interfaces : List Bool) (bytes : List ℕ)
    → AreWholeBlockBytes bytes → size ≤ length bytes → VerdictTells kind (block_order kind order bytes) size (length interfaces) bytes
    → AreFrames (frames_of_content interfaces (block_content kind order bytes))
AreFrames-of_ng_file_block SectionHeader order size interfaces bytes are there tells = tt
AreFrames-of_ng_file_block InterfaceDescription order size interfaces bytes are there tells = tt
AreFrames-of_ng_file_block EnhancedPacket order size interfaces bytes are there tells =
    let frame = IsFrame-in_whole_block order size (length interfaces) bytes are there tells in
    elim (cases_Bool (is_ethernet interfaces (number_in_order order 4 8 bytes))) [
      | inl shown ↦ rw shown (frame, tt)
      | inr passed ↦ rw passed tt
    ]
AreFrames-of_ng_file_block Other order size interfaces bytes are there tells = tt

AreFrames-of_ng_file_parts : (frames more : List FrameValue) → AreFrames frames → AreFrames more → AreFrames (frames ++ more)
AreFrames-of_ng_file_parts [] more first second = second
AreFrames-of_ng_file_parts (frame ∷ frames) more first second = (first.0, AreFrames-of_ng_file_parts frames more first.1 second)

AreFrames-of_ng_file_blocks : (at : SectionPlace) (bytes : List ℕ) (blocks : List BlockValue) (rest : List ℕ) → AreWholeBlockBytes bytes
    → BeginsWithBlocks at bytes blocks rest → AreFrames (frames_of_blocks at blocks)
AreFrames-of_ng_file_blocks at bytes [] rest are begins = tt
AreFrames-of_ng_file_blocks at bytes (block ∷ blocks) rest are begins =
    let fits = verdict_fits at (length bytes) bytes _ begins.0.whole in
    let tells = verdict_tells at (length bytes) bytes _ begins.0.whole in
    let own : AreFrames (frames_of_content at.interfaces block.content) =
    subst (λ (b : BlockValue). AreFrames (frames_of_content at.interfaces b.content)) (sym begins.0.is_block)
    (AreFrames-of_ng_file_block (block_kind at.order bytes) at.order (block_length at.order bytes) at.interfaces bytes are fits.there tells) in
    AreFrames-of_ng_file_parts (frames_of_content at.interfaces block.content) _ own
    (AreFrames-of_ng_file_blocks (after_block at block) (drop block.size bytes) blocks rest
    (AreWholeBlockBytes-drop block.size bytes are) begins.1)

ng_file_has_valid_frames : (file : List ℕ) (frames : List FrameValue) → AreWholeBlockBytes file → SplitsAllBlocks file frames
    → AreFrames frames
ng_file_has_valid_frames file frames are here =
    subst AreFrames (sym here.splits.frames_are)
    (AreFrames-of_ng_file_blocks before_blocks file here.blocks here.rest are here.splits.begins)

-- ---- the laws

-- the frames that a front completes are those of all its whole blocks
ng_file_is_completed : (front : List ℕ) (frames : List FrameValue) → Completes pcapng front frames → SplitsAllBlocks front frames
ng_file_is_completed front frames (inl capture) = ng_file_of_capture front frames capture
ng_file_is_completed front frames (inr fault) = ng_file_of_fault front frames fault.0 fault.1

pub ng_captures_decided : IsDecided pcapng
ng_captures_decided = record {
  either = λ file. let front = ng_file_has_front file in elim (ng_file_is_decided file front.0 front.1) [
    | inl capture ↦ inl (front.0, capture)
    | inr fault ↦ inr (fault.0, (front.0, fault.1))
  ];
  never_both = λ file frames fault is has. ng_file_never_both file frames has.0 fault is has.1;
  one_list = λ file frames others here there.
      ng_file_front_is_one file frames others (ng_file_of_capture file frames here) (ng_file_of_capture file others there);
  one_fault = λ file fault other here there. ng_file_has_one_fault file here.0 there.0 fault other here.1 there.1;
  one_before = λ file frames others fault other here there.
      ng_file_front_is_one file frames others (ng_file_of_fault file frames fault here) (ng_file_of_fault file others other there);
  longer = λ front more frames others here there.
      ng_file_front_begins front more frames others (ng_file_is_completed front frames here) (ng_file_is_completed (front ++ more) others there);
  shown = λ front more frames fault shows. inl (ng_file_shows_still front more frames fault shows);
  no_end_fault = blocks_show_no_end_limit;
  no_frame_first = λ front frames short here. ng_front_begins_without_frame front frames short (ng_file_is_completed front frames here);
  no_fault_first = ng_front_begins_without_fault;
  limited = λ front frames here. ng_frames_are_limited front frames (ng_file_is_completed front frames here);
  place = ng_fault_place_is_limited;
  are_frames = λ front frames are here. ng_file_has_valid_frames front frames are (ng_file_is_completed front frames here);
}
