-- What each step of a reader of a pcapng capture leaves.
use Rattle.std.proofs.Common.{ℕ, ◌≡◌, ◌+◌, ◌≤◌, ◌<◌, Bool, true, false, min, List, [], ◌∷◌, ◌++◌, length, take, drop}
use Rattle.std.proofs.Common.{refl, sym, ap, ◌∙◌, arith, length-append, subst, inl, inr, ◌⊎◌, append-nil}
use Rattle.std.proofs.lemmas.Bool.{lt-ltb, le-ltb, cases_lt}
use Rattle.std.proofs.lemmas.List.{drop_all, nil_from_length}
use Rattle.pcap_frames.specs.{FrameValue, number_in_order, header_fault_at, Advances, StepTakes}
use Rattle.pcap_frames.specs.declared.file_order.FileOrder.{FileOrder}
use Rattle.pcap_frames.specs.declared.fault.FaultKind.{FaultKind}
use Rattle.pcap_frames.specs.declared.fault.FaultKind.TheVariants.{CutBlock}
use Rattle.pcapng_frames.specs.declared.block.BlockKind.{BlockKind}
use Rattle.pcapng_frames.specs.declared.block.BlockKind.TheVariants.{SectionHeader, InterfaceDescription, EnhancedPacket, Other}
use Rattle.pcapng_frames.specs.declared.verdict.Verdict.TheVariants.{Waits, IsWrong, IsWhole}
use Rattle.pcapng_frames.specs.Block.{BlockValue, block_kind, block_order, block_length, block_content, block_at, least_length}
use Rattle.pcapng_frames.specs.Section.{SectionPlace, before_blocks, after_block, after_blocks, frames_of_blocks, frames_of_content}
use Rattle.pcapng_frames.specs.Verdict.{verdict_of, block_verdict}
use Rattle.pcapng_frames.specs.NgCapture.{BeginsWithBlock, BeginsWithBlocks, SplitsBlocks, IsNgCapture, ShowsNgFault, HasNgFaultAfter}
use Rattle.pcapng_frames.specs.Kept.{KeptValue, kept_of, kept_and, kept_verdict}
use Rattle.pcapng_frames.specs.NgReader.{BlockPlace, InBlocks, AtFault, IsInBlock, NgRepresents}
use Rattle.pcapng_frames.specs.NgPart.{block_needs, gives_frame}
use Rattle.pcapng_frames.proofs.VerdictLemmas.{VerdictTells, PacketVerdictTells, verdict_fits, verdict_tells, verdict_on_nothing}
use Rattle.pcapng_frames.proofs.WholeBlockLemmas.{whole_block_is_long, block_at-of_whole_block_front}
use Rattle.pcapng_frames.proofs.BlockSplitLemmas.{split_blocks_stay, split_blocks_and_one, after_split_blocks, frames_of_split_blocks, split_blocks_count}
use Rattle.pcapng_frames.proofs.KeptVerdictLemmas.{kept_verdict_is, kept_of-in_longer_kept_verdict, block_length-of_kept_verdict}
use Rattle.pcapng_frames.proofs.KeptVerdictLemmas.{block_length-of_longer_kept_verdict}

-- ---- what is kept after a front of the piece

-- a front that a block needs doesn't go past the block
ng_step_fits : (order : FileOrder) (rest front : List ℕ)
    → length rest + length front ≤ block_needs order (length rest) (take 70 rest)
    → 12 ≤ block_length order (rest ++ front) → length (rest ++ front) ≤ block_length order (rest ++ front)
unfolding block_needs
ng_step_fits order rest front needs long = elim (cases_lt (length rest) 12) [
  | inl short ↦
      let few = rw (lt-ltb (length rest) 12 short) at needs in omega (arith, few, length-append rest front)
  | inr there ↦
      let size = rw (le-ltb (length rest) 12 there) at needs in
      omega (
        arith,
        size,
        block_length-of_kept_verdict order rest,
        block_length-of_longer_kept_verdict order rest front there,
        length-append rest front,
      )
]

-- the verdict on what is kept is that on the rest of the file
record NgStepKeeps (at : SectionPlace) (rest front : List ℕ) (kept : KeptValue) : Type 0 where
  pub same : kept_and kept front ≡ kept_of (rest ++ front)
  pub verdict : kept_verdict at (kept_and kept front) ≡ block_verdict at (rest ++ front)
  pub fits : 12 ≤ block_length at.order (rest ++ front) → length (rest ++ front) ≤ block_length at.order (rest ++ front)

ng_step_keeps : (at : SectionPlace) (rest front : List ℕ) (kept : KeptValue) → kept ≡ kept_of rest
    → kept.came + length front ≤ block_needs at.order kept.came kept.first → NgStepKeeps at rest front kept
ng_step_keeps at rest front kept is needs =
    let same : kept_and kept front ≡ kept_of (rest ++ front) =
    ap (λ k. kept_and k front) is ∙ kept_of-in_longer_kept_verdict rest front in
    let needed : length rest + length front ≤ block_needs at.order (length rest) (take 70 rest) =
    subst (λ (k : KeptValue). k.came + length front ≤ block_needs at.order k.came k.first) is needs in
    let fits = ng_step_fits at.order rest front needed in
    record {
      same = same;
      verdict = ap (kept_verdict at) same ∙ kept_verdict_is at (rest ++ front) fits;
      fits = fits;
    }

-- ---- the steps

-- still less than a whole block
pub ng_step_waits : (at : BlockPlace) (front : List ℕ) → kept_verdict at.section (kept_and at.kept front) ≡ Waits
    → at.kept.came + length front ≤ block_needs at.section.order at.kept.came at.kept.first
    → Advances NgRepresents (InBlocks at) (InBlocks (record at { kept = kept_and at.kept front })) front []
ng_step_waits at front waits needs = record {
  reads = λ before frames stands.
      let keeps = ng_step_keeps at.section stands.rest front at.kept stands.kept_is needs in
      subst (IsInBlock (record at { kept = kept_and at.kept front }) (before ++ front)) (sym (append-nil frames)) (record {
        blocks = stands.blocks;
        rest = stands.rest ++ front;
        splits = record {
          begins = split_blocks_stay before_blocks before front stands.blocks stands.rest stands.splits.begins;
          frames_are = stands.splits.frames_are;
        };
        section_is = stands.section_is;
        waits = sym keeps.verdict ∙ waits;
        count_is = stands.count_is;
        kept_is = keeps.same;
      });
}

-- the block shows a fault
pub ng_step_to_fault : (at : BlockPlace) (front : List ℕ) (kind : FaultKind)
    → kept_verdict at.section (kept_and at.kept front) ≡ IsWrong kind
    → at.kept.came + length front ≤ block_needs at.section.order at.kept.came at.kept.first
    → Advances NgRepresents (InBlocks at) (AtFault (header_fault_at kind at.section.place)) front []
ng_step_to_fault at front kind wrong needs = record {
  reads = λ before frames stands.
      let keeps = ng_step_keeps at.section stands.rest front at.kept stands.kept_is needs in
      subst (λ l. ShowsNgFault (before ++ front) l (header_fault_at kind at.section.place)) (sym (append-nil frames)) (record {
        blocks = stands.blocks;
        rest = stands.rest ++ front;
        splits = record {
          begins = split_blocks_stay before_blocks before front stands.blocks stands.rest stands.splits.begins;
          frames_are = stands.splits.frames_are;
        };
        shown = subst (λ s. block_verdict s (stands.rest ++ front) ≡ IsWrong kind) stands.section_is (sym keeps.verdict ∙ wrong);
        place_is = ap (λ (s : SectionPlace). s.place) stands.section_is;
      });
}

-- the place after a whole block, of which these are the first bytes
abbrev pub ng_step_next_place : BlockPlace → List ℕ → List FrameValue → BlockPlace
ng_step_next_place at first given = record {
  section = after_block at.section (block_at at.section.order first);
  frames = at.frames + length given;
  kept = kept_of [];
}

-- the rest is one block
ng_step_one_block : (at : BlockPlace) (bytes : List ℕ) (frames : List FrameValue) (blocks : List BlockValue) (rest : List ℕ)
    → BeginsWithBlocks before_blocks bytes blocks rest → frames ≡ frames_of_blocks before_blocks blocks
    → at.section ≡ after_blocks before_blocks blocks → at.frames ≡ length frames
    → block_verdict at.section rest ≡ IsWhole → length rest ≤ block_length at.section.order rest
    → IsInBlock (ng_step_next_place at rest (frames_of_content at.section.interfaces (block_at at.section.order rest).content)) bytes
    (frames ++ frames_of_content at.section.interfaces (block_at at.section.order rest).content)
ng_step_one_block at bytes frames blocks rest begins frames_are section_is count_is whole fits =
    let block = block_at at.section.order rest in
    let given = frames_of_content at.section.interfaces block.content in
    let here : BeginsWithBlock at.section rest block = record { whole = whole; is_block = refl } in
    let there : BeginsWithBlock (after_blocks before_blocks blocks) rest block =
    subst (λ s. BeginsWithBlock s rest block) section_is here in
    let none : drop block.size rest ≡ [] = drop_all block.size rest fits in
    let all : BeginsWithBlocks before_blocks bytes (blocks ++ block ∷ []) [] =
    subst (λ l. BeginsWithBlocks before_blocks bytes (blocks ++ block ∷ []) l) none
    (split_blocks_and_one before_blocks bytes blocks rest block begins there) in
    let own : frames_of_blocks (after_blocks before_blocks blocks) (block ∷ []) ≡ given =
    append-nil (frames_of_content (SectionPlace.interfaces (after_blocks before_blocks blocks)) block.content)
    ∙ ap (λ (s : SectionPlace). frames_of_content s.interfaces block.content) (sym section_is) in
    record {
      blocks = blocks ++ block ∷ [];
      rest = [];
      splits = record {
        begins = all;
        frames_are =
            ap (λ l. l ++ given) frames_are ∙ ap (λ l. frames_of_blocks before_blocks blocks ++ l) (sym own)
            ∙ sym (frames_of_split_blocks before_blocks blocks (block ∷ []));
      };
      section_is = ap (λ s. after_block s block) section_is ∙ sym (after_split_blocks before_blocks blocks (block ∷ []));
      waits = verdict_on_nothing (after_block at.section block) _;
      count_is = omega (arith, count_is, length-append frames given);
      kept_is = refl;
    }

-- the kept block is whole
pub ng_step_ends_block : (at : BlockPlace) (front : List ℕ) (given : List FrameValue)
    → kept_verdict at.section (kept_and at.kept front) ≡ IsWhole
    → at.kept.came + length front ≤ block_needs at.section.order at.kept.came at.kept.first
    → given ≡ frames_of_content at.section.interfaces (block_at at.section.order (take 70 (at.kept.first ++ front))).content
    → Advances NgRepresents (InBlocks at) (InBlocks (ng_step_next_place at (take 70 (at.kept.first ++ front)) given)) front given
ng_step_ends_block at front given whole needs given_is = record {
  reads = λ before frames stands.
      let keeps = ng_step_keeps at.section stands.rest front at.kept stands.kept_is needs in
      let rest = stands.rest ++ front in
      let all : block_verdict at.section rest ≡ IsWhole = sym keeps.verdict ∙ whole in
      let fits = verdict_fits at.section (length rest) rest _ all in
      let long = whole_block_is_long (block_kind at.section.order rest) in
      let block_is : block_at at.section.order (take 70 (at.kept.first ++ front)) ≡ block_at at.section.order rest =
      ap (λ (k : KeptValue). block_at at.section.order k.first) keeps.same ∙ block_at-of_whole_block_front at.section.order rest in
      let one = ng_step_one_block at (before ++ front) frames stands.blocks rest
      (split_blocks_stay before_blocks before front stands.blocks stands.rest stands.splits.begins) stands.splits.frames_are
      stands.section_is stands.count_is all (keeps.fits (omega (arith, long, fits.least))) in
      let own : given ≡ frames_of_content at.section.interfaces (block_at at.section.order rest).content =
      given_is ∙ ap (λ (b : BlockValue). frames_of_content at.section.interfaces b.content) block_is in
      subst (λ (b : BlockValue).
      IsInBlock (record { section = after_block at.section b; frames = at.frames + length given; kept = kept_of [] })
      (before ++ front) (frames ++ given)) (sym block_is)
      (subst (λ (g : List FrameValue).
      IsInBlock (record {
        section = after_block at.section (block_at at.section.order rest);
        frames = at.frames + length g;
        kept = kept_of [];
      }) (before ++ front) (frames ++ g)) (sym own) one);
}

-- the whole block is in the piece, and no byte of it arrived before
pub ng_step_block_in_piece : (at new : BlockPlace) (piece block rest : List ℕ) (given : List FrameValue)
    → piece ≡ block ++ rest → 0 < length block → length block ≤ block_length at.section.order block
    → at.kept.came ≡ 0 → block_verdict at.section block ≡ IsWhole
    → new ≡ record {
      section = after_block at.section (block_at at.section.order block);
      frames = at.frames + length given;
      kept = at.kept;
    } → given ≡ frames_of_content at.section.interfaces (block_at at.section.order block).content
    → StepTakes NgRepresents (InBlocks at) (InBlocks new) piece rest given
ng_step_block_in_piece at new piece block rest given joined some fits none whole new_is given_is = record {
  front = block;
  joined = joined;
  some = some;
  advances = record {
    reads = λ before frames stands.
        let nothing : stands.rest ≡ [] =
        nil_from_length stands.rest (sym (ap (λ (k : KeptValue). k.came) stands.kept_is) ∙ none) in
        let same : stands.rest ++ block ≡ block = ap (λ l. l ++ block) nothing in
        let begins : BeginsWithBlocks before_blocks (before ++ block) stands.blocks block =
        subst (λ l. BeginsWithBlocks before_blocks (before ++ block) stands.blocks l) same
        (split_blocks_stay before_blocks before block stands.blocks stands.rest stands.splits.begins) in
        let one = ng_step_one_block at (before ++ block) frames stands.blocks block begins stands.splits.frames_are
        stands.section_is stands.count_is whole fits in
        let kept : kept_of [] ≡ at.kept = ap kept_of (sym nothing) ∙ sym stands.kept_is in
        let shown : IsInBlock (record {
          section = after_block at.section (block_at at.section.order block);
          frames = at.frames + length given;
          kept = kept_of [];
        }) (before ++ block) (frames ++ given) =
        subst (λ (g : List FrameValue).
        IsInBlock (record {
          section = after_block at.section (block_at at.section.order block);
          frames = at.frames + length g;
          kept = kept_of [];
        }) (before ++ block) (frames ++ g)) (sym given_is) one in
        subst (λ p. IsInBlock p (before ++ block) (frames ++ given)) (sym new_is)
        (subst (λ (k : KeptValue).
        IsInBlock (record {
          section = after_block at.section (block_at at.section.order block);
          frames = at.frames + length given;
          kept = k;
        }) (before ++ block) (frames ++ given)) kept shown);
  };
}

-- ---- the first step

-- a new reader represents no bytes
pub ng_reader_before_first_step : IsInBlock (record { section = before_blocks; frames = 0; kept = kept_of [] }) [] []
ng_reader_before_first_step = record {
  blocks = [];
  rest = [];
  splits = record { begins = refl; frames_are = refl };
  section_is = refl;
  waits = verdict_on_nothing before_blocks _;
  count_is = refl;
  kept_is = refl;
}

-- ---- the same steps, by what is kept now

-- the verdict on what is kept, by its parts
pub ng_step_verdict : (at : SectionPlace) (kept : KeptValue) (came : ℕ) (first last : List ℕ) → came ≡ kept.came → first ≡ kept.first
    → last ≡ kept.last → verdict_of at came first last ≡ kept_verdict at kept
ng_step_verdict at kept came first last came_is first_is last_is =
    ap (λ n. verdict_of at n first last) came_is ∙ ap (λ l. verdict_of at kept.came l last) first_is
    ∙ ap (λ l. verdict_of at kept.came kept.first l) last_is

pub ng_step_still_waits : (at : BlockPlace) (now : KeptValue) (front : List ℕ) → now ≡ kept_and at.kept front
    → kept_verdict at.section now ≡ Waits
    → at.kept.came + length front ≤ block_needs at.section.order at.kept.came at.kept.first
    → Advances NgRepresents (InBlocks at) (InBlocks (record at { kept = now })) front []
ng_step_still_waits at now front is waits needs =
    subst (λ (k : KeptValue). Advances NgRepresents (InBlocks at) (InBlocks (record at { kept = k })) front []) (sym is)
    (ng_step_waits at front (subst (λ k. kept_verdict at.section k ≡ Waits) is waits) needs)

pub ng_step_shows_fault : (at : BlockPlace) (now : KeptValue) (front : List ℕ) (kind : FaultKind) → now ≡ kept_and at.kept front
    → kept_verdict at.section now ≡ IsWrong kind
    → at.kept.came + length front ≤ block_needs at.section.order at.kept.came at.kept.first
    → Advances NgRepresents (InBlocks at) (AtFault (header_fault_at kind at.section.place)) front []
ng_step_shows_fault at now front kind is wrong needs =
    ng_step_to_fault at front kind (subst (λ k. kept_verdict at.section k ≡ IsWrong kind) is wrong) needs

pub ng_step_is_whole : (at new : BlockPlace) (now : KeptValue) (front : List ℕ) (given : List FrameValue)
    → now ≡ kept_and at.kept front → kept_verdict at.section now ≡ IsWhole
    → at.kept.came + length front ≤ block_needs at.section.order at.kept.came at.kept.first
    → new ≡ ng_step_next_place at now.first given
    → given ≡ frames_of_content at.section.interfaces (block_at at.section.order now.first).content
    → Advances NgRepresents (InBlocks at) (InBlocks new) front given
ng_step_is_whole at new now front given is whole needs new_is given_is =
    let first : now.first ≡ take 70 (at.kept.first ++ front) = ap (λ (k : KeptValue). k.first) is in
    subst (λ p. Advances NgRepresents (InBlocks at) (InBlocks p) front given)
    (sym (new_is ∙ ap (λ l. ng_step_next_place at l given) first))
    (ng_step_ends_block at front given (subst (λ k. kept_verdict at.section k ≡ IsWhole) is whole) needs
    (given_is ∙ ap (λ l. frames_of_content at.section.interfaces (block_at at.section.order l).content) first))

-- ---- the facts of a whole block

pub ng_step_least_is_kept : (kind : BlockKind) → least_length kind ≤ 32
ng_step_least_is_kept SectionHeader = omega arith
ng_step_least_is_kept InterfaceDescription = omega arith
ng_step_least_is_kept EnhancedPacket = omega arith
ng_step_least_is_kept Other = omega arith

-- the kept bytes of a whole block have the fields of its kind
pub ng_step_has_fields : (at : SectionPlace) (kept : KeptValue) (first : List ℕ) → kept_verdict at kept ≡ IsWhole → first ≡ kept.first
    → length first ≡ min 70 kept.came → least_length (block_kind at.order first) ≤ length first
ng_step_has_fields at kept first whole is size =
    let fits = verdict_fits at kept.came kept.first kept.last whole in
    let least : least_length (block_kind at.order first) ≡ least_length (block_kind at.order kept.first) =
    ap (λ l. least_length (block_kind at.order l)) is in
    omega (arith, least, fits.least, fits.there, size, ng_step_least_is_kept (block_kind at.order kept.first))

-- a whole packet is of an interface that the section described
pub ng_step_names_interface : (at : SectionPlace) (kept : KeptValue) (first : List ℕ) → kept_verdict at kept ≡ IsWhole → first ≡ kept.first
    → block_kind at.order first ≡ EnhancedPacket → number_in_order at.order 4 8 first < length at.interfaces
ng_step_names_interface at kept first whole is kind =
    let tells = verdict_tells at kept.came kept.first kept.last whole in
    let packet : block_kind at.order kept.first ≡ EnhancedPacket = ap (block_kind at.order) (sym is) ∙ kind in
    let told : PacketVerdictTells at.order (block_length at.order kept.first) (length at.interfaces) kept.first =
    subst (λ k. VerdictTells k (block_order k at.order kept.first) (block_length at.order kept.first) (length at.interfaces) kept.first) packet tells in
    subst (λ l. number_in_order at.order 4 8 l < length at.interfaces) (sym is) told.named

-- what is kept of a packet that gives a frame holds its fields and its head
pub record NgStepHolds (order : FileOrder) (first : List ℕ) : Type 0 where
  pub header : 28 ≤ length first
  pub limit : number_in_order order 4 20 first ≤ 262144
  pub head : 28 + min 42 (number_in_order order 4 20 first) ≤ length first

ng_step_holds_packet : (kind : BlockKind) (order : FileOrder) (size : ℕ) (interfaces : List Bool) (first : List ℕ) (came : ℕ)
    → VerdictTells kind (block_order kind order first) size (length interfaces) first
    → gives_frame interfaces (block_content kind order first) ≡ true → size ≤ came → min 70 came ≤ length first
    → NgStepHolds order first
ng_step_holds_packet SectionHeader order size interfaces first came tells gives there long = absurd (let wrong : false ≡ true = gives in cc)
ng_step_holds_packet InterfaceDescription order size interfaces first came tells gives there long = absurd (let wrong : false ≡ true = gives in cc)
ng_step_holds_packet EnhancedPacket order size interfaces first came tells gives there long = record {
  header = omega (arith, tells.room);
  limit = tells.limit;
  head = omega (arith, tells.room);
}
ng_step_holds_packet Other order size interfaces first came tells gives there long = absurd (let wrong : false ≡ true = gives in cc)

pub ng_step_holds : (at : SectionPlace) (kept : KeptValue) (first : List ℕ) (given : Bool) → kept_verdict at kept ≡ IsWhole
    → first ≡ kept.first → min 70 kept.came ≤ length first
    → given ≡ gives_frame at.interfaces (block_at at.order first).content → given ≡ true → NgStepHolds at.order kept.first
ng_step_holds at kept first given whole is long gives yes_given =
    let fits = verdict_fits at kept.came kept.first kept.last whole in
    let tells = verdict_tells at kept.came kept.first kept.last whole in
    ng_step_holds_packet (block_kind at.order kept.first) at.order (block_length at.order kept.first) at.interfaces kept.first kept.came tells
    (ap (λ l. gives_frame at.interfaces (block_at at.order l).content) (sym is) ∙ sym gives ∙ yes_given) fits.there
    (omega (arith, long, ap length is))

-- nothing kept waits
pub ng_step_starts_block : (at : SectionPlace) (kept : KeptValue) → kept ≡ kept_of [] → kept_verdict at kept ≡ Waits
ng_step_starts_block at kept is = ap (kept_verdict at) is ∙ verdict_on_nothing at _

-- ---- the end of the file

-- a reader between two blocks has read a capture
pub ng_step_ends_capture : (at : BlockPlace) (file : List ℕ) (frames : List FrameValue) → IsInBlock at file frames
    → at.kept.came ≡ 0 → 0 < at.section.count → IsNgCapture file frames × (at.frames ≡ length frames)
ng_step_ends_capture at file frames stands none some =
    let nothing : stands.rest ≡ [] = nil_from_length stands.rest (sym (ap (λ (k : KeptValue). k.came) stands.kept_is) ∙ none) in
    let count : at.section.count ≡ 0 + length stands.blocks =
    ap (λ (s : SectionPlace). s.count) stands.section_is ∙ split_blocks_count before_blocks stands.blocks in (
      record {
        blocks = stands.blocks;
        splits = subst (λ l. SplitsBlocks file stands.blocks l frames) nothing stands.splits;
        some = omega arith;
      },
      stands.count_is,
    )

-- a reader inside a block, or before the first one, has read a file that is cut there
pub ng_step_ends_in_block : (at : BlockPlace) (file : List ℕ) (frames : List FrameValue) → IsInBlock at file frames
    → (0 < at.kept.came) ⊎ (at.section.count ≡ 0) → HasNgFaultAfter file frames (header_fault_at CutBlock at.section.place)
ng_step_ends_in_block at file frames stands cut =
    let came : at.kept.came ≡ length stands.rest = ap (λ (k : KeptValue). k.came) stands.kept_is in
    let count : at.section.count ≡ 0 + length stands.blocks =
    ap (λ (s : SectionPlace). s.count) stands.section_is ∙ split_blocks_count before_blocks stands.blocks in
    inr (record {
      blocks = stands.blocks;
      rest = stands.rest;
      splits = stands.splits;
      none_shown = subst (λ s. block_verdict s stands.rest ≡ Waits) stands.section_is stands.waits;
      is_cut = elim cut [ inl some ↦ inl (omega arith) | inr first ↦ inr (nil_from_length stands.blocks (omega arith)) ];
      is_fault = ap (λ (s : SectionPlace). header_fault_at CutBlock s.place) stands.section_is;
    })

-- ---- a whole block of the piece

-- what is kept when no byte came waits
pub ng_step_between_blocks : (at : SectionPlace) (kept : KeptValue) → kept.came ≡ 0 → kept_verdict at kept ≡ Waits
unfolding verdict_of
ng_step_between_blocks at kept none = rw none refl
