-- What the reader of the pcapng format represents.
use Rattle.std.proofs.Common.{ℕ, ◌≡◌, ◌≤◌, ◌<◌, List, [], ◌++◌, length, Some, None, refl, sym, ap, ◌∙◌, arith, subst, ◌⊎◌, inl, inr, append-nil}
use Rattle.pcap_frames.specs.{FrameValue, StepTakes, ReadsFormat, Completes, fed_limit}
use Rattle.pcap_frames.specs.declared.fault.CaptureFault.{CaptureFault}
use Rattle.pcap_frames.specs.declared.fault.FeedFault.{FeedFault}
use Rattle.pcap_frames.specs.declared.fault.FeedFault.TheVariants.{Refused, OutOfMemory}
use Rattle.pcapng_frames.specs.declared.reader.part.BlockPart.{BlockPart}
use Rattle.pcapng_frames.specs.declared.reader.part.Stage.{Stage}
use Rattle.pcapng_frames.specs.declared.reader.part.Stage.TheVariants as stage
use Rattle.pcapng_frames.specs.declared.verdict.Verdict.TheVariants.{Waits}
use Rattle.pcapng_frames.specs.Section.{SectionPlace, before_blocks, after_blocks}
use Rattle.pcapng_frames.specs.Verdict.{block_verdict}
use Rattle.pcapng_frames.specs.Kept.{KeptValue}
use Rattle.pcapng_frames.specs.NgCapture.{ShowsNgFault, pcapng}
use Rattle.pcapng_frames.specs.NgReader.{BlockPlace, IsInBlock, NgReaderState, InBlocks, AtFault, LacksMemory, NgRepresents}
use Rattle.pcapng_frames.specs.NgReader.{ng_reader_stop, ng_reader_extent}
use Rattle.pcapng_frames.specs.NgPart.{state_of_part, IsPartInStage}
use Rattle.pcapng_frames.proofs.BlockSplitLemmas.{split_blocks_place}
use Rattle.pcapng_frames.proofs.NgFileLemmas.{ng_file_ends, ng_file_shows_or_waits, ng_file_shows_still}
use Rattle.pcapng_frames.proofs.NgLimitLemmas.{limit_of_waiting_bytes}

-- ---- what each state says of the bytes

-- the rest of a reader inside a block waits
ng_reader_block_waits : (at : BlockPlace) (bytes : List ℕ) (frames : List FrameValue) (stands : IsInBlock at bytes frames)
    → block_verdict (after_blocks before_blocks stands.blocks) stands.rest ≡ Waits
ng_reader_block_waits at bytes frames stands = subst (λ s. block_verdict s stands.rest ≡ Waits) stands.section_is stands.waits

ng_reader_completes : (state : NgReaderState) (bytes : List ℕ) (frames : List FrameValue) → NgRepresents state bytes frames
    → Completes pcapng bytes frames
ng_reader_completes (InBlocks at) bytes frames stands =
    ng_file_ends bytes frames stands.blocks stands.rest stands.splits (ng_reader_block_waits at bytes frames stands)
ng_reader_completes (AtFault fault) bytes frames stands = inr (fault, inl stands)
ng_reader_completes LacksMemory bytes frames stands = absurd stands

ng_reader_shows_fault : (state : NgReaderState) (bytes : List ℕ) (frames : List FrameValue) (fault : CaptureFault)
    → NgRepresents state bytes frames → ng_reader_stop state ≡ Some (Refused fault) → ShowsNgFault bytes frames fault
ng_reader_shows_fault (InBlocks at) bytes frames fault stands stopped = absurd cc
ng_reader_shows_fault (AtFault shown) bytes frames fault stands stopped =
    subst (ShowsNgFault bytes frames) (let same : shown ≡ fault = cc in same) stands
ng_reader_shows_fault LacksMemory bytes frames fault stands stopped = absurd stands

ng_reader_goes_on : (state : NgReaderState) (bytes : List ℕ) (frames others : List FrameValue) (fault : CaptureFault)
    → NgRepresents state bytes frames → ng_reader_stop state ≡ None → ShowsNgFault bytes others fault → ⊥
ng_reader_goes_on (InBlocks at) bytes frames others fault stands goes shows =
    ng_file_shows_or_waits bytes others frames fault stands.blocks stands.rest stands.splits (ng_reader_block_waits at bytes frames stands) shows
ng_reader_goes_on (AtFault shown) bytes frames others fault stands goes shows = absurd cc
ng_reader_goes_on LacksMemory bytes frames others fault stands goes shows = absurd stands

ng_reader_stays : (state : NgReaderState) (bytes more : List ℕ) (frames : List FrameValue) (fault : FeedFault)
    → NgRepresents state bytes frames → ng_reader_stop state ≡ Some fault → NgRepresents state (bytes ++ more) frames
ng_reader_stays (InBlocks at) bytes more frames fault stands stopped = absurd cc
ng_reader_stays (AtFault shown) bytes more frames fault stands stopped = ng_file_shows_still bytes more frames shown stands
ng_reader_stays LacksMemory bytes more frames fault stands stopped = absurd stands

ng_reader_counts : (state : NgReaderState) (bytes : List ℕ) (frames : List FrameValue)
    → NgRepresents state bytes frames → ng_reader_stop state ≡ None → ng_reader_extent state ≡ length bytes
ng_reader_counts (InBlocks at) bytes frames stands goes =
    let splits = stands.splits in
    let came : KeptValue.came at.kept ≡ length stands.rest = ap (λ (k : KeptValue). k.came) stands.kept_is in
    let place : SectionPlace.place at.section ≡ SectionPlace.place (after_blocks before_blocks stands.blocks) =
    ap (λ (s : SectionPlace). s.place) stands.section_is in
    omega (arith, came, place, split_blocks_place before_blocks bytes stands.blocks stands.rest splits.begins)
ng_reader_counts (AtFault fault) bytes frames stands goes = absurd cc
ng_reader_counts LacksMemory bytes frames stands goes = absurd stands

ng_reader_is_bounded : (state : NgReaderState) (bytes : List ℕ) (frames : List FrameValue)
    → NgRepresents state bytes frames → ng_reader_stop state ≡ None → length bytes ≤ fed_limit
ng_reader_is_bounded (InBlocks at) bytes frames stands goes =
    let splits = stands.splits in
    limit_of_waiting_bytes bytes stands.blocks stands.rest splits.begins (ng_reader_block_waits at bytes frames stands)
ng_reader_is_bounded (AtFault fault) bytes frames stands goes = absurd cc
ng_reader_is_bounded LacksMemory bytes frames stands goes = absurd stands

pub ng_reader_reads_format : ReadsFormat pcapng NgRepresents ng_reader_stop ng_reader_extent
ng_reader_reads_format = record {
  completes = ng_reader_completes;
  refused = ng_reader_shows_fault;
  unrefused = ng_reader_goes_on;
  stays = ng_reader_stays;
  counts = ng_reader_counts;
  limited = ng_reader_is_bounded;
}

-- ---- steps of a reader that has stopped

-- it takes all bytes
pub stopped_ng_reader_takes_all : (state : NgReaderState) (fault : FeedFault) (piece rest : List ℕ) → ng_reader_stop state ≡ Some fault
    → 0 < length piece → rest ≡ [] → StepTakes NgRepresents state state piece rest []
stopped_ng_reader_takes_all state fault piece rest stopped some none =
    record {
      front = piece;
      joined = sym (append-nil piece) ∙ ap (λ l. piece ++ l) (sym none);
      some = some;
      advances = record {
        reads = λ before frames stands.
            subst (NgRepresents state (before ++ piece)) (sym (append-nil frames))
            (ng_reader_stays state before piece frames fault stands stopped);
      };
    }

-- a reader in the stage at a fault or out of memory has stopped
pub ng_reader_stage_has_stopped : (now : Stage) (part : BlockPart)
    → ((fault : CaptureFault) × (now ≡ stage.AtFault fault)) ⊎ (now ≡ stage.LacksMemory)
    → (fault : FeedFault) × (ng_reader_stop (state_of_part now part) ≡ Some fault)
ng_reader_stage_has_stopped now part (inl (fault, is)) =
    (Refused fault, subst (λ s. ng_reader_stop (state_of_part s part) ≡ Some (Refused fault)) (sym is) refl)
ng_reader_stage_has_stopped now part (inr is) =
    (OutOfMemory, subst (λ s. ng_reader_stop (state_of_part s part) ≡ Some OutOfMemory) (sym is) refl)

-- such a stage asks nothing of its part
pub ng_reader_stage_keeps_part : (now : Stage) (part : BlockPart)
    → ((fault : CaptureFault) × (now ≡ stage.AtFault fault)) ⊎ (now ≡ stage.LacksMemory)
    → IsPartInStage now part
ng_reader_stage_keeps_part now part (inl (fault, is)) = subst (λ s. IsPartInStage s part) (sym is) tt
ng_reader_stage_keeps_part now part (inr is) = subst (λ s. IsPartInStage s part) (sym is) tt
