-- A pcapng capture, its frames and its first fault.
use Rattle.std.specs.Prelude.{ℕ, ◌≡◌, ◌<◌, ◌⊎◌, List, [], ◌∷◌, length, drop}
use Rattle.pcap_frames.specs.{FrameValue, header_fault_at, Format}
use Rattle.pcap_frames.specs.declared.fault.CaptureFault.{CaptureFault}
use Rattle.pcap_frames.specs.declared.fault.FaultKind.TheVariants.{CutBlock}
use Rattle.pcapng_frames.specs.declared.verdict.Verdict.TheVariants.{Waits, IsWrong, IsWhole}
use Rattle.pcapng_frames.specs.Block.{BlockValue, block_at}
use Rattle.pcapng_frames.specs.Section.{SectionPlace, before_blocks, after_block, after_blocks, frames_of_blocks}
use Rattle.pcapng_frames.specs.Verdict.{block_verdict}

-- this whole block, which has no fault, is at the front of the bytes after some others
pub record BeginsWithBlock (at : SectionPlace) (bytes : List ℕ) (block : BlockValue) : Type 0 where
  pub whole : block_verdict at bytes ≡ IsWhole
  pub is_block : block ≡ block_at at.order bytes

-- the bytes after some blocks are these blocks in order, and then a rest
abbrev pub BeginsWithBlocks : SectionPlace → List ℕ → List BlockValue → List ℕ → Type 0
BeginsWithBlocks at bytes [] rest = rest ≡ bytes
BeginsWithBlocks at bytes (block ∷ blocks) rest =
    BeginsWithBlock at bytes block × BeginsWithBlocks (after_block at block) (drop block.size bytes) blocks rest

-- the bytes at the front of a file are blocks and a rest, and these are the frames of the blocks
pub record SplitsBlocks (bytes : List ℕ) (blocks : List BlockValue) (rest : List ℕ) (frames : List FrameValue) : Type 0 where
  pub begins : BeginsWithBlocks before_blocks bytes blocks rest
  pub frames_are : frames ≡ frames_of_blocks before_blocks blocks

-- the file is a pcapng capture of these frames: one block or more up to the end of the file, none with a fault; the frames are
-- those of its enhanced packets on Ethernet interfaces
pub record IsNgCapture (file : List ℕ) (frames : List FrameValue) : Type 0 where
  pub blocks : List BlockValue
  pub splits : SplitsBlocks file blocks [] frames
  pub some : 0 < length blocks

-- the bytes at the front of a file show this fault, however the file continues, after these frames; its offset is that of the block
pub record ShowsNgFault (bytes : List ℕ) (frames : List FrameValue) (fault : CaptureFault) : Type 0 where
  pub blocks : List BlockValue
  pub rest : List ℕ
  pub splits : SplitsBlocks bytes blocks rest frames
  pub shown : block_verdict (after_blocks before_blocks blocks) rest ≡ IsWrong fault.kind
  pub place_is : fault.place ≡ SectionPlace.place (after_blocks before_blocks blocks)

-- the file ends inside the block after these frames, or before its first block: CutBlock at that block's first byte
pub record EndsInBlock (file : List ℕ) (frames : List FrameValue) (fault : CaptureFault) : Type 0 where
  pub blocks : List BlockValue
  pub rest : List ℕ
  pub splits : SplitsBlocks file blocks rest frames
  pub none_shown : block_verdict (after_blocks before_blocks blocks) rest ≡ Waits
  pub is_cut : (0 < length rest) ⊎ (blocks ≡ [])
  pub is_fault : fault ≡ header_fault_at CutBlock (SectionPlace.place (after_blocks before_blocks blocks))

-- this is the file's first fault, and these are the frames before it
abbrev pub HasNgFaultAfter : List ℕ → List FrameValue → CaptureFault → Type 0
HasNgFaultAfter file frames fault = ShowsNgFault file frames fault ⊎ EndsInBlock file frames fault

-- the pcapng format
abbrev pub pcapng : Format
pcapng = record {
  is_capture = IsNgCapture;
  shows_fault = ShowsNgFault;
  has_fault_after = HasNgFaultAfter;
}
