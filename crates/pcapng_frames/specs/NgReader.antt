-- What a reader of a pcapng capture keeps between two pieces of a file.
use Rattle.std.specs.Prelude.{ℕ, ◌≡◌, ◌+◌, Option, None, Some, List, length}
use Rattle.pcap_frames.specs.{FrameValue}
use Rattle.pcap_frames.specs.declared.fault.CaptureFault.{CaptureFault}
use Rattle.pcap_frames.specs.declared.fault.FeedFault.{FeedFault}
use Rattle.pcap_frames.specs.declared.fault.FeedFault.TheVariants.{Refused, OutOfMemory}
use Rattle.pcapng_frames.specs.declared.verdict.Verdict.TheVariants.{Waits}
use Rattle.pcapng_frames.specs.Block.{BlockValue}
use Rattle.pcapng_frames.specs.Section.{SectionPlace, before_blocks, after_blocks}
use Rattle.pcapng_frames.specs.Verdict.{block_verdict}
use Rattle.pcapng_frames.specs.NgCapture.{SplitsBlocks, ShowsNgFault}
use Rattle.pcapng_frames.specs.Kept.{KeptValue, kept_of}

-- after some blocks: what they leave, the number of their frames, and what is kept of the next block
pub record BlockPlace : Type 0 where
  pub section : SectionPlace
  pub frames : ℕ
  pub kept : KeptValue

-- after some blocks, at a fault, or out of memory
pub data NgReaderState : Type 0 where
  InBlocks : BlockPlace → NgReaderState
  AtFault : CaptureFault → NgReaderState
  LacksMemory : NgReaderState

-- the bytes are these whole blocks, which contain these frames, and less than a whole block, which shows no fault
pub record IsInBlock (at : BlockPlace) (bytes : List ℕ) (frames : List FrameValue) : Type 0 where
  pub blocks : List BlockValue
  pub rest : List ℕ
  pub splits : SplitsBlocks bytes blocks rest frames
  pub section_is : at.section ≡ after_blocks before_blocks blocks
  pub waits : block_verdict at.section rest ≡ Waits
  pub count_is : at.frames ≡ length frames
  pub kept_is : at.kept ≡ kept_of rest

-- a reader in this state represents these bytes at the front of a file, which contain these whole frames
abbrev pub NgRepresents : NgReaderState → List ℕ → List FrameValue → Type 0
NgRepresents (InBlocks at) bytes frames = IsInBlock at bytes frames
NgRepresents (AtFault fault) bytes frames = ShowsNgFault bytes frames fault
NgRepresents LacksMemory bytes frames = ⊥

-- why a reader in this state takes no more bytes, if it has stopped
abbrev pub ng_reader_stop : NgReaderState → Option FeedFault
ng_reader_stop (InBlocks at) = None
ng_reader_stop (AtFault fault) = Some (Refused fault)
ng_reader_stop LacksMemory = Some OutOfMemory

-- how many bytes a reader in this state was fed, while it goes on
abbrev pub ng_reader_extent : NgReaderState → ℕ
ng_reader_extent (InBlocks at) = SectionPlace.place at.section + KeptValue.came at.kept
ng_reader_extent (AtFault fault) = 0
ng_reader_extent LacksMemory = 0
