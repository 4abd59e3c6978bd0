-- The bytes that a reader keeps of a block that is split between pieces.
use Rattle.std.specs.Prelude.{ℕ, ◌+◌, List, ◌∷◌, ◌++◌, length, take, drop}
use Rattle.pcap_frames.specs.{frame_head_length}
use Rattle.pcapng_frames.specs.declared.verdict.Verdict.{Verdict}
use Rattle.pcapng_frames.specs.Block.{packet_data_place}
use Rattle.pcapng_frames.specs.Section.{SectionPlace}
use Rattle.pcapng_frames.specs.Verdict.{verdict_of}

-- the bytes that are kept of the front of a block: the fields of a packet and the head of its frame
abbrev pub kept_length : ℕ
kept_length = packet_data_place + frame_head_length

-- the first 70 of the bytes that arrived, the last four, after four zeros, and how many arrived
pub record KeptValue : Type 0 where
  pub first : List ℕ
  pub last : List ℕ
  pub came : ℕ

-- what is kept of these bytes
abbrev pub kept_of : List ℕ → KeptValue
kept_of bytes = record {
  first = take kept_length bytes;
  last = drop (length bytes) (0 ∷ 0 ∷ 0 ∷ 0 ∷ bytes);
  came = length bytes;
}

-- what is kept after more bytes
abbrev pub kept_and : KeptValue → List ℕ → KeptValue
kept_and kept more = record {
  first = take kept_length (kept.first ++ more);
  last = drop (length more) (kept.last ++ more);
  came = kept.came + length more;
}

-- what kept bytes show of the block after some others
abbrev pub kept_verdict : SectionPlace → KeptValue → Verdict
kept_verdict at kept = verdict_of at kept.came kept.first kept.last
