-- What a visitor saw.
use Rattle.std.specs.Prelude.{List, ◌++◌}
use Rattle.pcap_frames.specs.Frame.{FrameValue}

-- for each list of frames that the visitor represented, it now represents that list followed by these frames
abbrev pub VisitorSees : {V : Type 0} → (V → List FrameValue → Type 0) → V → V → List FrameValue → Type 0
VisitorSees represents old new frames = (before : List FrameValue) → represents old before → represents new (before ++ frames)

-- two states of a visitor represent the same lists of frames
pub record RepresentSame {V : Type 0} (represents : V → List FrameValue → Type 0) (old new : V) : Type 0 where
  pub forth : (frames : List FrameValue) → represents old frames → represents new frames
  pub back : (frames : List FrameValue) → represents new frames → represents old frames
