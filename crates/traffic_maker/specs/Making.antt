-- The capture that a seed makes.
use Rattle.std.specs.Prelude.{ℕ, List, ◌++◌}
use Rattle.std.specs.List.{flat_map, range_with_len}
use Rattle.byteorder.specs.Endian.{little_bytes}
use Rattle.traffic_maker.specs.Frame.{made_frame}

-- the most frames of a made capture
abbrev pub most_frames : ℕ
most_frames = 1000000

-- the greatest captured length that the file header states
abbrev pub snap_length : ℕ
snap_length = 262144

-- the file header, low byte first: microseconds, version 2.4, no time zone, no accuracy, at most 262,144 captured bytes,
-- Ethernet (libpcap's file format)
unfoldable pub capture_header : List ℕ
capture_header =
    little_bytes 4 0xa1b2c3d4 ++ little_bytes 2 2 ++ little_bytes 2 4 ++ little_bytes 4 0 ++ little_bytes 4 0
    ++ little_bytes 4 snap_length ++ little_bytes 4 1

-- this many frames from an index on, one after the other
abbrev pub capture_frames : ℕ → ℕ → ℕ → List ℕ
capture_frames seed first count = flat_map (made_frame seed) (range_with_len first count)

-- the capture of this many frames that a seed makes
abbrev pub made_capture : ℕ → ℕ → List ℕ
made_capture seed frames = capture_header ++ capture_frames seed 0 frames
