-- The size of the pieces in which a capture is written, which no public contract cites.
use Rattle.std.specs.Prelude.{ℕ, ◌*◌}
use Rattle.traffic_maker.specs.Frame.{frame_length}

-- the most frames of a piece: enough that a call of the sink costs little compared with making its frames
abbrev pub frames_in_piece : ℕ
frames_in_piece = 640

-- the most bytes of a piece
abbrev pub bytes_in_piece : ℕ
bytes_in_piece = frames_in_piece * frame_length
