-- The lengths of libpcap's file format 2.4, in bytes, and how much of a frame is read and kept.
use Rattle.std.specs.Prelude.{ℕ, ◌+◌}

-- the bytes of the file header: magic, two versions, time zone, accuracy, snapshot length, link type
abbrev pub header_length : ℕ
header_length = 24

-- the bytes of the header before each packet: two time stamp fields, captured length and length on the wire, four bytes each
abbrev pub packet_header_length : ℕ
packet_header_length = 16

-- the most captured bytes of a frame, which is libpcap's own limit
abbrev pub most_captured : ℕ
most_captured = 262144

-- the bytes of a frame that its record is read from: two hardware addresses of 6 bytes, two VLAN tags of 4,
-- the type of 2, and an IPv4 header of 20
abbrev pub frame_head_length : ℕ
frame_head_length = 42

-- the bytes that are kept of a frame split between pieces: its header and its head
abbrev pub kept_length : ℕ
kept_length = packet_header_length + frame_head_length
