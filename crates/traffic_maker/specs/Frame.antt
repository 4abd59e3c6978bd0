-- A frame of made traffic: its header in the file, and its bytes on the wire.
use Rattle.std.specs.Prelude.{ℕ, ◌+◌, ◌-◌, ◌*◌, ◌%◌, List, [], ◌∷◌, ◌++◌}
use Rattle.byteorder.specs.Endian.{big_bytes, little_bytes}
use Rattle.traffic_maker.specs.Address.{made_address}
use Rattle.traffic_maker.specs.Draws.{draw}

-- how many bytes the Ethernet header of each frame has (IEEE 802.3)
abbrev pub ethernet_length : ℕ
ethernet_length = 14

-- how many bytes the IPv4 header of each frame has: five 32-bit words (RFC 791)
abbrev pub ip_length : ℕ
ip_length = 20

-- how many bytes of each frame are captured: both headers
abbrev pub captured_length : ℕ
captured_length = ethernet_length + ip_length

-- how many bytes of a header precede the captured ones of a packet in the file (libpcap's file format)
abbrev pub packet_header_length : ℕ
packet_header_length = 16

-- how many bytes each frame has in the file: its header there, and the captured bytes
abbrev pub frame_length : ℕ
frame_length = packet_header_length + captured_length

-- the length on the wire of the frame at an index: 100, 200, 300 and 400 bytes in turn
abbrev pub wire_length : ℕ → ℕ
wire_length index = 100 * (1 + index % 4)

-- the frame's header in the file, low byte first: the index as the seconds of the time stamp, no fraction of a second,
-- the captured length and the length on the wire
abbrev pub frame_header : ℕ → List ℕ
frame_header index =
    little_bytes 4 index ++ little_bytes 4 0 ++ little_bytes 4 captured_length ++ little_bytes 4 (wire_length index)

-- the Ethernet header: destination 02:00:00:00:00:02, source 02:00:00:00:00:01, type IPv4
abbrev pub ethernet_header : List ℕ
ethernet_header = 2 ∷ 0 ∷ 0 ∷ 0 ∷ 0 ∷ 2 ∷ 2 ∷ 0 ∷ 0 ∷ 0 ∷ 0 ∷ 1 ∷ 8 ∷ 0 ∷ []

-- the IPv4 header (RFC 791): version 4 and five words, the length without the Ethernet header, no fragment, 64 hops, UDP,
-- no checksum, and the two addresses
abbrev pub ip_header : ℕ → List ℕ → List ℕ → List ℕ
ip_header index source dest =
    (0x45 ∷ 0 ∷ []) ++ big_bytes 2 (wire_length index - ethernet_length) ++ (0 ∷ 0 ∷ 0 ∷ 0 ∷ 64 ∷ 17 ∷ 0 ∷ 0 ∷ []) ++ source ++ dest

-- the frame at an index between two addresses
unfoldable pub frame_bytes : ℕ → List ℕ → List ℕ → List ℕ
frame_bytes index source dest = frame_header index ++ ethernet_header ++ ip_header index source dest

-- the frame at an index, from 0, that a seed makes: its source is drawn first, then its destination
unfoldable pub made_frame : ℕ → ℕ → List ℕ
made_frame seed index =
    frame_bytes index (made_address 10 (draw seed (2 * index))) (made_address 20 (draw seed (2 * index + 1)))
