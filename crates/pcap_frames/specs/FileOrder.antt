-- The numbers of a file.
use Rattle.std.specs.Prelude.{ℕ, ◌%◌, ◌^◌, List}
use Rattle.byteorder.specs.Endian.{big_from, little_from}
use Rattle.pcap_frames.specs.declared.file_order.FileOrder.{FileOrder}
use Rattle.pcap_frames.specs.declared.file_order.FileOrder.TheVariants.{Big, Little}

-- the number in this many bytes from this offset on, in the file's byte order. It is below 256 to the number of bytes, even where
-- a list has numbers that are no bytes
unfoldable pub number_in_order : FileOrder → ℕ → ℕ → List ℕ → ℕ
number_in_order Big count place bytes = big_from place count bytes % 256 ^ count
number_in_order Little count place bytes = little_from place count bytes % 256 ^ count
