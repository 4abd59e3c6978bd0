-- A capture in either format, by its first four bytes: pcapng, or libpcap's file format 2.4.
use Rattle.std.specs.Prelude.{ℕ, ◌==◌, Bool, true, false, List}
use Rattle.pcap_frames.specs.{number_in_order, Format, classic}
use Rattle.pcapng_frames.specs.NgCapture.{pcapng}
use Rattle.pcap_frames.specs.declared.file_order.FileOrder.TheVariants.{Big}

-- whether the first four bytes are 0a 0d 0d 0a, the type of a section header, with which each pcapng capture begins
abbrev pub begins_as_pcapng : List ℕ → Bool
begins_as_pcapng bytes = number_in_order Big 4 0 bytes == 0x0a0d0d0a

-- the format of captures that begin so, or don't
abbrev pub format_by_beginning : Bool → Format
format_by_beginning true = pcapng
format_by_beginning false = classic

-- the captures of both formats: what is said of bytes is what the format says that they begin as
abbrev pub capture_format : Format
capture_format = record {
  is_capture = λ file frames. Format.is_capture (format_by_beginning (begins_as_pcapng file)) file frames;
  shows_fault = λ bytes frames fault. Format.shows_fault (format_by_beginning (begins_as_pcapng bytes)) bytes frames fault;
  has_fault_after = λ file frames fault. Format.has_fault_after (format_by_beginning (begins_as_pcapng file)) file frames fault;
}
