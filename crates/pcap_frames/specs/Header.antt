-- The file header of libpcap's file format 2.4 (pcap-savefile): magic, version, three ignored fields, link type.
use Rattle.std.specs.Prelude.{ℕ, ◌≡◌, ◌≤◌, Bool, ◌==◌, ◌||◌, nat_lt, if◌then◌else◌, Option, Some, None, List, length}
use Rattle.pcap_frames.specs.Lengths.{header_length}
use Rattle.pcap_frames.specs.declared.file_order.FileOrder.{FileOrder}
use Rattle.pcap_frames.specs.declared.file_order.FileOrder.TheVariants.{Big, Little}
use Rattle.pcap_frames.specs.declared.fault.CaptureFault.{CaptureFault}
use Rattle.pcap_frames.specs.declared.fault.FaultKind.{FaultKind}
use Rattle.pcap_frames.specs.declared.fault.FaultKind.TheVariants.{NotCapture, Version, Link}
use Rattle.pcap_frames.specs.FileOrder.{number_in_order}

-- the two magics: time stamps in microseconds, or in nanoseconds
abbrev pub is_magic : ℕ → Bool
is_magic number = number == 0xa1b2c3d4 || number == 0xa1b23c4d

-- the byte order in which the first four bytes are a magic
unfoldable pub order_of_magic : List ℕ → Option FileOrder
order_of_magic bytes =
    if is_magic (number_in_order Big 4 0 bytes) then Some Big
    else (if is_magic (number_in_order Little 4 0 bytes) then Some Little else None)

-- a fault of this kind at this offset in the file
abbrev pub header_fault_at : FaultKind → ℕ → CaptureFault
header_fault_at kind place = record { kind = kind; place = place }

-- a whole file header: version 2.4, link type Ethernet, the numbers in the magic's byte order
pub record IsHeader (order : FileOrder) (bytes : List ℕ) : Type 0 where
  pub whole : header_length ≤ length bytes
  pub magic : order_of_magic bytes ≡ Some order
  pub major : number_in_order order 2 4 bytes ≡ 2
  pub minor : number_in_order order 2 6 bytes ≡ 4
  pub link : number_in_order order 4 20 bytes ≡ 1

-- what is wrong with the magic, or with the fields after it as far as they are present
abbrev pub fields_fault : Option FileOrder → List ℕ → Option CaptureFault
fields_fault None bytes = Some (header_fault_at NotCapture 0)
fields_fault (Some order) bytes =
    if nat_lt (length bytes) 8 then None
    else (if number_in_order order 2 4 bytes == 2
    then (if number_in_order order 2 6 bytes == 4
    then (if nat_lt (length bytes) header_length then None
    else (if number_in_order order 4 20 bytes == 1 then None else Some (header_fault_at Link 20)))
    else Some (header_fault_at Version 4))
    else Some (header_fault_at Version 4))

-- the first fault that the front of a file shows, however the file continues: magic, then version, then link type
unfoldable pub header_fault : List ℕ → Option CaptureFault
header_fault bytes = if nat_lt (length bytes) 4 then None else fields_fault (order_of_magic bytes) bytes
