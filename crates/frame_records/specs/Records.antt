-- The result of reading the records of a capture.
use Rattle.std.specs.Prelude.{⊤, ℕ, ◌≡◌, ◌≤◌, Bool, false, List, length, Option, None, IfSome}
use Rattle.pcap_frames.specs.{FrameValue, frame_count_limit}
use Rattle.outside_io.specs.{FaultRose}
use Rattle.frame_records.specs.CaptureFile.{FileGives, IsRefusedFile}
use Rattle.pcap_frames.specs.declared.fault.ReadRefusal.{ReadRefusal}
use Rattle.pcap_frames.specs.declared.fault.ReadRefusal.TheVariants.{Capture, ReadFault, OutOfMemory}
use Rattle.frame_records.specs.FrameRecord.{records_of, skipped_count}
use Rattle.frame_records.specs.declared.weigh.Weigh.{Weigh}
use Rattle.frame_records.specs.declared.skip.Skip.TheVariants.{NotIpv4, Short, BadHeader}
use Rattle.frame_records.specs.declared.records.Records.{Records}

-- the records and the four counts of some frames
pub record AreRecordsOf (weigh : Weigh) (all : List FrameValue) (records : Records) : Type 0 where
  pub list : records.list ≡ records_of weigh all
  pub frames : records.frames ≡ length all
  pub not_ipv4 : records.not_ipv4 ≡ skipped_count NotIpv4 all
  pub short : records.short ≡ skipped_count Short all
  pub bad_header : records.bad_header ≡ skipped_count BadHeader all

-- the records are those of at most 16,777,216 frames, which with the cut are what the source's bytes give where these are known;
-- a cut is taken only where the front of a cut capture is asked for
pub record HasRecords (weigh : Weigh) (front : Bool) (left : Option (List ℕ)) (records : Records) : Type 0 where
  pub frames : List FrameValue
  pub few : length frames ≤ frame_count_limit
  pub told : IfSome left (λ file. FileGives front file frames records.cut)
  pub whole : front ≡ false → records.cut ≡ None
  pub are : AreRecordsOf weigh frames records

-- each refusal has its cause: the known bytes have this first fault, or the source's count of faults rose
abbrev pub HasRefused : Bool → Option (List ℕ) → ℕ → ℕ → ReadRefusal → Type 0
HasRefused front left before now (Capture fault) = IfSome left (λ file. IsRefusedFile front file fault)
HasRefused front left before now ReadFault = FaultRose before now
HasRefused front left before now OutOfMemory = ⊤
