-- What a visitor keeps of the frames that it is shown, which no public contract cites: their records and capped counts.
use Rattle.std.specs.Prelude.{ℕ, ◌≡◌, ◌+◌, ◌-◌, ◌^◌, min, Bool, true, false, List, [], ◌∷◌, ◌++◌, length, Result}
use Rattle.std.specs.Prelude.{None, Ok, Err}
use Rattle.prefix_lattice.specs.{RecordValue}
use Rattle.pcap_frames.specs.{FrameValue}
use Rattle.frame_records.specs.FrameRecord.{records_of, skipped_count}
use Rattle.frame_records.specs.declared.weigh.Weigh.{Weigh}
use Rattle.frame_records.specs.declared.weigh.Weigh.TheVariants.{Bytes, Packets}
use Rattle.frame_records.specs.declared.skip.Skip.{Skip}
use Rattle.frame_records.specs.declared.skip.Skip.TheVariants.{NotIpv4, Short, BadHeader}
use Rattle.frame_records.specs.declared.records.Records.{Records}

-- how the visitor weighs traffic, as its type says: by packets or by bytes
abbrev pub visitor_weighing : Bool → Weigh
visitor_weighing true = Packets
visitor_weighing false = Bytes

-- a count that stays at the greatest u64
abbrev pub capped : ℕ → ℕ
capped count = min count (2 ^ 64 - 1)

-- the records and the capped counts of some frames, of which none was cut so far
pub record KeepsRecordsOf (weigh : Weigh) (all : List FrameValue) (records : Records) : Type 0 where
  pub list : records.list ≡ records_of weigh all
  pub frames : records.frames ≡ capped (length all)
  pub not_ipv4 : records.not_ipv4 ≡ capped (skipped_count NotIpv4 all)
  pub short : records.short ≡ capped (skipped_count Short all)
  pub bad_header : records.bad_header ≡ capped (skipped_count BadHeader all)
  pub cut : records.cut ≡ None

-- the counts after one more skipped frame
abbrev pub with_skip : Skip → Records → Records
with_skip NotIpv4 records = record records { not_ipv4 = capped (records.not_ipv4 + 1) }
with_skip Short records = record records { short = capped (records.short + 1) }
with_skip BadHeader records = record records { bad_header = capped (records.bad_header + 1) }

-- the records after one more frame, by its record or why it has none
abbrev pub after_frame : Result RecordValue Skip → Records → Records
after_frame (Ok rec) records = record records { list = records.list ++ rec ∷ []; frames = capped (records.frames + 1) }
after_frame (Err skip) records = record (with_skip skip records) { frames = capped (records.frames + 1) }
