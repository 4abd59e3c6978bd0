-- Which fault of reading a store a fault of a part is, which no public contract cites.
use Rattle.std.specs.Prelude.{ℕ}
use Rattle.slot_disk.specs.declared.fault.BeginFault.{BeginFault}
use Rattle.slot_disk.specs.declared.fault.BeginFault.TheVariants as begin
use Rattle.slot_disk.specs.declared.fault.BodyFault.{BodyFault}
use Rattle.slot_disk.specs.declared.fault.BodyFault.TheVariants as body
use Rattle.checkpoint.specs.declared.fault.DecodeFault.{DecodeFault}
use Rattle.checkpoint.specs.declared.fault.DecodeFault.TheVariants as decode
use Rattle.recovery.specs.declared.store_fault.StoreFault.{StoreFault}
use Rattle.recovery.specs.declared.store_fault.StoreFault.TheVariants.{DiskFault, NotFormatted, Damaged, OutOfMemory}

-- that of a store that wasn't begun
abbrev pub begin_fault : BeginFault → StoreFault
begin_fault begin.DiskFault = DiskFault
begin_fault begin.TooShort = NotFormatted

-- that of a body that wasn't read
abbrev pub body_fault : BodyFault → ℕ → StoreFault
body_fault body.DiskFault slot = DiskFault
body_fault body.Damaged slot = Damaged slot
body_fault body.OutOfMemory slot = OutOfMemory

-- that of a body that wasn't decoded
abbrev pub decode_fault : DecodeFault → ℕ → StoreFault
decode_fault decode.Damaged slot = Damaged slot
decode_fault decode.OutOfMemory slot = OutOfMemory
