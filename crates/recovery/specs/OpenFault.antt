-- Faults of opening: which of them a fault of reading is, and which of them bytes show.
use Rattle.std.specs.Prelude.{◌≢◌}
use Rattle.recovery.specs.declared.fault.OpenFault.{OpenFault}
use Rattle.recovery.specs.declared.fault.OpenFault.TheVariants as opening
use Rattle.recovery.specs.declared.store_fault.StoreFault.{StoreFault}
use Rattle.recovery.specs.declared.store_fault.StoreFault.TheVariants as reading

-- the fault of opening that a fault of reading is
abbrev pub open_fault : StoreFault → OpenFault
open_fault reading.DiskFault = opening.DiskFault
open_fault reading.NotFormatted = opening.NotFormatted
open_fault (reading.OtherSettings stored asked) = opening.OtherSettings stored asked
open_fault (reading.Damaged slot) = opening.Damaged slot
open_fault reading.OutOfMemory = opening.OutOfMemory

-- a fault that bytes show: none of the disk, and not that memory ran out
pub record IsShownByBytes (fault : OpenFault) : Type 0 where
  pub not_of_disk : fault ≢ opening.DiskFault
  pub not_of_memory : fault ≢ opening.OutOfMemory
