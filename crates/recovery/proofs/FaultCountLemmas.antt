-- The faults with which calls end, and the count of the disk's faults from one call to the next.
use Rattle.std.proofs.Common.{◌≡◌, ◌≤◌, ℕ, List, Option, Result, Err, refl, ap, subst, arith}
use Rattle.outside_io.specs.{FaultRose}
use Rattle.prefix_lattice.specs.{RecordValue}
use Rattle.checkpoint.specs.declared.newest.Newest.{Newest}
use Rattle.checkpoint.specs.declared.settings.StoreSettings.{StoreSettings}
use Rattle.slot_disk.specs.declared.fault.BodyFault.{BodyFault}
use Rattle.slot_disk.specs.declared.fault.BodyFault.TheVariants as body
use Rattle.checkpoint.specs.declared.fault.DecodeFault.{DecodeFault}
use Rattle.checkpoint.specs.declared.fault.DecodeFault.TheVariants as decode
use Rattle.recovery.specs.OpenFault.{open_fault}
use Rattle.recovery.specs.StoreFault.{body_fault, decode_fault}
use Rattle.recovery.specs.Reading.{RefusesReading}
use Rattle.recovery.specs.Found.{IsFrontFault, IsListFault}
use Rattle.recovery.specs.declared.fault.OpenFault.{OpenFault}
use Rattle.recovery.specs.declared.fault.OpenFault.TheVariants as opening
use Rattle.recovery.specs.declared.store_fault.StoreFault.{StoreFault}
use Rattle.recovery.specs.declared.store_fault.StoreFault.TheVariants as reading

-- the count over two calls
pub fault_count_rises : (old mid new : ℕ) → old ≤ mid → mid ≤ new → old ≤ new
fault_count_rises old mid new first second = omega (arith, first, second)

-- it rose in the second call, and the first one left it
pub fault_count_rose : (old mid new : ℕ) → mid ≡ old → FaultRose mid new → FaultRose old new
fault_count_rose old mid new same rose = subst (λ (n : ℕ). FaultRose n new) same rose

-- a call that ends with this fault
abbrev ends_with_fault : {T E : Type 0} → E → Result T E
ends_with_fault fault = Err fault

-- which fault it is doesn't depend on what the call would have returned
pub fault_is_same : {T U E : Type 0} (fault other : E) → ends_with_fault {T = T} fault ≡ ends_with_fault {T = T} other
    → ends_with_fault {T = U} fault ≡ ends_with_fault {T = U} other
fault_is_same {U = U} {E = E} fault other is =
    let same : fault ≡ other = cc in
    ap (ends_with_fault {T = U} {E = E}) same

-- opening ends with a fault of the disk where reading does, and nowhere else
pub fault_of_opening_is_of_disk : {T U : Type 0} (fault : StoreFault) → ends_with_fault {T = T} fault ≡ ends_with_fault {T = T} reading.DiskFault
    → ends_with_fault {T = U} (open_fault fault) ≡ ends_with_fault {T = U} opening.DiskFault
fault_of_opening_is_of_disk {U = U} fault is =
    let same : fault ≡ reading.DiskFault = cc in
    ap (λ (f : StoreFault). ends_with_fault {T = U} (open_fault f)) same

pub fault_of_reading_is_of_disk : {T U : Type 0} (fault : StoreFault)
    → ends_with_fault {T = T} (open_fault fault) ≡ ends_with_fault {T = T} opening.DiskFault
    → ends_with_fault {T = U} fault ≡ ends_with_fault {T = U} reading.DiskFault
fault_of_reading_is_of_disk reading.DiskFault is = refl
fault_of_reading_is_of_disk reading.NotFormatted is = absurd (cc is)
fault_of_reading_is_of_disk (reading.OtherSettings stored asked) is = absurd (cc is)
fault_of_reading_is_of_disk (reading.Damaged slot) is = absurd (cc is)
fault_of_reading_is_of_disk reading.OutOfMemory is = absurd (cc is)

-- a newest slot isn't refused for a fault of the disk
pub fault_of_lists_is_not_of_disk : {T : Type 0} (lists : List (List RecordValue)) (digest : List ℕ) (found : Option Newest) (fault : OpenFault)
    → IsListFault lists digest found fault → ends_with_fault {T = T} fault ≡ ends_with_fault {T = T} opening.DiskFault → ⊥
fault_of_lists_is_not_of_disk lists digest found fault refused is =
    let same : fault ≡ opening.DiskFault = cc is in
    subst (IsListFault lists digest found) same refused

-- a fault of the gates and the header
pub fault_of_front_is_refused : (settings : StoreSettings) (image : List ℕ) (fault : StoreFault) → IsFrontFault settings image fault
    → RefusesReading settings image fault
fault_of_front_is_refused settings image reading.DiskFault is = tt
fault_of_front_is_refused settings image reading.NotFormatted is = is
fault_of_front_is_refused settings image (reading.OtherSettings stored asked) is = is
fault_of_front_is_refused settings image (reading.Damaged slot) is = absurd is
fault_of_front_is_refused settings image reading.OutOfMemory is = tt

-- so it is with a body that isn't read; that it isn't decoded is no fault of the disk
pub fault_of_slot_is_of_disk : {T U : Type 0} (fault : BodyFault) (slot : ℕ) → ends_with_fault {T = T} fault ≡ ends_with_fault {T = T} body.DiskFault
    → ends_with_fault {T = U} (body_fault fault slot) ≡ ends_with_fault {T = U} reading.DiskFault
fault_of_slot_is_of_disk {U = U} fault slot is =
    let same : fault ≡ body.DiskFault = cc in
    ap (λ (f : BodyFault). ends_with_fault {T = U} (body_fault f slot)) same

pub fault_of_body_is_of_disk : {T U : Type 0} (fault : BodyFault) (slot : ℕ)
    → ends_with_fault {T = T} (body_fault fault slot) ≡ ends_with_fault {T = T} reading.DiskFault
    → ends_with_fault {T = U} fault ≡ ends_with_fault {T = U} body.DiskFault
fault_of_body_is_of_disk body.DiskFault slot is = refl
fault_of_body_is_of_disk body.Damaged slot is = absurd (cc is)
fault_of_body_is_of_disk body.OutOfMemory slot is = absurd (cc is)

pub fault_of_decode_is_not_of_disk : {T : Type 0} (fault : DecodeFault) (slot : ℕ)
    → ends_with_fault {T = T} (decode_fault fault slot) ≡ ends_with_fault {T = T} reading.DiskFault → ⊥
fault_of_decode_is_not_of_disk decode.Damaged slot is = cc is
fault_of_decode_is_not_of_disk decode.OutOfMemory slot is = cc is
