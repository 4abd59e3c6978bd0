-- The fault of a call that another call returns.
use Rattle.std.proofs.Common.{◌≡◌, Result, Err, ap}
use Rattle.checkpoint.specs.declared.fault.DecodeFault.{DecodeFault}

-- a result with this fault
abbrev decode_fault_result : {T : Type 0} → DecodeFault → Result T DecodeFault
decode_fault_result fault = Err fault

-- which fault it is doesn't depend on what the call would have returned
pub decode_fault_is_same : {T U : Type 0} (fault other : DecodeFault) → decode_fault_result {T = T} fault ≡ decode_fault_result {T = T} other
    → decode_fault_result {T = U} fault ≡ decode_fault_result {T = U} other
decode_fault_is_same {U = U} fault other is =
    let same : fault ≡ other = cc in
    ap (decode_fault_result {T = U}) same
