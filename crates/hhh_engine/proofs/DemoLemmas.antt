-- The report of a demonstration.
use Rattle.std.proofs.Common.{◌≡◌, ℕ, List, Some, arith, false, refl}
use Rattle.dealt_capture.specs.{IsCaptureFile}
use Rattle.hhh_engine.specs.Reading.{HasNoText}
use Rattle.run_status.specs.declared.status.Status.{Status}
use Rattle.run_status.specs.declared.status.Status.TheVariants.{Done, BadWords, BadCapture, ReadFault, WriteFault}
use Rattle.run_status.specs.declared.status.Status.TheVariants.{DiskFault, NotFormatted, Damaged, OtherSettings}
use Rattle.run_status.specs.declared.status.Status.TheVariants.{OtherCapture, AuditNo, BadReport, OutOfMemory}
use Rattle.hhh_engine.proofs.StatusLemmas.{CaptureStatusIsFaultless}

-- a capture in memory is never refused
pub demo_capture_is_never_refused : CaptureStatusIsFaultless → (file : List ℕ) (status : Status) → IsCaptureFile false file
    → HasNoText false (Some file) 0 0 status → (status ≡ OutOfMemory → ⊥) → ⊥
demo_capture_is_never_refused never_both file Done capture none other = none
demo_capture_is_never_refused never_both file (BadWords kind) capture none other = none
demo_capture_is_never_refused never_both file (BadCapture fault) capture none other = never_both false file capture fault none
demo_capture_is_never_refused never_both file ReadFault capture none other = omega (arith, none)
demo_capture_is_never_refused never_both file WriteFault capture none other = none
demo_capture_is_never_refused never_both file DiskFault capture none other = none
demo_capture_is_never_refused never_both file NotFormatted capture none other = none
demo_capture_is_never_refused never_both file (Damaged slot) capture none other = none
demo_capture_is_never_refused never_both file (OtherSettings stored asked) capture none other = none
demo_capture_is_never_refused never_both file (OtherCapture stored asked) capture none other = none
demo_capture_is_never_refused never_both file (AuditNo report verdict) capture none other = none
demo_capture_is_never_refused never_both file (BadReport fault) capture none other = none
demo_capture_is_never_refused never_both file OutOfMemory capture none other = other refl
