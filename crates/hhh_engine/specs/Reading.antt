-- Why a command returns no text, which no public contract cites.
use Rattle.std.specs.Prelude.{⊤, ℕ, Bool, List, Option, IfSome}
use Rattle.outside_io.specs.{FaultRose}
use Rattle.frame_records.specs.{IsRefusedFile}
use Rattle.run_status.specs.declared.status.Status.{Status}
use Rattle.run_status.specs.declared.status.Status.TheVariants.{BadCapture, ReadFault, OutOfMemory}
use Rattle.run_status.specs.declared.status.Status.TheVariants.{BadReport}
use Rattle.command_words.specs.declared.settings.Settings.{Settings}
use Rattle.dealt_capture.specs.{DealingRules}
use Rattle.session_audit.specs.{AreAudited}
use Rattle.hhh_engine.specs.Ending.{SourceFaultsRose, SourceFaults, AuditRefused, TextRefused}
use Rattle.hhh_engine.specs.Inputs.{InputBytes, HoldsOfAudit}
use Rattle.session_audit.specs.declared.audit.Audited.{Audited}
use Rattle.prefix_lattice.specs.declared.grain.Grain.{Grain}

-- why a command returns no text: its capture has this first fault, the source's count of faults rose, or memory ran out
abbrev pub HasNoText : (front : Bool) → Option (List ℕ) → ℕ → ℕ → Status → Type 0
HasNoText front left before now (BadCapture fault) = IfSome left (λ file. IsRefusedFile front file fault)
HasNoText front left before now ReadFault = FaultRose before now
HasNoText front left before now OutOfMemory = ⊤
HasNoText front left before now _ = ⊥

-- why the inputs of an audit were not accepted: a fault of the capture or of the text, or a source failed, or memory
-- ran out
abbrev pub HasNoAudit : Settings → InputBytes → (before now : SourceFaults) → Status → Type 0
HasNoAudit settings read before now (BadCapture fault) = IfSome read.capture (λ file. IsRefusedFile settings.front file fault)
HasNoAudit settings read before now ReadFault = SourceFaultsRose before now
HasNoAudit settings read before now (BadReport fault) = AuditRefused settings read fault
HasNoAudit settings read before now OutOfMemory = ⊤
HasNoAudit settings read before now _ = ⊥

-- the inputs of an audit, where their bytes are known
abbrev pub AreAuditing : Settings → DealingRules → InputBytes → Audited → Type 0
AreAuditing settings rules read audited =
    HoldsOfAudit settings read (λ file text. AreAudited settings rules file text audited.dealt audited.session)

-- why the text of a watch was not accepted: it has this first fault, its source failed, or memory ran out
abbrev pub HasNoWatch : Grain → InputBytes → (before now : ℕ) → Status → Type 0
HasNoWatch grain read before now ReadFault = FaultRose before now
HasNoWatch grain read before now (BadReport fault) = TextRefused grain read fault
HasNoWatch grain read before now OutOfMemory = ⊤
HasNoWatch grain read before now _ = ⊥
