-- What `audit` does, step by step.
use Rattle.std.specs.Prelude.{⊤, ℕ, ◌≡◌, List, length, All}
use Rattle.outside_io.specs.{FaultRose}
use Rattle.prefix_lattice.specs.{RecordValue}
use Rattle.hhh_report.specs.declared.reports.Reported.{Reported}
use Rattle.command_words.specs.declared.settings.Settings.{Settings}
use Rattle.session_audit.specs.Audit.{IsFirstUnsound, IsAuditedSound, sound_audit, unsound_audit}
use Rattle.session_audit.specs.declared.audit.Answer.{Answer}
use Rattle.run_status.specs.declared.status.Status.{Status}
use Rattle.run_status.specs.declared.status.Status.TheVariants.{Done, ReadFault, AuditNo}
use Rattle.run_status.specs.declared.status.Status.TheVariants.{OutOfMemory}

-- why bytes were not read: the source's count of faults rose, or memory ran out
abbrev pub HasNoBytes : (before now : ℕ) → Status → Type 0
HasNoBytes before now ReadFault = FaultRose before now
HasNoBytes before now OutOfMemory = ⊤
HasNoBytes before now _ = ⊥

-- the answer of an audit over dealt lists: its text, and the status that it leads to
abbrev pub Says : Settings → List (List RecordValue) → List Reported → List ℕ → Status → Type 0
Says settings lists reports text Done =
    All (IsAuditedSound settings lists) reports × (text ≡ sound_audit (length reports))
Says settings lists reports text (AuditNo report verdict) =
    IsFirstUnsound settings lists reports report verdict × (text ≡ unsound_audit report verdict)
Says settings lists reports text _ = ⊥

-- the same of an answer
abbrev pub IsAuditingAnswer : Settings → List (List RecordValue) → List Reported → Answer → Type 0
IsAuditingAnswer settings lists reports answer = Says settings lists reports answer.text.items answer.status
