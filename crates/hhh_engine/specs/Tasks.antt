-- Within the crate: what each command owes, over what it read.
use Rattle.std.specs.Prelude.{⊤, ℕ, ◌≡◌, Bool, false, List, Option, IfSome}
use Rattle.std.specs.Io.KnownBytes.{IsAtEnd}
use Rattle.outside_io.specs.{FaultRose}
use Rattle.prefix_lattice.specs.{PrefixValue}
use Rattle.slot_disk.specs.declared.disk.Disk.{Ghosts as DiskOf}
use Rattle.command_words.specs.declared.settings.Settings.{Settings}
use Rattle.dealt_capture.specs.{IsCaptureFile, DealingRules}
use Rattle.report_session.specs.{IsAsBefore, IsSession, IsSessionInPart, AreKeptOnDisk}
use Rattle.session_audit.specs.{IsAuditText, IsSoundAudit}
use Rattle.session_watch.specs.{IsWatchOf}
use Rattle.watch_rules.specs.declared.rule.Rule.{Rule}
use Rattle.prefix_lattice.specs.declared.grain.Grain.{Grain}
use Rattle.hhh_engine.specs.Rules.{JudgingRule}
use Rattle.hhh_engine.specs.Answer.{IsUnfinished, IsWeighInPart, formatted_answer}
use Rattle.hhh_engine.specs.Ending.{EndsByFinding, EndsByWatching, EndsRefusing, Task}
use Rattle.hhh_engine.specs.Inputs.{InputBytes, HoldsOfAudit}
use Rattle.hhh_engine.specs.Weigh.{IsWeightText}

-- a task without a store and without an audit
abbrev pub plain_task : (front : Bool) → (is_text is_part : List ℕ → Type 0) → (read accepted : Type 0) → Task
plain_task front is_text is_part read accepted = record {
  front = front;
  is_text = is_text;
  is_part = is_part;
  read = read;
  accepted = accepted;
  disk_failed = ⊥;
  disk_same = ⊤;
  store_same = ⊤;
  refuses = λ fault. ⊥;
  finds = λ status. ⊥;
}

-- one that reads nothing, and whose text is one of these
abbrev pub made_task : (List ℕ → Type 0) → Task
made_task IsText = plain_task false IsText (IsUnfinished IsText) ⊤ ⊤

-- that of `weigh`, over a capture with these remaining bytes before and now, where they are known
abbrev pub weigh_task : PrefixValue → Settings → (left left_now : Option (List ℕ)) → Task
weigh_task prefix settings left left_now =
    plain_task settings.front (λ text. IfSome left (λ file. IsWeightText prefix settings file text))
    (λ begun. IfSome left (λ file. IsWeighInPart prefix settings file begun)) (IsAtEnd left_now)
    (IfSome left (IsCaptureFile settings.front))

-- that of `report`, over such a capture, and the disk of a store
abbrev pub report_task : {D : Type 0} → DiskOf D → Settings → DealingRules → (left left_now : Option (List ℕ)) → (old new : D) → Task
report_task d settings rules left left_now old new = record {
  front = settings.front;
  is_text = IsSession settings rules (AreKeptOnDisk d old new) (d.reads old) left;
  is_part = IsSessionInPart settings rules (AreKeptOnDisk d old new) (d.reads old) left;
  read = IsAtEnd left_now;
  accepted = IfSome left (IsCaptureFile settings.front);
  disk_failed = FaultRose (d.faults old) (d.faults new);
  disk_same = new ≡ old;
  store_same = IsAsBefore d old new;
  refuses = EndsRefusing settings rules left (d.reads old) (IsAsBefore d old new);
  finds = λ status. ⊥;
}

-- that of `format`, on a disk
abbrev pub format_task : {D : Type 0} → DiskOf D → (old new : D) → Task
format_task d old new =
    record (made_task (λ text. text ≡ formatted_answer)) {
      disk_failed = FaultRose (d.faults old) (d.faults new);
      disk_same = new ≡ old;
    }

-- that of `audit`, over its inputs; what it found says what a sink took that held `old` and now holds `new`
abbrev pub audit_task : Settings → DealingRules → InputBytes → (old new : Option (List ℕ)) → Task
audit_task settings rules read old new =
    record (plain_task settings.front (λ answer. HoldsOfAudit settings read (λ file session. IsSoundAudit settings rules file session answer))
    (λ begun. HoldsOfAudit settings read (λ file session. IsUnfinished (IsAuditText settings rules file session) begun))
    (IsAtEnd read.capture_left × IsAtEnd read.text_left) (IfSome read.capture (IsCaptureFile settings.front))) {
      finds = EndsByFinding settings rules read old new;
    }

-- that of `watch`, over its inputs, of which it reads the text of a session alone
abbrev pub watch_task : Rule → Grain → JudgingRule → InputBytes → Task
watch_task rule grain judging read =
    record (plain_task false (λ answer. IfSome read.text (λ session. IsWatchOf judging rule grain session answer))
    (λ begun. IfSome read.text (λ session. IsUnfinished (IsWatchOf judging rule grain session) begun)) (IsAtEnd read.text_left) ⊤) {
      finds = EndsByWatching grain read;
    }
