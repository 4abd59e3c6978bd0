use Rattle.std.proofs.Common.{All, take}
use Rattle.session_audit.specs.Audit.{IsAuditedSound}
use Rattle.session_audit.proofs.audit.first_unsound.Given as goal

-- the reports so far are sound
abbrev pub invariant-loop-place : goal.invariant-loop-place
invariant-loop-place l = All (IsAuditedSound l.settings l.audited.dealt) (take l.place l.reports)
