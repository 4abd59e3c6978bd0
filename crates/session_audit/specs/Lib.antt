pub mod Audit
pub mod Answer
-- the face: what contracts of other crates cite
pub use Rattle.session_audit.specs.Audit.{AreAudited, ReadOnFault, ReadPastLimit, IsAuditText}
pub use Rattle.session_audit.specs.Audit.{IsFirstUnsound, IsAuditedSound, IsSoundAudit, IsUnsoundAudit}
pub use Rattle.session_audit.specs.Audit.{verdict_text, sound_audit, unsound_audit}
pub use Rattle.session_audit.specs.Answer.{HasNoBytes, Says, IsAuditingAnswer}
