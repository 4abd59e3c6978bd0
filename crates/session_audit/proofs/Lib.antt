pub mod FirstUnsoundLemmas
pub mod VerdictTextLemmas
pub mod AuditAnswerLemmas
